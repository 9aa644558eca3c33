-- The first are there.
use Rattle.std.proofs.Common.{◌≡◌, ◌++◌, take}
use Rattle.saved_guest.specs.State.{redist_words}
use Rattle.saved_check.proofs.guest.add_redists.Given as goal

abbrev pub invariant-loop-redist : goal.invariant-loop-redist
invariant-loop-redist l = l.words.items ≡ l.initial.words.items ++ redist_words (take l.redist-index l.redists)
