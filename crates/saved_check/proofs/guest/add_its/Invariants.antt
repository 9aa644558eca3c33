-- The first words are there.
use Rattle.std.proofs.Common.{◌≡◌, ◌++◌, take}
use Rattle.saved_check.proofs.guest.add_its.Given as goal

abbrev pub invariant-loop-word : goal.invariant-loop-word
invariant-loop-word l = l.words.items ≡ l.initial.words.items ++ take l.word-index l.word-items
