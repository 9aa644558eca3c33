use Rattle.std.proofs.Common.{◌≡◌, take}
use Rattle.floor_histories.specs.Histories.{with_entry}
use Rattle.history_check.proofs.moves.with_entry.Given as goal

abbrev pub invariant-loop-one : goal.invariant-loop-one
invariant-loop-one l = l.all ≡ with_entry l.key l.entry (take l.one-index l.standing)
