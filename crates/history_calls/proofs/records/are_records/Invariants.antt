use Rattle.std.proofs.Common.{◌≡◌, drop}
use Rattle.history_calls.specs.Exact.{are_records}
use Rattle.history_calls.proofs.records.are_records.Given as goal

-- those that are left tell it
abbrev pub invariant-loop-made : goal.invariant-loop-made
invariant-loop-made l = are_records l.shape (drop l.made-index l.piece) ≡ are_records l.shape l.piece
