use Rattle.std.proofs.Common.{take}
use Rattle.history_calls.specs.Found.{seen_by}
use Rattle.history_calls.specs.Counted.{IsCounted}
use Rattle.history_calls.proofs.compare.count_made.Given as goal

-- those so far
abbrev pub invariant-loop-made : goal.invariant-loop-made
invariant-loop-made l = IsCounted l.actor (seen_by l.is_open l.piece) l.events (take l.made-index l.piece) l.count
