use Rattle.std.proofs.Common.{Some, take}
use Rattle.history_commands.specs.HistoryCalls.Found.{found_by}
use Rattle.history_commands.specs.HistoryCalls.Counted.{IsCounted}
use Rattle.history_commands.proofs.written.count_written.Given as goal

-- those so far
abbrev pub invariant-loop-made : goal.invariant-loop-made
invariant-loop-made l = IsCounted (Some l.actor) (found_by l.piece) l.events (take l.made-index l.piece) l.count
