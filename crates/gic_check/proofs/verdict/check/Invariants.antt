use Rattle.std.proofs.Common.{take}
use Rattle.trace_told.specs.Histories.{opening_guest}
use Rattle.gic_check.specs.Play.{IsAfter}
use Rattle.gic_check.proofs.verdict.check.Given as goal

-- so many events can be
abbrev pub invariant-loop-index : goal.invariant-loop-index
invariant-loop-index l = IsAfter (opening_guest l.trace.guest) (take l.index l.trace.events) l.index l.play
