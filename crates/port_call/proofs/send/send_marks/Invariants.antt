-- The marks so far; as many are left as the set has vCPUs.
use Rattle.std.proofs.Common.{length}
use Rattle.floor_core.specs.Core.{shape_of}
use Rattle.port_call.specs.Settle.{marks_owed, marks_sent}
use Rattle.port_call.proofs.SettleLemmas.{Sending}
use Rattle.port_call.proofs.send.send_marks.Given as goal

abbrev pub invariant-loop-key : goal.invariant-loop-key
invariant-loop-key g l = let old = g.P.Port.seen l.initial.port in Sending marks_owed (marks_sent (shape_of old) old.actor) old (g.P.Port.seen l.port)

abbrev pub decreases-loop-key : goal.decreases-loop-key
decreases-loop-key g l = length (marks_owed (g.P.Port.seen l.port).local)
