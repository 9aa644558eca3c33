-- How far the sweep is; the INTIDs of LPIs end.
use Rattle.std.proofs.Common.{◌-◌}
use Rattle.port_call.specs.Core.{shape_of}
use Rattle.its_exec.specs.Plan.{lpis_end}
use Rattle.its_exec.proofs.SweepLemmas.{Sweeping}
use Rattle.its_exec.proofs.sweep.do_sweep.Given as goal

abbrev pub invariant-loop-lpi : goal.invariant-loop-lpi
invariant-loop-lpi g l = Sweeping (g.P.Port.seen l.initial.port) (g.P.Port.seen l.port) l.fetched l.tables l.command l.from

abbrev pub decreases-loop-lpi : goal.decreases-loop-lpi
decreases-loop-lpi g l = lpis_end (shape_of (g.P.Port.seen l.initial.port)) - l.from
