use Rattle.gic_top.specs.ScnBase.Standing.{IsStanding}
use Rattle.seq_rows.proofs.keep.able_steps.Given as goal

abbrev pub invariant-loop-step : goal.invariant-loop-step
invariant-loop-step l = IsStanding l.standing
