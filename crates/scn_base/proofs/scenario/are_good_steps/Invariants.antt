use Rattle.std.proofs.Common.{◌≡◌, drop}
use Rattle.scn_base.specs.Standing.{IsStanding}
use Rattle.scn_base.proofs.StepLemmas.{have_no_fault}
use Rattle.scn_base.proofs.scenario.are_good_steps.Given as goal

-- the steps have no fault exactly where those that are left have none
abbrev pub invariant-loop-step : goal.invariant-loop-step
invariant-loop-step l =
    record {
      fine : IsStanding l.standing;
      rest : have_no_fault l.mode l.standing (drop l.step-index l.steps) ≡ have_no_fault l.mode l.fn.standing l.steps;
    }
