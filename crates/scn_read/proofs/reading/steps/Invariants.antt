use Rattle.std.proofs.Common.{◌≡◌, ◌+◌, map, drop}
use Rattle.serde_json.specs.View.{view}
use Rattle.scn_base.specs.Standing.{IsStanding}
use Rattle.scn_read.specs.Reading.{steps_of}
use Rattle.scn_read.proofs.StepLemmas.{all_steps}
use Rattle.scn_read.proofs.reading.steps.Given as goal

-- the steps so far and those that are left, judged from the standing on, are all
abbrev pub invariant-loop-index : goal.invariant-loop-index
invariant-loop-index l =
    record {
      fine : IsStanding l.standing;
      steps : all_steps l.steps (steps_of l.mode l.standing (l.first + l.index) (map view (drop l.index l.values))) ≡ steps_of l.mode l.fn.standing l.first (map view l.values);
    }
