use Rattle.std.proofs.Common.{◌≡◌, drop, All}
use Rattle.ideal_guest.specs.Sound.{IsSound}
use Rattle.gic_ideal.specs.Eager.{after_steps, state_shapes}
use Rattle.gic_picture.proofs.steps.do_steps.Given as goal

-- what the steps that are left make of the guests is what all make of them
abbrev pub invariant-loop-step : goal.invariant-loop-step
invariant-loop-step l =
    record {
      sound : All IsSound l.states.items;
      shapes : state_shapes l.states.items ≡ state_shapes l.fn.states.items;
      left : after_steps (drop l.step-index l.steps) l.states.items ≡ after_steps l.steps l.fn.states.items;
    }
