use Rattle.std.proofs.Common.{◌≡◌, All, map, take}
use Rattle.ideal_guest.specs.Sound.{IsSound}
use Rattle.gic_ideal.specs.Eager.{after_steps, state_shapes}
use Rattle.gic_picture.specs.Names.{names_from}
use Rattle.gic_picture.specs.Rows.{tally_after}
use Rattle.gic_picture.proofs.rows.tally_steps.Given as goal

-- the guests after the steps so far, and what is known of the interrupts
abbrev pub invariant-loop-step : goal.invariant-loop-step
invariant-loop-step l =
    record {
      sound : All IsSound l.states.items;
      shapes : state_shapes l.states.items ≡ state_shapes l.fn.states.items;
      states : l.states.items ≡ after_steps (take l.step-index l.steps) l.fn.states.items;
      told : l.tallies ≡ map (tally_after l.steps l.fn.states.items l.step-index) (names_from 0 (state_shapes l.fn.states.items));
    }
