use Rattle.std.proofs.Common.{◌≡◌, ◌+◌, All, map, take}
use Rattle.std.specs.List.{range_with_len}
use Rattle.ideal_guest.specs.Sound.{IsSound}
use Rattle.gic_ideal.specs.Eager.{after_steps, state_shapes}
use Rattle.gic_picture.specs.Picture.{column_of, value_at}
use Rattle.gic_picture.proofs.picture.show_steps.Given as goal

-- the guests after the steps so far, and what is shown of them
abbrev pub invariant-loop-step : goal.invariant-loop-step
invariant-loop-step l =
    record {
      sound : All IsSound l.states.items;
      shapes : state_shapes l.states.items ≡ state_shapes l.fn.states.items;
      states : l.states.items ≡ after_steps (take l.step-index l.steps) l.fn.states.items;
      columns : l.columns ≡ map (λ n. column_of l.rows l.vcpus (after_steps (take n l.steps) l.fn.states.items)) (range_with_len 0 (l.step-index + 1));
      values : l.values ≡ map (value_at l.steps l.fn.states.items) (range_with_len 0 l.step-index);
    }
