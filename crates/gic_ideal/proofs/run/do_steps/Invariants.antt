use Rattle.std.proofs.Common.{length, ◌≡◌, ◌++◌, drop, All}
use Rattle.gic_ideal.specs.Eager.{answers_of, after_steps, state_shapes}
use Rattle.scn_base.specs.Standing.{ResidentsExist}
use Rattle.ideal_guest.specs.Sound.{IsSound}
use Rattle.gic_ideal.proofs.run.do_steps.Given as goal

-- the answers so far and those to what is left are those to all
abbrev pub invariant-loop-step : goal.invariant-loop-step
invariant-loop-step l =
    record {
      sound : All IsSound l.states.items;
      shapes : state_shapes l.states.items ≡ state_shapes l.fn.states.items;
      count : length l.pes ≡ length l.fn.pes;
      residents : ResidentsExist (state_shapes l.fn.states.items) l.pes;
      told : l.answers ++ answers_of l.lrs l.pes (drop l.step-index l.steps) l.states.items ≡ answers_of l.lrs l.fn.pes l.steps l.fn.states.items;
      left : after_steps (drop l.step-index l.steps) l.states.items ≡ after_steps l.steps l.fn.states.items;
    }
