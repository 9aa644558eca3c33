use Rattle.std.proofs.Common.{◌≡◌}
use Rattle.ideal_guest.specs.Words.{interrupt_count}
use Rattle.gic_ideal.specs.Ends.{irq_end, is_same_irq_end, changed}
use Rattle.gic_ideal.proofs.ends.irq_ends.Given as goal

-- the changed ends so far
abbrev pub invariant-loop-place : goal.invariant-loop-place
invariant-loop-place l =
    record {
      end : l.place-end ≡ interrupt_count l.opened.shape;
      so_far : l.ends ≡ changed is_same_irq_end (irq_end l.opened) (irq_end l.closed) l.place;
    }
