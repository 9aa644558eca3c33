use Rattle.std.proofs.Common.{◌≡◌, ◌++◌, map}
use Rattle.std.specs.List.{range_with_len}
use Rattle.ideal_guest.specs.Words.{interrupt_count}
use Rattle.gic_picture.specs.Names.{irq_name}
use Rattle.gic_picture.proofs.names.add_irqs.Given as goal

-- the interrupts so far
abbrev pub invariant-loop-place : goal.invariant-loop-place
invariant-loop-place l =
    record {
      end : l.place-end ≡ interrupt_count l.shape;
      so_far : l.names ≡ l.initial.names ++ map (irq_name l.guest l.shape) (range_with_len 0 l.place);
    }
