use Rattle.std.proofs.Common.{◌≡◌, map}
use Rattle.std.specs.List.{range_with_len}
use Rattle.gic_guest.specs.Words.{interrupt_count, key_at}
use Rattle.gic_open.specs.Opening.{opening_irq}
use Rattle.gic_open.proofs.records.opening_irqs.Given as goal

-- the records at the places so far
abbrev pub invariant-loop-place : goal.invariant-loop-place
invariant-loop-place l =
    record {
      end : l.place-end ≡ interrupt_count l.shape;
      so_far : l.irqs ≡ map (λ place. opening_irq l.on (key_at l.shape place)) (range_with_len 0 l.place);
    }
