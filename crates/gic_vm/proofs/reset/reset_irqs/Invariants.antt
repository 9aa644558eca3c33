use Rattle.std.proofs.Common.{◌≡◌, ◌<◌, ℕ, false, length, get_or}
use Rattle.ideal_guest.specs.Words.{interrupt_count, key_at, Lpi}
use Rattle.ideal_guest.specs.Calls.{opening_irq}
use Rattle.gic_vm.proofs.reset.reset_irqs.Given as goal

-- the places so far have the records with which their interrupts open
abbrev pub invariant-loop-place : goal.invariant-loop-place
invariant-loop-place l =
    record {
      end : l.place-end ≡ interrupt_count l.shape;
      long : length l.irqs ≡ interrupt_count l.shape;
      opened : (i : ℕ) → i < l.place → get_or l.irqs i (opening_irq false (Lpi 0)) ≡ opening_irq false (key_at l.shape i);
    }
