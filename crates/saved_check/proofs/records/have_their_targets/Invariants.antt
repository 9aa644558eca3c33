use Rattle.std.proofs.Common.{◌≡◌, ◌+◌, ℕ, ◌<◌, ◌≤◌, is_some}
use Rattle.saved_guest.specs.IdealGuests.Words.{Lpi, target_in}
use Rattle.saved_guest.specs.IdealGuests.Registers.{has_target}
use Rattle.saved_guest.specs.IdealGuests.Calls.{irq_in}
use Rattle.saved_check.proofs.records.have_their_targets.Given as goal

-- those so far have
abbrev pub invariant-loop-id : goal.invariant-loop-id
invariant-loop-id l =
    record {
      end : l.id-end ≡ 8192 + l.shape.lpis;
      so_far : (id : ℕ) → 8192 ≤ id → id < l.id → is_some (target_in (irq_in l.shape l.irqs (Lpi id)).route l.shape) ≡ has_target l.tables id;
    }
