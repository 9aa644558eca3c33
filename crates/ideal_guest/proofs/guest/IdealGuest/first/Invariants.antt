use Rattle.std.proofs.Common.{◌≡◌, length, take}
use Rattle.std.specs.List.{filter_map}
use Rattle.floor_calls.specs.Registers.{first_of}
use Rattle.irq_records.specs.Pending.{pending_places}
use Rattle.ideal_guest.specs.Ideal.{candidate_at}
use Rattle.ideal_guest.proofs.guest.IdealGuest.first.Given as goal

-- the first of those of the pending ones so far
abbrev pub invariant-loop-index : goal.invariant-loop-index
invariant-loop-index l =
    record {
      end : l.index-end ≡ length (pending_places l.self.irqs);
      found : l.first ≡ first_of (filter_map (candidate_at l.self l.vcpu) (take l.index (pending_places l.self.irqs)));
    }
