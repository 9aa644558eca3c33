use Rattle.std.proofs.Common.{◌≡◌}
use Rattle.floor_calls.specs.Calls.{sgi_at, sgi_events}
use Rattle.ideal_guest.proofs.EachLemmas.{found_from, IsUnderway}
use Rattle.ideal_guest.proofs.guest.IdealGuest.send.Given as goal

-- the SGIs at the vCPUs that are left
abbrev pub invariant-loop-vcpu : goal.invariant-loop-vcpu
invariant-loop-vcpu l =
    record {
      end : l.vcpu-end ≡ l.fn.self.shape.vcpus;
      way : IsUnderway l.fn.self (sgi_events l.fn.self.shape l.sender l.value) (found_from (sgi_at l.value l.sender) l.vcpu l.fn.self.shape.vcpus) l.self;
    }
