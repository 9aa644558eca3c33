use Rattle.std.proofs.Common.{◌≡◌}
use Rattle.guest_memory.specs.Memory.{put_some, IsKeptBut}
use Rattle.guest_memory.proofs.memory.put_in_all.Given as goal

-- what is done so far
abbrev pub invariant-loop-vcpu : goal.invariant-loop-vcpu
invariant-loop-vcpu l =
    record {
      end : l.vcpu-end ≡ l.fn.guest.shape.vcpus;
      copied : l.guest ≡ put_some l.bases l.address l.at l.value l.vcpu l.fn.guest;
      kept : IsKeptBut l.fn.guest l.guest;
    }
