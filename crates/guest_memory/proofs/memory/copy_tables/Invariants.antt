use Rattle.std.proofs.Common.{◌≡◌}
use Rattle.guest_memory.specs.Memory.{InTurn, IsTableCopied, IsKeptBut}
use Rattle.guest_memory.proofs.memory.copy_tables.Given as goal

-- what is done so far
abbrev pub invariant-loop-vcpu : goal.invariant-loop-vcpu
invariant-loop-vcpu g l =
    record {
      end : l.vcpu-end ≡ l.fn.guest.shape.vcpus;
      copied : InTurn (IsTableCopied (g.M.GuestMemory.may_read l.memory) l.bases l.wanted) l.vcpu l.fn.guest l.guest;
      kept : IsKeptBut l.fn.guest l.guest;
    }
