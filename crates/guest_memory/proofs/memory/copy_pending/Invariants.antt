use Rattle.std.proofs.Common.{◌≡◌}
use Rattle.guest_memory.specs.Memory.{InTurn, IsPendingCopied, IsKeptBut}
use Rattle.guest_memory.proofs.memory.copy_pending.Given as goal

-- what is done so far
abbrev pub invariant-loop-number : goal.invariant-loop-number
invariant-loop-number g l =
    record {
      end : l.number-end ≡ l.pending.count;
      copied : InTurn (IsPendingCopied (g.M.GuestMemory.may_read l.memory) l.bases l.pending.vcpu) l.number l.fn.guest l.guest;
      kept : IsKeptBut l.fn.guest l.guest;
    }
