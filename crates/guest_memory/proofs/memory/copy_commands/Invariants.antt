use Rattle.std.proofs.Common.{◌≡◌}
use Rattle.guest_memory.specs.Memory.{InTurn, IsCommandCopied, IsKeptBut, command_offset}
use Rattle.guest_memory.proofs.memory.copy_commands.Given as goal

-- what is done so far
abbrev pub invariant-loop-number : goal.invariant-loop-number
invariant-loop-number g l =
    record {
      end : l.number-end ≡ l.commands.count;
      copied : InTurn (λ number. IsCommandCopied (g.M.GuestMemory.may_read l.memory) l.bases (command_offset l.commands number)) l.number l.fn.guest l.guest;
      kept : IsKeptBut l.fn.guest l.guest;
    }
