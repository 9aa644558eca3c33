use Rattle.std.proofs.Common.{◌+◌, ◌*◌, ◌≡◌}
use Rattle.guest_memory.specs.Memory.{InTurn, IsRead, IsKeptBut, put_all}
use Rattle.guest_memory.proofs.memory.copy_table.Given as goal

-- what is done so far
abbrev pub invariant-loop-number : goal.invariant-loop-number
invariant-loop-number g l =
    record {
      end : l.number-end ≡ l.wanted.count;
      copied :
          InTurn (λ number between. let at = 8 * (l.wanted.first + number) in IsRead (g.M.GuestMemory.may_read l.memory) (l.address + at) (put_all l.bases l.address at) between) l.number l.fn.guest l.guest;
      kept : IsKeptBut l.fn.guest l.guest;
    }
