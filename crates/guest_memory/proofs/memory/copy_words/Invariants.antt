use Rattle.guest_memory.specs.Memory.{InTurn, IsFetched, IsKeptBut}
use Rattle.guest_memory.proofs.memory.copy_words.Given as goal

-- what is done so far
abbrev pub invariant-loop-number : goal.invariant-loop-number
invariant-loop-number g l =
    record {
      copied : InTurn (IsFetched (g.M.GuestMemory.may_read l.memory) l.bases l.offset) l.number l.fn.guest l.guest;
      kept : IsKeptBut l.fn.guest l.guest;
    }
