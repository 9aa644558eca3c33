use Rattle.std.proofs.Common.{◌≡◌, ℕ, ◌+◌, ◌<◌, Bool, All}
use Rattle.history_turns.specs.Registers.{pending_address}
use Rattle.history_turns.specs.Calls.{memory_places}
use Rattle.history_turns.specs.Risen.{rising_by, IsReadSo}
use Rattle.history_turns.proofs.rise.are_bits_read.Given as goal

-- those so far were read
abbrev pub invariant-loop-number : goal.invariant-loop-number
invariant-loop-number l =
    record {
      end : l.number-end ≡ l.shape.lpis;
      so_far : (is_on : Bool) (vcpu n : ℕ) → n < l.number → All (IsReadSo (rising_by is_on vcpu l.piece) l.piece) (memory_places l.shape (pending_address l.pendbaser (8192 + n)).0 1);
    }
