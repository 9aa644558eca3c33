use Rattle.std.proofs.Common.{◌≡◌, ℕ, ◌<◌, ◌≤◌, true, false, take, slice_index_or, vec_capacity}
use Rattle.std.specs.Slots.{slots_items, slots_filled, slots_len}
use Rattle.vcpu_shelf.proofs.closing.drain.Given as goal

-- the slots before this place are in the vector, and the others are still there
abbrev pub invariant-loop-place : goal.invariant-loop-place
invariant-loop-place g l =
    record {
      items : slots_items l.closed.slots ≡ slots_items l.initial.closed.slots;
      count : slots_len l.closed.slots ≡ l.count;
      room : vec_capacity l.room ≡ vec_capacity l.initial.room;
      moved : l.room.items ≡ take l.place (slots_items l.closed.slots);
      gone : (k : ℕ) → k < l.place → slice_index_or (slots_filled l.closed.slots) k false ≡ false;
      left : (k : ℕ) → l.place ≤ k → k < l.count → slice_index_or (slots_filled l.closed.slots) k false ≡ true;
    }
