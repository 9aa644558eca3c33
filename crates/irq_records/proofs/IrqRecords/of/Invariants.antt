use Rattle.std.proofs.Common.{◌≡◌, ◌≤◌, length}
use Rattle.std.specs.VecDeque.{deque_capacity}
use Rattle.irq_records.specs.Index.{IsIndex}
use Rattle.irq_records.proofs.IrqRecords.of.Given as goal

-- the index is of the records that were looked at, and has room for all
abbrev pub invariant-loop-place : goal.invariant-loop-place
invariant-loop-place l =
    record {
      end : l.place-end ≡ length l.records;
      index : IsIndex l.records l.place l.index.items;
      room : length l.records ≤ deque_capacity l.index;
    }
