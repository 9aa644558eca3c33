use Rattle.std.proofs.Common.{length, arith}
use Rattle.irq_records.proofs.IndexLemmas.{index_more, index_none, pending_there, room_at}
use Rattle.irq_records.proofs.IrqRecords.of.Goals as goal

pub loop-place-init : goal.loop-place-init
loop-place-init c =
    record {
      end = c.len-place-end.ensures;
      index = index_none c.in_ok-index.ensures.items;
      room = omega (arith, c.in_ok-index.ensures.capacity, c.len.ensures);
    }

pub mark-requires-clause-room : goal.mark-requires-clause-room
mark-requires-clause-room c =
    let so_far = c.loop-place.invariant in
    room_at c.loop-place.place (length c.args.records) c.loop-place.index.len c.loop-place.index.cap so_far.index (omega (arith, c.loop-place-test.true, so_far.end)) (omega (arith, c.loop-place-test.true, so_far.end)) c.loop-place.index.ok.0 so_far.room

pub loop-place-preserved : goal.loop-place-preserved
loop-place-preserved c =
    let so_far = c.loop-place.invariant in
    record {
      end = so_far.end;
      index = index_more c.loop-place.place c.pending.result so_far.index (pending_there c.loop-place.place _ c.pending.result c.as_slice.ensures (omega (arith, c.loop-place-test.true, so_far.end)) c.pending.ensures) c.mark.ensures.entries;
      room = omega (arith, so_far.room, c.mark.ensures.capacity);
    }
