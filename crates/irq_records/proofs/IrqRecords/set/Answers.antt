use Rattle.std.proofs.Common.{◌<◌, length, sym, subst, arith}
use Rattle.std.specs.VecDeque.{deque_capacity}
use Rattle.irq_records.specs.Index.{IsKept}
use Rattle.irq_records.proofs.IndexLemmas.{kept_set, room_at}
use Rattle.irq_records.proofs.IrqRecords.set.Goals as goal

pub mark-requires-clause-room : goal.mark-requires-clause-room
mark-requires-clause-room c =
    let kept = c.self.invariant in
    room_at c.args.place (length c.self.inside.records) c.self.inside.index.len c.self.inside.index.cap kept.all (omega arith) (subst (λ irqs. c.args.place < length irqs) (sym c.self.view_is) c.requires.there) c.self.inside.index.ok.0 kept.fits

pub invariant_of-self : goal.invariant_of-self
invariant_of-self c =
    subst (λ irqs. IsKept irqs c.mark.new.index.items (deque_capacity c.mark.new.index)) (sym c.set.ensures)
    (kept_set c.args.place c.args.irq c.pending.result c.self.invariant (subst (λ irqs. c.args.place < length irqs) (sym c.self.view_is) c.requires.there) c.pending.ensures c.mark.ensures.entries c.mark.ensures.capacity)
