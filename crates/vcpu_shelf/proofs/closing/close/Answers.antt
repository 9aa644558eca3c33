use Rattle.std.proofs.Common.{ℕ, List, Option, sym, subst}
use Rattle.std.specs.Slots.{slots_items}
use Rattle.atomic_table.specs.Table.{Final, Seen}
use Rattle.vcpu_shelf.specs.Answer.{AreBack}
use Rattle.vcpu_shelf.specs.Rule.{IsShelf}
use Rattle.vcpu_shelf.proofs.EndLemmas.{closes}
use Rattle.vcpu_shelf.proofs.closing.close.Goals as goal

pub returns : goal.returns
returns g c =
    let t = g.T.Traveller in
    let shelf = c.args.shelf in
    let seat = c.args.seat.seat in
    let words = slots_items c.close_with.result.words in
    let slots = slots_items c.close_with.result.slots in
    subst (λ (os : List (Option g.row.T.Denot)). AreBack t.place t.done shelf.places os) (sym c.drain.ensures)
    (closes t.place t.next t.done shelf.places seat.id seat.me.0 words slots (subst (λ (n : ℕ). Final (Seen (λ s. IsShelf t.place t.next t.done n s) seat.id seat.me.0) words slots) shelf.key c.close_with.ensures.values.2) c.requires.done.each)
