use Rattle.std.proofs.Common.{◌≡◌, Bool, List, false, true, get_or, sym, subst, ◌∙◌}
use Rattle.std.specs.Slots.{slots_items, slots_filled}
use Rattle.vcpu_shelf.proofs.EndLemmas.{moved_more, gone_more, left_more}
use Rattle.vcpu_shelf.proofs.closing.drain.Goals as goal

pub loop-place-preserved : goal.loop-place-preserved
loop-place-preserved g c =
    let at = c.loop-place in
    let items = slots_items at.closed.slots in
    let others = c.take.ensures.others in
    let filled = slots_filled at.closed.slots in
    record {
      items = others.0 ∙ at.invariant.items;
      count = others.2 ∙ at.invariant.count;
      room = c.push_reserved.ensures.capacity ∙ at.invariant.room;
      moved = moved_more at.room.items c.push_reserved.new.self.items items (slots_items c.take.new.self.slots) at.place c.take.result c.push_reserved.ensures.items at.invariant.moved c.take.ensures.value others.0;
      gone = λ k below. subst (λ (bs : List Bool). get_or bs k false ≡ false) (sym others.1) (gone_more filled at.place at.invariant.gone k below);
      left = λ k above below. subst (λ (bs : List Bool). get_or bs k false ≡ true) (sym others.1) (left_more filled at.place c.args.count at.invariant.left k above below);
    }
