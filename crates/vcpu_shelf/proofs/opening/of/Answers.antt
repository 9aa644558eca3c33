use Rattle.std.proofs.Common.{List, length, map, sym, ap, ◌∙◌}
use Rattle.vcpu_shelf.specs.Word.{stored_word}
use Rattle.vcpu_shelf.proofs.EndLemmas.{opens}
use Rattle.vcpu_shelf.proofs.opening.of.Goals as goal

pub new-requires : goal.new-requires
new-requires g c =
    let t = g.T.Traveller in
    opens t.place t.next t.done c.args.all.items c.len.result c.as_slice-2.result.now c.in_ok-slots.slots.items (c.len.ensures ∙ sym c.as_slice.ensures.len ∙ ap (λ (all : List g.row.T.Denot). length all) c.as_slice.ensures.value) c.requires.placed
    (c.as_slice-2.ensures.value ∙ c.in_ok-words.ensures ∙ ap (λ (all : List g.row.T.Denot). map (λ (traveller : g.row.T.Denot). stored_word (t.done traveller) (t.next traveller)) all) c.as_slice.ensures.value) c.in_ok-slots.ensures
