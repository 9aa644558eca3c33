use Rattle.std.proofs.Common.{[], ◌∷◌, ◌++◌, sym, ap, ◌∙◌}
use Rattle.std.specs.Slots.{slots_items}
use Rattle.port_ops.proofs.WorldLemmas.{take_next}
use Rattle.port_ops.proofs.drain.closed_words.Goals as goal

pub loop-place-preserved : goal.loop-place-preserved
loop-place-preserved g c =
    c.in_ok-push.ensures.ok ∙ ap (λ ws. ws ++ c.word.result ∷ []) c.loop-place.invariant ∙ sym (take_next (slots_items c.args.closed.now.words) c.loop-place.place c.word.result c.word.ensures)
