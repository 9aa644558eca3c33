use Rattle.std.proofs.Common.{ap, ◌∙◌}
use Rattle.port_core.specs.Words.{key_at}
use Rattle.port_core.proofs.GicOpen.RangeLemmas.{map_pushed}
use Rattle.port_core.specs.CoreWords.declared.word_id.WordId.TheVariants.{Irq}
use Rattle.port_ops.specs.GuestWords.{word_among}
use Rattle.port_ops.proofs.words.irq_words.Goals as goal

pub loop-place-preserved : goal.loop-place-preserved
loop-place-preserved c =
    let shape = c.args.shape.now in
    let words = c.args.words.now in
    record {
      end = c.loop-place.invariant.end;
      so_far =
          map_pushed (λ place. word_among shape words (Irq (key_at shape place))) c.loop-place.place c.loop-place.list _ c.word_of.result c.loop-place.invariant.so_far c.in_ok-push.ensures.ok
          (c.word_of.ensures ∙ ap (λ key. word_among shape words (Irq key)) c.key_at.ensures.value);
    }
