use Rattle.port_core.proofs.GicOpen.RangeLemmas.{map_pushed}
use Rattle.port_core.specs.CoreWords.declared.word_id.WordId.TheVariants.{Plain}
use Rattle.port_ops.specs.GuestWords.{word_among}
use Rattle.port_ops.proofs.words.plain_words.Goals as goal

pub loop-place-preserved : goal.loop-place-preserved
loop-place-preserved c =
    record {
      end = c.loop-place.invariant.end;
      so_far =
          map_pushed (λ place. word_among c.args.shape.now c.args.words.now (Plain place)) c.loop-place.place c.loop-place.list _ c.word_of.result c.loop-place.invariant.so_far c.in_ok-push.ensures.ok c.word_of.ensures;
    }
