use Rattle.port_core.proofs.GicOpen.RangeLemmas.{map_pushed}
use Rattle.port_core.specs.Run.{opening_word}
use Rattle.port_ops.proofs.words.opening_words.Goals as goal

pub loop-place-preserved : goal.loop-place-preserved
loop-place-preserved c =
    record {
      end = c.loop-place.invariant.end;
      so_far = map_pushed (opening_word c.args.guest.now) c.loop-place.place c.loop-place.words _ c.opening_word.result c.loop-place.invariant.so_far c.in_ok-push.ensures.ok c.opening_word.ensures;
    }
