use Rattle.port_core.proofs.GicOpen.RangeLemmas.{map_pushed}
use Rattle.port_core.specs.CoreWords.declared.word_id.WordId.TheVariants.{Vcpu}
use Rattle.port_ops.specs.GuestWords.{word_among}
use Rattle.port_ops.proofs.words.vcpu_words.Goals as goal

pub loop-vcpu-preserved : goal.loop-vcpu-preserved
loop-vcpu-preserved c =
    record {
      end = c.loop-vcpu.invariant.end;
      so_far =
          map_pushed (λ vcpu. word_among c.args.shape.now c.args.words.now (Vcpu vcpu)) c.loop-vcpu.vcpu c.loop-vcpu.list _ c.word_of.result c.loop-vcpu.invariant.so_far c.in_ok-push.ensures.ok c.word_of.ensures;
    }
