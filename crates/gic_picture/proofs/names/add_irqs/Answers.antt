use Rattle.std.proofs.Common.{rules}
use Rattle.gic_picture.specs.Names.{irq_name}
use Rattle.gic_picture.proofs.ListLemmas.{mapped_more}
use Rattle.gic_picture.proofs.names.add_irqs.Goals as goal

pub loop-place-preserved : goal.loop-place-preserved
loop-place-preserved c =
    record {
      end = c.interrupt_count-place-end.ensures.value;
      so_far =
          mapped_more (irq_name c.args.guest c.args.shape.now) c.loop-place.place c.args.names.now c.loop-place.names _ _ c.loop-place.invariant.so_far c.in_ok-push.ensures.ok (search rules);
    }
