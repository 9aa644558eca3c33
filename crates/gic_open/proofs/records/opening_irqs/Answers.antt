use Rattle.std.proofs.Common.{ℕ, ap, ◌∙◌}
use Rattle.gic_guest.specs.Words.{key_at, Irq}
use Rattle.gic_open.specs.Opening.{opening_irq}
use Rattle.gic_open.proofs.RangeLemmas.{map_pushed}
use Rattle.gic_open.proofs.records.opening_irqs.Goals as goal

pub loop-place-preserved : goal.loop-place-preserved
loop-place-preserved c =
    let at : ℕ → Irq = λ place. opening_irq c.args.on (key_at c.args.shape.now place) in
    record {
      end = c.interrupt_count-place-end.ensures.value;
      so_far =
          map_pushed at c.loop-place.place c.loop-place.irqs _ c.opening_irq.result c.loop-place.invariant.so_far c.in_ok-push.ensures.ok
          (c.opening_irq.ensures ∙ ap (opening_irq c.args.on) c.key_at.ensures.value);
    }
