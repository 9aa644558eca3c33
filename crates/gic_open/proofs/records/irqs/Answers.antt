use Rattle.std.proofs.Common.{ap, ◌∙◌, length}
use Rattle.std.proofs.lemmas.List.FromFn.{length-map-range_with_len}
use Rattle.gic_guest.specs.Words.{key_at, interrupt_count}
use Rattle.gic_open.specs.Opening.{opening_irq}
use Rattle.gic_open.proofs.records.irqs.Goals as goal

pub loop-preset-init : goal.loop-preset-init
loop-preset-init c =
    let guest = c.args.guest.now in
    record {
      each = ap length c.in_ok-irqs.ensures ∙ length-map-range_with_len (λ place. opening_irq guest.on (key_at guest.shape place)) 0 (interrupt_count guest.shape);
      so_far = c.in_ok-irqs.ensures;
    }
