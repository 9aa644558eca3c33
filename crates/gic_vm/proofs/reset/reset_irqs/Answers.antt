use Rattle.std.proofs.Common.{ℕ, ap, ◌∙◌, false, arith}
use Rattle.std.proofs.lemmas.List.{length-set}
use Rattle.ideal_guest.specs.Words.{interrupt_count, key_at, Lpi, Irq}
use Rattle.ideal_guest.specs.Calls.{opening_irq}
use Rattle.guest_memory.proofs.ListLemmas.{put_next, all_of}
use Rattle.gic_vm.proofs.reset.reset_irqs.Goals as goal

pub loop-place-preserved : goal.loop-place-preserved
loop-place-preserved c =
    let is = c.loop-place.invariant in
    let opens : ℕ → Irq = λ place. opening_irq false (key_at c.args.shape.now place) in
    rw c.set.ensures
    (record {
      end = c.interrupt_count-place-end.ensures.value;
      long = length-set c.loop-place.irqs c.loop-place.place c.opening_irq.result ∙ is.long;
      opened =
          put_next c.loop-place.irqs c.loop-place.place c.opening_irq.result (opening_irq false (Lpi 0)) opens (omega (arith, c.loop-place-test.true, is.end, is.long))
          (c.opening_irq.ensures ∙ ap (opening_irq false) c.key_at.ensures.value) is.opened;
    })

pub returns : goal.returns
returns c =
    let is = c.loop-place.invariant in
    let opens : ℕ → Irq = λ place. opening_irq false (key_at c.args.shape.now place) in
    all_of c.loop-place.irqs (interrupt_count c.args.shape.now) (opening_irq false (Lpi 0)) opens is.long (λ i h. is.opened i (omega (arith, h, c.loop-place-test.false, is.end)))
