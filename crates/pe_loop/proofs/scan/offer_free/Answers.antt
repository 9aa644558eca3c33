-- The offer is made where the interrupt is free.
use Rattle.std.proofs.Common.{◌&&◌, not, ap, ◌∙◌}
use Rattle.pe_loop.proofs.LookLemmas.{offered_free}
use Rattle.pe_loop.proofs.scan.offer_free.Goals as goal

pub returns-then-not-irq-clause-stands : goal.returns-then-not-irq-clause-stands
returns-then-not-irq-clause-stands c = offered_free c.args.key c.args.irq.now c.args.cpu.now c.args.chooser.now c.offer.new.self
    (ap (λ some. not some && not c.args.irq.now.want) (c.is_none.ensures ∙ ap not c.if-is_none.true) ∙ ap not c.if-not-irq.true) c.offer.ensures.stands
