-- The look, and the offer.
use Rattle.pe_loop.proofs.LookLemmas.{looks_at}
use Rattle.pe_loop.proofs.scan.look_at.Goals as goal

pub returns-in-Some : goal.returns-in-Some
returns-in-Some g c =
    looks_at (g.P.Port.seen c.args.port.now) (g.P.Port.seen c.step-word.new.self) c.args.chooser.now c.offer_free.new.chooser c.args.cpu.now c.args.key c.step-word.result c.in-Some.irq
    c.step-word.ensures.found.valid c.step-word.ensures.adds c.in-Some.ensures.value c.offer_free.ensures.lrs c.offer_free.ensures.vcpu c.offer_free.ensures.stands
