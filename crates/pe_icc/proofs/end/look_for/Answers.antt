-- The look.
use Rattle.pe_icc.proofs.FarLemmas.{looked_for}
use Rattle.pe_icc.proofs.end.look_for.Goals as goal

pub returns : goal.returns
returns g c =
    looked_for (g.P.Port.seen c.args.port.now) (g.P.Port.seen c.step-word.new.self) c.args.key c.step-word.result c.in-Some.irq c.requires.none c.step-word.ensures.found c.step-word.ensures.adds c.in-Some.ensures.value
