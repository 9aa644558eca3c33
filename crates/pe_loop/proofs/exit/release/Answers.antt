-- The two steps, and what is owed then.
use Rattle.pe_loop.proofs.ReleaseLemmas.{can_release, releases}
use Rattle.pe_loop.proofs.exit.release.Goals as goal

pub step-requires-2 : goal.step-requires-2
step-requires-2 g c =
    can_release (g.P.Port.seen c.args.port.now) (g.P.Port.seen c.step.new.self) c.args.key c.args.back c.step.result c.requires.vcpu c.requires.there c.requires.can c.requires.owes c.step.ensures.adds

pub returns : goal.returns
returns g c =
    releases (g.P.Port.seen c.args.port.now) (g.P.Port.seen c.step.new.self) (g.P.Port.seen c.step-2.new.self) (g.P.Port.seen c.settle.new.port) c.args.key c.args.back c.step.result c.step-2.result c.requires.owes
    c.step.ensures.adds c.step-2.ensures.adds c.settle.ensures
