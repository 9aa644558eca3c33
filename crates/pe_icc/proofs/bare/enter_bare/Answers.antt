-- The look for a kick, the round, and its end.
use Rattle.std.proofs.Common.{ap, arith}
use Rattle.pe_icc.proofs.BareLemmas.{enters_bare_so}
use Rattle.pe_icc.proofs.bare.enter_bare.Goals as goal

pub returns : goal.returns
returns g c =
    enters_bare_so (g.P.Port.seen c.args.port.now) (g.P.Port.seen c.step.new.self) (g.P.Port.seen c.look_round.new.port) (g.P.Port.seen c.end_scan.new.port) c.args.vcpu c.args.lrs c.step.result c.look_round.result c.local_ref.result.now.cpu c.load.result
    (omega arith) (omega arith) c.requires.off c.step.ensures.adds c.look_round.ensures c.end_scan.ensures (ap (λ local. local.cpu) c.local_ref.ensures) c.load.ensures.value c.load.ensures.back
