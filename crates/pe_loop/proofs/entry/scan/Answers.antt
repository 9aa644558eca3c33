-- The look for a kick, the round, and the plan.
use Rattle.std.proofs.Common.{ap, arith}
use Rattle.pe_loop.proofs.EnterLemmas.{scans_so}
use Rattle.pe_loop.proofs.entry.scan.Goals as goal

pub returns : goal.returns
returns g c =
    scans_so (g.P.Port.seen c.args.port.now) (g.P.Port.seen c.step.new.self) (g.P.Port.seen c.look_round-chooser.new.port) c.args.vcpu.now c.args.lrs c.step.result c.look_round-chooser.result c.local_ref.result.now.cpu c.plan.result
    (omega arith) c.requires.off c.step.ensures.adds c.look_round-chooser.ensures (ap (λ local. local.cpu) c.local_ref.ensures) c.plan.ensures.entries c.plan.ensures.value
