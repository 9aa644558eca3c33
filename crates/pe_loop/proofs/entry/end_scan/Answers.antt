-- With a kick, and without one.
use Rattle.std.proofs.Common.{sym, subst}
use Rattle.pe_loop.specs.Enter.{EndsScan}
use Rattle.pe_loop.proofs.EnterLemmas.{ends_kicked, ends_well}
use Rattle.pe_loop.proofs.entry.end_scan.Goals as goal

pub returns-then-failed : goal.returns-then-failed
returns-then-failed g c =
    let old = g.P.Port.seen c.args.port.now in
    subst (EndsScan old (g.P.Port.seen c.step.new.self)) (sym c.if-failed.true)
    (ends_kicked old (g.P.Port.seen c.mark_rest.new.port) (g.P.Port.seen c.step.new.self) c.actor-vcpu.result c.step.result c.mark_rest.ensures c.actor-vcpu.ensures c.step.ensures.adds)

pub returns-else-failed : goal.returns-else-failed
returns-else-failed g c =
    let old = g.P.Port.seen c.args.port.now in
    subst (EndsScan old (g.P.Port.seen c.mark_rest.new.port)) (sym c.if-failed.false) (ends_well old (g.P.Port.seen c.mark_rest.new.port) c.mark_rest.ensures)
