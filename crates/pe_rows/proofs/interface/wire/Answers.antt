-- The step, and what is owed for it.
use Rattle.std.proofs.Common.{sym, subst}
use Rattle.pe_mem.specs.Core.{AddsStep, CanMake}
use Rattle.pe_rows.proofs.UpLemmas.{can_wire, up_wired}
use Rattle.pe_rows.proofs.interface.wire.Goals as goal

pub step-requires : goal.step-requires
step-requires g c =
    let old = g.P.Port.seen c.args.port.now in
    subst (CanMake old) (sym c.wire_step.ensures) (can_wire old c.args.vcpu.now c.args.id c.args.up c.requires.up c.requires.there)

pub returns : goal.returns
returns g c =
    let old = g.P.Port.seen c.args.port.now in
    let mid = g.P.Port.seen c.step.new.self in
    up_wired old mid (g.P.Port.seen c.settle.new.port) c.args.vcpu.now c.args.id c.step.result c.args.up c.requires.up (subst (λ step. AddsStep old mid step c.step.result) c.wire_step.ensures c.step.ensures.adds) c.settle.ensures
