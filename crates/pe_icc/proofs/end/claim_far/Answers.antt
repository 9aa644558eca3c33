-- It came, or not.
use Rattle.std.proofs.Common.{ap, subst, ◌∙◌}
use Rattle.pe_loop.specs.Lists.{packed, held_as}
use Rattle.pe_loop.specs.VcpuState.declared.loaded.Loaded.{Loaded}
use Rattle.pe_loop.specs.Claiming.{Claims}
use Rattle.pe_loop.specs.VcpuState.Places.{with_place}
use Rattle.pe_loop.specs.Words.{HeldIrq}
use Rattle.std.proofs.Common.{Some}
use Rattle.pe_icc.proofs.FarLemmas.{can_kick, far_done, far_missed}
use Rattle.pe_icc.proofs.end.claim_far.Goals as goal

pub step-requires : goal.step-requires
step-requires g c =
    let old = g.P.Port.seen c.args.port.now in
    let mid = g.P.Port.seen c.claim.new.port in
    can_kick old mid c.args.vcpu c.args.key c.args.irq.now c.actor-vcpu.result (g.P.Port.is_port c.args.port.now) c.requires (subst (Claims old mid c.args.key c.args.irq.now) c.if-claim.false c.claim.ensures) c.actor-vcpu.ensures

pub returns-then-claim : goal.returns-then-claim
returns-then-claim g c =
    let old = g.P.Port.seen c.args.port.now in
    let new = g.P.Port.seen c.claim.new.port in
    let choice = c.chosen_as-choice.result in
    let put : HeldIrq → Loaded → Loaded = λ held vcpu. with_place 0 (packed choice.entry) (Some held) vcpu in
    far_done old new c.args.vcpu c.put.new.self c.args.key c.args.irq.now choice (g.P.Port.is_port c.args.port.now) c.requires (subst (Claims old new c.args.key c.args.irq.now) c.if-claim.true c.claim.ensures) c.chosen_as-choice.ensures.value
    (c.put.ensures.value ∙ ap (λ held. put held c.empty-bare.result) c.held.ensures ∙ ap (put (held_as choice)) c.empty-bare.ensures)

pub returns-else-claim : goal.returns-else-claim
returns-else-claim g c =
    let old = g.P.Port.seen c.args.port.now in
    let mid = g.P.Port.seen c.claim.new.port in
    far_missed old mid (g.P.Port.seen c.step.new.self) c.args.vcpu c.empty-bare.result c.args.key c.args.irq.now c.actor-vcpu.result c.step.result (g.P.Port.is_port c.args.port.now) c.requires
    (subst (Claims old mid c.args.key c.args.irq.now) c.if-claim.false c.claim.ensures) c.actor-vcpu.ensures c.step.ensures.adds c.empty-bare.ensures
