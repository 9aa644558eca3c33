-- A kick that is owed can be sent, and is one of those that are to be.
use Rattle.std.proofs.Common.{ap}
use Rattle.port_call.proofs.SettleLemmas.{can_kick, kick_more, kick_fewer, kicks_over, kicks_keep_marks}
use Rattle.port_call.proofs.send.send_kicks.Goals as goal

pub step-requires : goal.step-requires
step-requires g c =
    can_kick (g.P.Port.seen c.loop-vcpu.port) c.local_ref.result.now.owes c.in-Some.vcpu (g.P.Port.is_port c.loop-vcpu.port) (ap (λ local. local.owes) c.local_ref.ensures) c.in-Some.ensures.first
    (kicks_keep_marks (g.P.Port.seen c.args.port.now) (g.P.Port.seen c.loop-vcpu.port) c.loop-vcpu.invariant c.requires)

pub loop-vcpu-smaller : goal.loop-vcpu-smaller
loop-vcpu-smaller g c =
    kick_fewer (g.P.Port.seen c.loop-vcpu.port) (g.P.Port.seen c.step.new.self) c.local_ref.result.now.owes c.in-Some.vcpu c.step.result (ap (λ local. local.owes) c.local_ref.ensures) c.in-Some.ensures.first c.step.ensures.adds

pub loop-vcpu-preserved : goal.loop-vcpu-preserved
loop-vcpu-preserved g c =
    kick_more (g.P.Port.seen c.args.port.now) (g.P.Port.seen c.loop-vcpu.port) (g.P.Port.seen c.step.new.self) c.local_ref.result.now.owes c.in-Some.vcpu c.step.result (ap (λ local. local.owes) c.local_ref.ensures) c.in-Some.ensures.first
    c.step.ensures.adds c.loop-vcpu.invariant

pub returns : goal.returns
returns g c =
    kicks_over (g.P.Port.seen c.args.port.now) (g.P.Port.seen c.loop-vcpu.port) c.local_ref.result.now.owes (ap (λ local. local.owes) c.local_ref.ensures) c.in_default.ensures.none c.loop-vcpu.invariant
