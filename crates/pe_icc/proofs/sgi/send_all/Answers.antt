-- vCPU by vCPU.
use Rattle.std.proofs.Common.{◌&&◌, nat_lt, ap, ◌∙◌, arith}
use Rattle.pe_loop.specs.Registers.{is_target}
use Rattle.pe_icc.proofs.SgiLemmas.{sends_none, sent_more, still_owing}
use Rattle.pe_icc.proofs.sgi.send_all.Goals as goal

pub loop-vcpu-init : goal.loop-vcpu-init
loop-vcpu-init g c = sends_none (g.P.Port.seen c.args.port.now) c.requires.owes

pub send_at-requires-clause-owes : goal.send_at-requires-clause-owes
send_at-requires-clause-owes g c = still_owing (g.P.Port.seen c.args.port.now) (g.P.Port.seen c.loop-vcpu.port) c.requires.owes c.loop-vcpu.invariant

pub loop-vcpu-preserved : goal.loop-vcpu-preserved
loop-vcpu-preserved g c =
    sent_more (g.P.Port.seen c.args.port.now) (g.P.Port.seen c.loop-vcpu.port) (g.P.Port.seen c.send_at.new.port) c.args.value (g.P.Port.seen c.args.port.now).actor c.loop-vcpu.vcpu c.shape-shape.result.vcpus c.sgi_intid-id.result c.sgi_targets-targets.result.0
    (omega arith) (c.sgi_targets-targets.ensures.members c.loop-vcpu.vcpu ∙ ap (λ sender. nat_lt c.loop-vcpu.vcpu c.shape-shape.result.vcpus && is_target c.args.value sender c.loop-vcpu.vcpu) c.actor.ensures) c.sgi_intid-id.ensures.value c.loop-vcpu.invariant c.send_at.ensures
