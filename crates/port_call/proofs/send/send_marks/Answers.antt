-- A mark that is owed can be sent, and is one of those that are to be.
use Rattle.port_call.proofs.SettleLemmas.{can_mark, mark_more, mark_fewer, marks_over}
use Rattle.port_call.proofs.send.send_marks.Goals as goal

pub step-requires : goal.step-requires
step-requires g c = can_mark (g.P.Port.seen c.loop-key.port) c.local_ref.result.now c.in-Some.key c.in-Some.vcpu (g.P.Port.is_port c.loop-key.port) c.local_ref.ensures c.in-Some.ensures.next

pub loop-key-smaller : goal.loop-key-smaller
loop-key-smaller g c =
    mark_fewer (g.P.Port.seen c.loop-key.port) (g.P.Port.seen c.step.new.self) c.local_ref.result.now c.in-Some.key c.in-Some.vcpu c.step.result c.local_ref.ensures c.in-Some.ensures.next c.step.ensures.adds

pub loop-key-preserved : goal.loop-key-preserved
loop-key-preserved g c =
    mark_more (g.P.Port.seen c.args.port.now) (g.P.Port.seen c.loop-key.port) (g.P.Port.seen c.step.new.self) c.local_ref.result.now c.in-Some.key c.in-Some.vcpu c.step.result (g.P.Port.is_port c.loop-key.port) c.local_ref.ensures
    c.in-Some.ensures.next c.step.ensures.adds c.loop-key.invariant

pub returns : goal.returns
returns g c =
    marks_over (g.P.Port.seen c.args.port.now) (g.P.Port.seen c.loop-key.port) c.local_ref.result.now (g.P.Port.is_port c.loop-key.port) c.local_ref.ensures c.in_default.ensures.none c.loop-key.invariant
