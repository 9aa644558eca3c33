-- The end of a good command.
use Rattle.std.proofs.Common.{ap, ◌∙◌, arith}
use Rattle.port_call.specs.Registers.{advanced}
use Rattle.its_exec.proofs.QueueLemmas.{can_end}
use Rattle.its_exec.proofs.queue.finish.Goals as goal

pub step-requires : goal.step-requires
step-requires g c =
    let within = c.advance-offset.ensures.within in
    let most = c.queue_bytes.ensures.most in
    can_end (g.P.Port.seen c.args.port.now) c.args.queue.now c.args.fetched.now c.advance-offset.result (g.P.Port.is_port c.args.port.now) c.requires.taken c.requires.ease c.requires.next c.requires.good
    (c.advance-offset.ensures.value ∙ ap (advanced c.args.queue.now.offset) c.queue_bytes.ensures.value) (record { place = c.advance-offset.ensures.multiple; within = omega (arith, within, most) })

pub returns-clause-place : goal.returns-clause-place
returns-clause-place g c =
    let within = c.advance-offset.ensures.within in
    let most = c.queue_bytes.ensures.most in
    record { place = c.advance-offset.ensures.multiple; within = omega (arith, within, most) }
