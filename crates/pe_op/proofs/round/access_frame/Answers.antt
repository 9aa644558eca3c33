-- The exit, the access and the entry.
use Rattle.std.proofs.Common.{ap, subst, ◌∙◌}
use Rattle.pe_icc.specs.VcpuState.Moves.{shelved_of}
use Rattle.pe_icc.specs.PeLoop.Leave.{Leaves}
use Rattle.pe_op.proofs.RoundLemmas.{round_done}
use Rattle.pe_op.proofs.round.access_frame.Goals as goal

pub returns : goal.returns
returns g c =
    let old = g.P.Port.seen c.args.port.now in
    let mid = g.P.Port.seen c.leave-shelved.new.port in
    let shelved = c.leave-shelved.result in
    round_done old mid (g.P.Port.seen c.mem_op-answer.new.port) (g.P.Port.seen c.enter.new.port) c.args.vcpu.now c.enter.result shelved c.args.frame c.args.offset c.args.size c.args.write c.mem_op-answer.result c.requires.up
    (c.leave-shelved.ensures.value ∙ ap shelved_of c.copy_of.ensures) (subst (λ vcpu. Leaves old mid vcpu shelved) c.copy_of.ensures c.leave-shelved.ensures.leaves) c.mem_op-answer.ensures c.enter.ensures
