-- It leaves, and it enters.
use Rattle.std.proofs.Common.{subst}
use Rattle.pe_op.specs.PeLoop.Enter.{Enters}
use Rattle.pe_op.specs.PeLoop.Stay.{IsUp}
use Rattle.pe_op.specs.VcpuState.declared.loaded.Loaded.{Loaded}
use Rattle.pe_place.specs.Moves.{Reenters}
use Rattle.pe_place.proofs.ReenterLemmas.{reenters}
use Rattle.pe_place.proofs.place.reenter.Goals as goal

pub returns-clause-reenters : goal.returns-clause-reenters
returns-clause-reenters g c =
    let old = g.P.Port.seen c.args.port.now in
    let mid = g.P.Port.seen c.leave-shelved.new.port in
    let new = g.P.Port.seen c.enter.new.port in
    subst (λ (vcpu : Loaded). IsUp old vcpu → Enters mid new c.leave-shelved.result vcpu.regs.n c.enter.result → Reenters old new vcpu c.enter.result) c.copy_of.ensures
    (λ up enters. reenters old mid new c.copy_of.result c.enter.result c.leave-shelved.result up c.leave-shelved.ensures.leaves enters) c.requires c.enter.ensures
