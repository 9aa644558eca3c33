-- It is the same vCPU, further on.
use Rattle.std.proofs.Common.{List, subst, ◌∙◌}
use Rattle.gic_io.specs.Words.{GuestOp}
use Rattle.port_table.specs.Ports.{seen_of}
use Rattle.pe_place.specs.PeLoop.Enter.{Enters}
use Rattle.pe_place.specs.VcpuState.declared.shelved.Shelved.{Shelved}
use Rattle.thr_trip.specs.Operate.{Operates}
use Rattle.thr_trip.specs.Trip.{TripTold}
use Rattle.thr_trip.proofs.VisitLemmas.{visited_is}
use Rattle.thr_trip.proofs.trip.Trip.visit_pe.Goals as goal

pub invariant_of-self-clause-is : goal.invariant_of-self-clause-is
invariant_of-self-clause-is g c =
    let before = c.args.self.now in
    let trip : TripTold = record { vcpu = before.vcpu; place = before.place; script = before.script; answers = before.answers.items; seen = seen_of before.port } in
    let entered = seen_of c.enter-loaded.new.port in
    let operated = seen_of c.operate.new.port in
    let left = seen_of c.leave-self.new.port in
    let loaded = c.enter-loaded.result in
    let after = c.operate.new.vcpu in
    let answers = c.operate.new.answers.items in
    visited_is g.J.Naming.words g.J.Naming.lrs g.J.Naming.steps trip before.is entered operated left loaded after c.leave-self.result c.len.result answers
    (subst (λ n. Enters trip.seen entered trip.vcpu n loaded) c.requires.same (subst (λ (vcpu : Shelved). Enters trip.seen entered vcpu c.args.lrs loaded) c.copy_of.ensures c.enter-loaded.ensures))
    (subst (λ (script : List GuestOp). Operates script entered operated loaded after trip.answers answers) c.as_slice.ensures c.operate.ensures.operates) c.leave-self.ensures.leaves c.leave-self.ensures.value (c.len.ensures ∙ c.operate.new.answers.ok.0)
