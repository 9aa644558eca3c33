-- One more record.
use Rattle.std.proofs.Common.{ap}
use Rattle.pe_place.specs.Core.{Local}
use Rattle.port_seq.specs.Ports.{told}
use Rattle.seq_guest.proofs.CpusLemmas.{told_again, cpus_more}
use Rattle.seq_guest.proofs.cpus.add_cpus.Goals as goal

pub loop-vcpu-preserved : goal.loop-vcpu-preserved
loop-vcpu-preserved c =
    let first = told c.args.port.now in
    let mid = told c.loop-vcpu.port in
    let new = told c.set_actor.new.self in
    let so = c.loop-vcpu.invariant in (
      told_again first mid new c.loop-vcpu.vcpu c.set_actor.ensures so.0,
      cpus_more first mid new c.args.cpus.now c.loop-vcpu.cpus c.push.new.self c.loop-vcpu.vcpu c.local_ref.result.now.cpu c.in_ok-push.ensures.ok so.1 c.set_actor.ensures so.0 (ap (λ (local : Local). local.cpu) c.local_ref.ensures),
      so.2,
    )
