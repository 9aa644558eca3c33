-- All vCPUs are on no PE.
use Rattle.std.proofs.Common.{rules}
use Rattle.port_seq.specs.Ports.{told}
use Rattle.seq_guest.proofs.OpeningLemmas.{opened_next, opens_at, at_told}
use Rattle.seq_guest.proofs.vcpus.Vcpus.opening.Goals as goal

pub loop-vcpu-preserved : goal.loop-vcpu-preserved
loop-vcpu-preserved c =
    let so = c.loop-vcpu.invariant in
    let next =
    opened_next (told c.args.port.now) (told c.loop-vcpu.port) (told c.set_actor.new.self) c.args.guest c.loop-vcpu.vcpu c.loop-vcpu.places.items c.push.new.self.items c.local_ref.result.now so.0 so.1 so.2 c.set_actor.ensures
    c.local_ref.ensures c.in_ok-push.ensures.items in
    (next.same, next.opened, next.each, so.3)

pub returns-clause-at : goal.returns-clause-at
returns-clause-at c =
    let so = c.loop-vcpu.invariant in
    at_told (told c.args.port.now) (told c.loop-vcpu.port) _ so.0 (opens_at (told c.args.port.now) c.args.guest _ c.requires.opened so.1 (search rules))
