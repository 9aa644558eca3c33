-- It leaves for a while, or nothing happens.
use Rattle.port_seq.specs.Ports.{told}
use Rattle.seq_guest.proofs.GuestLemmas.{goes_none}
use Rattle.seq_guest.proofs.vcpus.Vcpus.set_aside_but.Goals as goal

pub returns-else-vcpu-but-clause-goes_on : goal.returns-else-vcpu-but-clause-goes_on
returns-else-vcpu-but-clause-goes_on c = let first = told c.args.port.now in goes_none first first.actor c.args.self.now c.requires.at
