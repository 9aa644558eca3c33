-- The vCPUs so far.
use Rattle.std.proofs.Common.{◌≡◌, length}
use Rattle.port_seq.specs.Ports.{told}
use Rattle.seq_guest.proofs.OpeningLemmas.{AreOpened}
use Rattle.seq_guest.proofs.vcpus.Vcpus.opening.Given as goal

abbrev pub invariant-loop-vcpu : goal.invariant-loop-vcpu
invariant-loop-vcpu l =
    (told l.port ≡ record (told l.initial.port) { actor = (told l.port).actor })
    × AreOpened (told l.initial.port) l.guest l.places.items
    × (length l.places.items ≡ l.vcpu)
    × (l.vcpu-end ≡ (told l.initial.port).guest.shape.vcpus)
