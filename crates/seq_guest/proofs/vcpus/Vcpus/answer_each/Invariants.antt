-- The vCPUs so far.
use Rattle.std.proofs.Common.{◌≡◌, false}
use Rattle.port_seq.specs.Ports.{told}
use Rattle.pe_place.specs.Parts.{AreResidences}
use Rattle.seq_guest.specs.Guest.{GoesOn, ChangesSpots, for_none}
use Rattle.seq_guest.proofs.KickLemmas.{NoneBelow}
use Rattle.seq_guest.proofs.vcpus.Vcpus.answer_each.Given as goal

abbrev pub invariant-loop-vcpu : goal.invariant-loop-vcpu
invariant-loop-vcpu l =
    GoesOn AreResidences (told l.initial.port) (told l.port) l.initial.self l.self
    × ChangesSpots (for_none) l.initial.self l.self
    × (l.answered ≡ false → NoneBelow l.vcpu (told l.port) l.self)
    × (l.vcpu-end ≡ (told l.initial.port).guest.shape.vcpus)
