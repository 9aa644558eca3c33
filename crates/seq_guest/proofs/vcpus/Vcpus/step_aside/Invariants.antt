-- The vCPUs so far.
use Rattle.std.proofs.Common.{◌≡◌}
use Rattle.port_seq.specs.Ports.{told}
use Rattle.pe_place.specs.Place.{gone_aside}
use Rattle.pe_place.specs.Parts.{AreResidences}
use Rattle.seq_guest.specs.Guest.{GoesOn, ChangesSpots, but_one, for_below}
use Rattle.seq_guest.proofs.vcpus.Vcpus.step_aside.Given as goal

abbrev pub invariant-loop-vcpu : goal.invariant-loop-vcpu
invariant-loop-vcpu l =
    GoesOn AreResidences (told l.initial.port) (told l.port) l.initial.self l.self
    × ChangesSpots (for_below l.vcpu (but_one l.fn.but gone_aside)) l.initial.self l.self
    × (l.vcpu-end ≡ (told l.initial.port).guest.shape.vcpus)
