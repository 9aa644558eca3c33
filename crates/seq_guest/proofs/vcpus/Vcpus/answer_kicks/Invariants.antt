-- The rounds so far.
use Rattle.port_seq.specs.Ports.{told}
use Rattle.pe_place.specs.Parts.{AreResidences}
use Rattle.seq_guest.specs.Guest.{GoesOn, ChangesSpots, for_none}
use Rattle.seq_guest.proofs.vcpus.Vcpus.answer_kicks.Given as goal

abbrev pub invariant-loop : goal.invariant-loop
invariant-loop g l =
    (goal.iterator-loop g).can_next l.iterator' × (goal.iterator-loop g).is_finite l.iterator'
    × GoesOn AreResidences (told l.initial.port) (told l.port) l.initial.self l.self × ChangesSpots for_none l.initial.self l.self
