-- The guest is the first one, and the ideal controller's is sound.
use Rattle.std.proofs.Common.{◌≡◌}
use Rattle.port_seq.specs.IdealGuests.Sound.{IsSound}
use Rattle.port_seq.specs.Ports.{told}
use Rattle.op_rows.proofs.tests.image.first_other.Given as goal

abbrev pub invariant-loop-number : goal.invariant-loop-number
invariant-loop-number g l = record { first : (told l.port).number ≡ 0; sound : IsSound l.ideal }
