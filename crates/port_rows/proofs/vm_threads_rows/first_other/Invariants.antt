-- The guest is the first one.
use Rattle.std.proofs.Common.{◌≡◌}
use Rattle.port_seq.specs.Ports.{told}
use Rattle.port_rows.proofs.vm_threads_rows.first_other.Given as goal

abbrev pub invariant-loop-number : goal.invariant-loop-number
invariant-loop-number g l = (told l.guest).number ≡ 0
