use Rattle.std.proofs.Common.{◌≡◌}
use Rattle.scn_base.specs.Standing.{opening_pes}
use Rattle.gic_guest.specs.Good.{shapes_of}
use Rattle.scn_base.proofs.pes.opening_pes.Given as goal

-- the PEs so far
abbrev pub invariant-loop-pe : goal.invariant-loop-pe
invariant-loop-pe l = l.residents ≡ opening_pes l.pe (shapes_of l.fn.guests)
