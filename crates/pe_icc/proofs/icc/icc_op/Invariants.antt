-- So far each try found a kick.
use Rattle.std.proofs.Common.{false}
use Rattle.pe_icc.specs.Icc.{IsAgain}
use Rattle.pe_icc.proofs.icc.icc_op.Given as goal

abbrev pub invariant-loop : goal.invariant-loop
invariant-loop g l =
    (goal.iterator-loop g).can_next l.iterator' × (goal.iterator-loop g).is_finite l.iterator'
    × IsAgain (g.P.Port.seen l.initial.port) (g.P.Port.seen l.port) l.reg l.write (record { vcpu = l.initial.vcpu; owing = false }) l.stay
