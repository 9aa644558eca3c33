-- It leaves for a while, or nothing happens.
use Rattle.std.proofs.Common.{sym, ap, subst, ◌∙◌}
use Rattle.pe_place.specs.declared.place.Place.TheVariants.{Aside, Pe}
use Rattle.pe_place.specs.Parts.{AreResidences}
use Rattle.pe_place.specs.Moves.{Moves}
use Rattle.pe_place.proofs.MoveLemmas.{moves_out, moves_none}
use Rattle.pe_place.proofs.SpotLemmas.{not_gone, no_registers}
use Rattle.pe_place.proofs.place.step_aside.Goals as goal

pub returns-in-Pe-clause-moves : goal.returns-in-Pe-clause-moves
returns-in-Pe-clause-moves g c =
    let old = g.P.Port.seen c.args.port.now in
    let new = g.P.Port.seen c.leave.new.port in
    subst (λ place. Moves AreResidences old new place (Aside c.leave.result)) (ap Pe c.copy_of.ensures ∙ sym c.in-Pe.is) (moves_out old new c.copy_of.result (Aside c.leave.result) c.leave.result (λ p so. so) c.leave.ensures.leaves.off c.leave.ensures.leaves)

pub returns-in_default : goal.returns-in_default
returns-in_default g c =
    record { moves = moves_none (g.P.Port.seen c.args.port.now) c.args.place.now c.requires; spot = not_gone c.args.place.now c.in_default.not-Pe; registers = no_registers c.args.place.now c.in_default.not-Pe }
