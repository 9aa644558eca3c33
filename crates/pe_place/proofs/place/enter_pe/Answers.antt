-- It enters, or nothing happens.
use Rattle.std.proofs.Common.{sym, subst}
use Rattle.pe_place.specs.declared.place.Place.TheVariants.{Shelf, Pe}
use Rattle.pe_place.specs.Parts.{AreResidences}
use Rattle.pe_place.specs.Moves.{Moves}
use Rattle.pe_place.proofs.MoveLemmas.{moves_in, moves_none}
use Rattle.pe_place.proofs.SpotLemmas.{not_entered}
use Rattle.pe_place.proofs.place.enter_pe.Goals as goal

pub returns-in-Shelf-clause-moves : goal.returns-in-Shelf-clause-moves
returns-in-Shelf-clause-moves g c =
    let old = g.P.Port.seen c.args.port.now in
    let new = g.P.Port.seen c.enter.new.port in
    subst (λ place. Moves AreResidences old new place (Pe c.enter.result)) (sym c.in-Shelf.is) (moves_in old new (Shelf c.in-Shelf.vcpu) c.copy_of_shelved.result c.args.lrs c.enter.result (λ p so. so) c.enter.ensures)

pub returns-in_default : goal.returns-in_default
returns-in_default g c =
    record { moves = moves_none (g.P.Port.seen c.args.port.now) c.args.place.now c.requires.at; spot = not_entered c.args.place.now c.in_default.not-Shelf; registers = c.requires.registers }
