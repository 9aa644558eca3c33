-- It enters again, or nothing happens.
use Rattle.std.proofs.Common.{sym, subst}
use Rattle.pe_place.specs.declared.place.Place.TheVariants.{Aside, Pe}
use Rattle.pe_place.specs.Parts.{AreResidences}
use Rattle.pe_place.specs.Moves.{Moves}
use Rattle.pe_place.proofs.MoveLemmas.{moves_in, moves_none}
use Rattle.pe_place.proofs.SpotLemmas.{not_returned}
use Rattle.pe_place.proofs.place.come_back.Goals as goal

pub returns-in-Aside-clause-moves : goal.returns-in-Aside-clause-moves
returns-in-Aside-clause-moves g c =
    let old = g.P.Port.seen c.args.port.now in
    let new = g.P.Port.seen c.enter.new.port in
    subst (λ place. Moves AreResidences old new place (Pe c.enter.result)) (sym c.in-Aside.is) (moves_in old new (Aside c.in-Aside.vcpu) c.copy_of_shelved.result c.args.lrs c.enter.result (λ p so. so) c.enter.ensures)

pub returns-in_default : goal.returns-in_default
returns-in_default g c =
    record { moves = moves_none (g.P.Port.seen c.args.port.now) c.args.place.now c.requires.at; spot = not_returned c.args.place.now c.in_default.not-Aside; registers = c.requires.registers }
