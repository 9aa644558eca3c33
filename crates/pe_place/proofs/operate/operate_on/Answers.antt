-- It is on its PE.
use Rattle.std.proofs.Common.{sym, subst}
use Rattle.gic_msi.specs.Calls.{Access}
use Rattle.pe_place.specs.declared.place.Place.TheVariants.{Pe}
use Rattle.pe_place.specs.Parts.{AreOneCall}
use Rattle.pe_place.specs.Moves.{Moves}
use Rattle.pe_place.proofs.OperateLemmas.{moves_by}
use Rattle.pe_place.proofs.operate.operate_on.Goals as goal

pub returns-clause-moves : goal.returns-clause-moves
returns-clause-moves g c =
    let old = g.P.Port.seen c.args.port.now in
    let new = g.P.Port.seen c.guest_op.new.port in
    subst (λ place. Moves (AreOneCall old.actor (Access c.args.op.now) c.guest_op.result) old new place (Pe c.guest_op.new.vcpu)) (sym c.in-Pe.is) (moves_by old new c.args.op.now c.in-Pe.vcpu c.guest_op.new.vcpu c.guest_op.result c.guest_op.ensures)
