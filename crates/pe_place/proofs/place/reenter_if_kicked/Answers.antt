-- It was kicked, or not.
use Rattle.std.proofs.Common.{refl, false, subst}
use Rattle.pe_place.specs.declared.place.Place.TheVariants.{Pe}
use Rattle.pe_place.specs.Moves.{LooksForKick}
use Rattle.pe_place.proofs.MoveLemmas.{moves_then}
use Rattle.pe_place.proofs.LookLemmas.{looks_once}
use Rattle.pe_place.proofs.place.reenter_if_kicked.Goals as goal

pub returns-then-kicked-clause-moves : goal.returns-then-kicked-clause-moves
returns-then-kicked-clause-moves g c =
    let old = g.P.Port.seen c.args.port.now in
    let mid = g.P.Port.seen c.is_kicked-kicked.new.port in
    let new = g.P.Port.seen c.reenter.new.port in
    let looks = looks_once old mid c.args.vcpu.now c.is_kicked-kicked.result c.requires c.is_kicked-kicked.ensures in
    moves_then old mid new (Pe c.args.vcpu.now) (Pe c.args.vcpu.now) (Pe c.reenter.new.vcpu) (λ n one. one) looks.moves c.reenter.ensures.reenters.moves

pub returns-else-kicked-clause-moves : goal.returns-else-kicked-clause-moves
returns-else-kicked-clause-moves g c =
    (looks_once (g.P.Port.seen c.args.port.now) (g.P.Port.seen c.is_kicked-kicked.new.port) c.args.vcpu.now c.is_kicked-kicked.result c.requires c.is_kicked-kicked.ensures).moves

pub returns-else-kicked-clause-quiet : goal.returns-else-kicked-clause-quiet
returns-else-kicked-clause-quiet g c = λ quiet.
    let old = g.P.Port.seen c.args.port.now in
    let new = g.P.Port.seen c.is_kicked-kicked.new.port in
    (looks_once old new c.args.vcpu.now false c.requires (subst (LooksForKick old new) quiet c.is_kicked-kicked.ensures), refl)
