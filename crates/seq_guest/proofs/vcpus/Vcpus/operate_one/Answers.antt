-- It does an operation.
use Rattle.std.proofs.Common.{refl, subst}
use Rattle.guest_end.specs.Calls.{Access}
use Rattle.port_seq.specs.Ports.{told}
use Rattle.port_seq.specs.Told.{GuestTold, seen_of}
use Rattle.pe_place.specs.Parts.{AreOneCall}
use Rattle.pe_place.specs.Moves.{Moves}
use Rattle.seq_guest.proofs.GuestLemmas.{one_goes, place_is}
use Rattle.seq_guest.proofs.PlacesLemmas.{same_spot}
use Rattle.seq_guest.proofs.vcpus.Vcpus.operate_one.Goals as goal

pub returns-clause-goes_on : goal.returns-clause-goes_on
returns-clause-goes_on g c =
    let old = told c.args.port.now in
    let new = told c.operate_on.new.port in
    let before = c.args.self.now in
    let place = c.index_mut.result.now in
    let after = c.operate_on.new.place in
    let is = place_is old before c.args.vcpu place c.requires.at c.requires.there c.index_mut.ensures.value in
    one_goes (AreOneCall c.args.vcpu (Access c.args.op.now) c.operate_on.result) old new before _ c.args.vcpu place after refl refl c.requires.there is c.requires.at
    (subst (λ (told : GuestTold). Moves (AreOneCall told.actor (Access c.args.op.now) c.operate_on.result) (seen_of told) (seen_of new) place after) c.set_actor.ensures c.operate_on.ensures.moves)
    (c.operate_on.ensures.registers before.lrs (c.requires.at.places c.args.vcpu place is).1)

pub returns-clause-spots : goal.returns-clause-spots
returns-clause-spots g c =
    same_spot c.args.self.now _ c.args.vcpu c.index_mut.result.now c.operate_on.new.place refl (place_is (told c.args.port.now) c.args.self.now c.args.vcpu c.index_mut.result.now c.requires.at c.requires.there c.index_mut.ensures.value) c.operate_on.ensures.spot
