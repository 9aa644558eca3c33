-- It enters a PE.
use Rattle.std.proofs.Common.{refl, subst}
use Rattle.port_seq.specs.Ports.{told}
use Rattle.port_seq.specs.Told.{seen_of}
use Rattle.pe_place.specs.Place.{entered}
use Rattle.pe_place.specs.Parts.{AreResidences}
use Rattle.pe_place.specs.Moves.{Moves}
use Rattle.seq_guest.proofs.GuestLemmas.{one_goes, place_is}
use Rattle.seq_guest.proofs.PlacesLemmas.{one_spot}
use Rattle.seq_guest.proofs.vcpus.Vcpus.enter_one.Goals as goal

pub returns-clause-goes_on : goal.returns-clause-goes_on
returns-clause-goes_on c =
    let new = told c.enter_pe.new.port in
    let moves = subst (λ told. Moves AreResidences (seen_of told) (seen_of new) c.index_mut.result.now c.enter_pe.new.place) c.set_actor.ensures c.enter_pe.ensures.moves in
    one_goes AreResidences (told c.args.port.now) new c.args.self.now _ c.args.vcpu c.index_mut.result.now c.enter_pe.new.place refl refl c.requires.there (place_is (told c.args.port.now) c.args.self.now c.args.vcpu c.index_mut.result.now c.requires.at c.requires.there c.index_mut.ensures.value) c.requires.at moves c.enter_pe.ensures.registers

pub returns-clause-spots : goal.returns-clause-spots
returns-clause-spots c = one_spot c.args.self.now _ c.args.vcpu c.index_mut.result.now c.enter_pe.new.place entered refl (place_is (told c.args.port.now) c.args.self.now c.args.vcpu c.index_mut.result.now c.requires.at c.requires.there c.index_mut.ensures.value) c.enter_pe.ensures.spot
