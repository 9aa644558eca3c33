-- It leaves its PE.
use Rattle.std.proofs.Common.{refl, subst}
use Rattle.port_seq.specs.Ports.{told}
use Rattle.port_seq.specs.Told.{seen_of}
use Rattle.pe_place.specs.Place.{left}
use Rattle.pe_place.specs.Parts.{AreResidences}
use Rattle.pe_place.specs.Moves.{Moves}
use Rattle.seq_guest.proofs.GuestLemmas.{one_goes, place_is}
use Rattle.seq_guest.proofs.PlacesLemmas.{one_spot}
use Rattle.seq_guest.proofs.vcpus.Vcpus.leave_one.Goals as goal

pub returns-clause-goes_on : goal.returns-clause-goes_on
returns-clause-goes_on c =
    let new = told c.leave_pe.new.port in
    let moves = subst (λ told. Moves AreResidences (seen_of told) (seen_of new) c.index_mut.result.now c.leave_pe.new.place) c.set_actor.ensures c.leave_pe.ensures.moves in
    one_goes AreResidences (told c.args.port.now) new c.args.self.now _ c.args.vcpu c.index_mut.result.now c.leave_pe.new.place refl refl c.requires.there (place_is (told c.args.port.now) c.args.self.now c.args.vcpu c.index_mut.result.now c.requires.at c.requires.there c.index_mut.ensures.value) c.requires.at moves (c.leave_pe.ensures.registers c.args.self.now.lrs)

pub returns-clause-spots : goal.returns-clause-spots
returns-clause-spots c = one_spot c.args.self.now _ c.args.vcpu c.index_mut.result.now c.leave_pe.new.place left refl (place_is (told c.args.port.now) c.args.self.now c.args.vcpu c.index_mut.result.now c.requires.at c.requires.there c.index_mut.ensures.value) c.leave_pe.ensures.spot
