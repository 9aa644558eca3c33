-- It enters its PE again.
use Rattle.std.proofs.Common.{refl, subst}
use Rattle.port_seq.specs.Ports.{told}
use Rattle.port_seq.specs.Told.{seen_of}
use Rattle.pe_place.specs.Place.{IsShown}
use Rattle.pe_place.specs.Moves.{ReentersAt}
use Rattle.seq_guest.proofs.GuestLemmas.{place_is}
use Rattle.seq_guest.proofs.PlacesLemmas.{same_spot, place_set}
use Rattle.seq_guest.proofs.ShowLemmas.{one_shows}
use Rattle.seq_guest.proofs.vcpus.Vcpus.show_one.Goals as goal

pub returns-clause-shows : goal.returns-clause-shows
returns-clause-shows c =
    let first = told c.args.port.now in
    let new = told c.show_pe.new.port in
    let before = c.index_mut.result.now in
    let after = c.show_pe.new.place in
    let is = place_is first c.args.self.now c.args.vcpu before c.requires.at c.requires.there c.index_mut.ensures.value in
    one_shows first new c.args.self.now _ c.args.vcpu before after refl refl c.requires.there is c.requires.at (subst (λ told. ReentersAt (seen_of told) (seen_of new) before after) c.set_actor.ensures c.show_pe.ensures.reenters)
    (c.show_pe.ensures.registers c.args.self.now.lrs (c.requires.at.places c.args.vcpu before is).1) c.args.port.now.good c.show_pe.new.port.run

pub returns-clause-list : goal.returns-clause-list
returns-clause-list c =
    let before = c.index_mut.result.now in
    let after = c.show_pe.new.place in
    let is = place_is (told c.args.port.now) c.args.self.now c.args.vcpu before c.requires.at c.requires.there c.index_mut.ensures.value in
    λ place there. subst (λ place. IsShown place c.show_pe.result) (place_set c.args.self.now.places.items c.args.vcpu before after place is there) c.show_pe.ensures.shown

pub returns-clause-spots : goal.returns-clause-spots
returns-clause-spots c = same_spot c.args.self.now _ c.args.vcpu c.index_mut.result.now c.show_pe.new.place refl (place_is (told c.args.port.now) c.args.self.now c.args.vcpu c.index_mut.result.now c.requires.at c.requires.there c.index_mut.ensures.value) c.show_pe.ensures.spot
