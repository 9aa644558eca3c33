-- It enters its PE again where it was kicked.
use Rattle.std.proofs.Common.{refl, sym, subst, ◌∙◌}
use Rattle.port_seq.specs.Ports.{told}
use Rattle.port_seq.specs.Told.{seen_of}
use Rattle.pe_place.specs.Parts.{AreResidences}
use Rattle.pe_place.specs.Moves.{Moves, WasNotKicked}
use Rattle.seq_guest.proofs.GuestLemmas.{one_goes, place_is}
use Rattle.seq_guest.proofs.KickLemmas.{was_quiet}
use Rattle.seq_guest.proofs.PlacesLemmas.{same_spot, spot_then}
use Rattle.seq_guest.proofs.vcpus.Vcpus.answer_one.Goals as goal

pub returns-clause-goes_on : goal.returns-clause-goes_on
returns-clause-goes_on c =
    let new = told c.answer_kick.new.port in
    let moves = subst (λ told. Moves AreResidences (seen_of told) (seen_of new) c.index_mut.result.now c.answer_kick.new.place) c.set_actor.ensures c.answer_kick.ensures.moves in
    one_goes AreResidences (told c.args.port.now) new c.args.self.now _ c.args.vcpu c.index_mut.result.now c.answer_kick.new.place refl refl c.requires.there (place_is (told c.args.port.now) c.args.self.now c.args.vcpu c.index_mut.result.now c.requires.at c.requires.there c.index_mut.ensures.value) c.requires.at moves (c.answer_kick.ensures.registers c.args.self.now.lrs (c.requires.at.places c.args.vcpu c.index_mut.result.now (place_is (told c.args.port.now) c.args.self.now c.args.vcpu c.index_mut.result.now c.requires.at c.requires.there c.index_mut.ensures.value)).1)

pub returns-clause-spots : goal.returns-clause-spots
returns-clause-spots c = same_spot c.args.self.now _ c.args.vcpu c.index_mut.result.now c.answer_kick.new.place refl (place_is (told c.args.port.now) c.args.self.now c.args.vcpu c.index_mut.result.now c.requires.at c.requires.there c.index_mut.ensures.value) c.answer_kick.ensures.spot

pub returns-clause-words : goal.returns-clause-words
returns-clause-words c = λ none.
    let first = told c.args.port.now in
    let new = told c.answer_kick.new.port in
    let before = c.index_mut.result.now in
    let after = c.answer_kick.new.place in
    (was_quiet (record first { actor = c.args.vcpu }) new before after (subst (λ told. WasNotKicked (seen_of told) (seen_of new) before after) c.set_actor.ensures (c.answer_kick.ensures.quiet none)) c.answer_kick.new.port.run).words

pub returns-clause-quiet : goal.returns-clause-quiet
returns-clause-quiet c = λ none on.
    let first = told c.args.port.now in
    let new = told c.answer_kick.new.port in
    let before = c.index_mut.result.now in
    let after = c.answer_kick.new.place in
    (was_quiet (record first { actor = c.args.vcpu }) new before after (subst (λ told. WasNotKicked (seen_of told) (seen_of new) before after) c.set_actor.ensures (c.answer_kick.ensures.quiet none)) c.answer_kick.new.port.run).unkicked
    (sym (spot_then c.args.self.now.places.items c.args.vcpu before after (place_is first c.args.self.now c.args.vcpu before c.requires.at c.requires.there c.index_mut.ensures.value)) ∙ on)
