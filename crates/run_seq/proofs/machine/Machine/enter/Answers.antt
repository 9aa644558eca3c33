-- The vCPU entered, over the port of its guest.
use Rattle.std.proofs.Common.{refl, ap, ◌∙◌, subst}
use Rattle.law_one_thread_is_eager.specs.PortSeq.Ports.{told, told_all}
use Rattle.law_one_thread_is_eager.specs.PortSeq.Told.{telling}
use Rattle.law_one_thread_is_eager.specs.PePlace.Parts.{AreResidences}
use Rattle.law_one_thread_is_eager.specs.SeqGuest.Guest.{GoesOn}
use Rattle.law_one_thread_is_eager.specs.PePlace.Place.{entered}
use Rattle.run_seq.specs.Acts.{MovesVcpu}
use Rattle.run_seq.proofs.LendLemmas.{IsLent, acts_by, goes_from_any, lent_at, lent_told}
use Rattle.run_seq.proofs.machine.Machine.enter.Goals as goal

pub enter-requires-clause-at : goal.enter-requires-clause-at
enter-requires-clause-at g c =
    lent_at c.args.self.now c.args.port.now c.set_actor.new.self c.current_mut.result.now c.index_mut.result.now c.args.name.guest
    (record { has = c.requires.guest; again_is = c.set_actor.ensures ∙ ap (λ a. telling a (told_all c.args.port.now)) c.first_of.ensures; lent_is = c.current_mut.ensures.value; vcpus_are = c.index_mut.ensures.value })

pub returns : goal.returns
returns g c =
    let machine = c.args.self.now in
    let port = c.args.port.now in
    let number = c.args.name.guest in
    let again = c.set_actor.new.self in
    let lent = c.current_mut.result.now in
    let vcpus = c.index_mut.result.now in
    let last = c.enter.new.port in
    let after = c.enter.new.self in
    let is : IsLent machine port again lent vcpus number
    = record { has = c.requires.guest; again_is = c.set_actor.ensures ∙ ap (λ a. telling a (told_all port)) c.first_of.ensures; lent_is = c.current_mut.ensures.value; vcpus_are = c.index_mut.ensures.value } in
    let same = lent_told machine port again lent vcpus number is in
    acts_by machine port again lent vcpus number is (MovesVcpu c.args.name.vcpu entered) _ last after refl refl refl
    (record { goes_on = goes_from_any AreResidences _ (told last) 0 vcpus after (subst (λ t. GoesOn AreResidences t (told last) vcpus after) same c.enter.ensures.goes_on); spots = c.enter.ensures.spots; quiet = c.enter.ensures.quiet })
