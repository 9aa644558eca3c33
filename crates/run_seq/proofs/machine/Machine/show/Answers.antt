-- The registers shown, over the port of its guest.
use Rattle.std.proofs.Common.{refl, ap, ◌∙◌, subst}
use Rattle.law_one_thread_is_eager.specs.PortSeq.Ports.{told, told_all}
use Rattle.law_one_thread_is_eager.specs.PortSeq.Told.{telling}
use Rattle.law_one_thread_is_eager.specs.SeqGuest.Guest.{ShowsList, spot_at}
use Rattle.run_seq.specs.Acts.{ShowsVcpu}
use Rattle.run_seq.proofs.LendLemmas.{IsLent, acts_by, lent_at, lent_told, list_from_any, mine}
use Rattle.run_seq.proofs.machine.Machine.show.Goals as goal

pub show-requires-clause-at : goal.show-requires-clause-at
show-requires-clause-at g c =
    lent_at c.args.self.now c.args.port.now c.set_actor.new.self c.current_mut.result.now c.index_mut-guest.result.now c.args.name.guest
    (record { has = c.requires.loaded.one.guest; again_is = c.set_actor.ensures ∙ ap (λ a. telling a (told_all c.args.port.now)) c.first_of.ensures; lent_is = c.current_mut.ensures.value; vcpus_are = c.index_mut-guest.ensures.value })

pub show-requires-clause-on : goal.show-requires-clause-on
show-requires-clause-on g c =
    let same =
    mine c.args.self.now c.args.port.now c.set_actor.new.self c.current_mut.result.now c.index_mut-guest.result.now c.args.name.guest
    (record { has = c.requires.loaded.one.guest; again_is = c.set_actor.ensures ∙ ap (λ a. telling a (told_all c.args.port.now)) c.first_of.ensures; lent_is = c.current_mut.ensures.value; vcpus_are = c.index_mut-guest.ensures.value }) in
    ap (λ vcpus. spot_at vcpus c.args.name.vcpu) same ∙ c.requires.loaded.on

pub returns : goal.returns
returns g c =
    let machine = c.args.self.now in
    let port = c.args.port.now in
    let number = c.args.name.guest in
    let again = c.set_actor.new.self in
    let lent = c.current_mut.result.now in
    let vcpus = c.index_mut-guest.result.now in
    let last = c.show.new.port in
    let after = c.show.new.self in
    let is : IsLent machine port again lent vcpus number
    = record { has = c.requires.loaded.one.guest; again_is = c.set_actor.ensures ∙ ap (λ a. telling a (told_all port)) c.first_of.ensures; lent_is = c.current_mut.ensures.value; vcpus_are = c.index_mut-guest.ensures.value } in
    let same = lent_told machine port again lent vcpus number is in
    let list = c.show.result in
    acts_by machine port again lent vcpus number is (ShowsVcpu c.args.name.vcpu list) _ last after refl refl refl
    (record { shown = list_from_any _ (told last) 0 vcpus after c.args.name.vcpu list (subst (λ t. ShowsList t (told last) vcpus after c.args.name.vcpu list) same c.show.ensures.shown); spots = c.show.ensures.spots; quiet = c.show.ensures.quiet })
