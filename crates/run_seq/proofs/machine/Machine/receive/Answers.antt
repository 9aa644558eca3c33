-- The device's operation, over the port of its guest.
use Rattle.std.proofs.Common.{refl, sym, ap, ◌∙◌, subst, ◌+◌, ◌<◌, Option, None, ℕ}
use Rattle.law_one_thread_is_eager.specs.PortSeq.Ports.{told, told_all}
use Rattle.law_one_thread_is_eager.specs.PortSeq.Told.{GuestTold, guest_at, telling}
use Rattle.std.proofs.lemmas.Option.{slice_get_within}
use Rattle.law_ends_agree.specs.Calls.{Device as DeviceCall}
use Rattle.law_one_thread_is_eager.specs.PePlace.Parts.{HaveCall}
use Rattle.law_one_thread_is_eager.specs.SeqGuest.Guest.{GoesOn}
use Rattle.run_seq.specs.Acts.{CallsOnce}
use Rattle.run_seq.proofs.LendLemmas.{IsLent, acts_by, event_from_any, first_there, lent_at, lent_told}
use Rattle.run_seq.proofs.machine.Machine.receive.Goals as goal

pub set_actor-requires : goal.set_actor-requires
set_actor-requires g c = first_there c.args.port.now c.args.guest c.first_of.result c.first_of.ensures c.requires.guest.port

pub index_mut-requires : goal.index_mut-requires
index_mut-requires g c =
    subst (λ n. c.args.guest < n) (sym c.args.self.now.guests.ok.0) (slice_get_within c.args.self.now.guests.items c.args.guest c.requires.guest.vcpus c.requires.guest.vcpus_are)

pub receive-requires-clause-at : goal.receive-requires-clause-at
receive-requires-clause-at g c =
    lent_at c.args.self.now c.args.port.now c.set_actor.new.self c.current_mut.result.now c.index_mut.result.now c.args.guest
    (record { has = c.requires.guest; again_is = c.set_actor.ensures ∙ ap (λ a. telling a (told_all c.args.port.now)) c.first_of.ensures; lent_is = c.current_mut.ensures.value; vcpus_are = c.index_mut.ensures.value })

pub returns : goal.returns
returns g c =
    let machine = c.args.self.now in
    let port = c.args.port.now in
    let number = c.args.guest in
    let again = c.set_actor.new.self in
    let lent = c.current_mut.result.now in
    let vcpus = c.index_mut.result.now in
    let last = c.receive.new.port in
    let after = c.receive.new.self in
    let is : IsLent machine port again lent vcpus number
    = record { has = c.requires.guest; again_is = c.set_actor.ensures ∙ ap (λ a. telling a (told_all port)) c.first_of.ensures; lent_is = c.current_mut.ensures.value; vcpus_are = c.index_mut.ensures.value } in
    let same = lent_told machine port again lent vcpus number is in
    let old = guest_at (told_all port) number in
    let op = c.args.op.now in
    let caller = old.guest.shape.vcpus + c.args.device in
    let none : Option ℕ = None in
    acts_by machine port again lent vcpus number is (CallsOnce caller (DeviceCall op) none) _ last after refl refl refl
    (event_from_any _ (told last) 0 vcpus after caller op (subst (λ (t : GuestTold). GoesOn (HaveCall (t.guest.shape.vcpus + c.args.device) (DeviceCall op) none) t (told last) vcpus after) same c.receive.ensures.goes_on) c.receive.ensures.spots c.receive.ensures.quiet)
