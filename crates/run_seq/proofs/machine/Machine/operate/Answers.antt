-- The vCPU's operation, over the port of its guest.
use Rattle.std.proofs.Common.{refl, sym, ap, ◌∙◌, subst}
use Rattle.law_one_thread_is_eager.specs.PortSeq.Ports.{told, told_all}
use Rattle.law_one_thread_is_eager.specs.PortSeq.Told.{telling}
use Rattle.law_ends_agree.specs.Calls.{Access}
use Rattle.law_one_thread_is_eager.specs.SeqGuest.Guest.{Operates, spot_at}
use Rattle.run_seq.specs.Acts.{CallsOnce}
use Rattle.run_seq.proofs.LendLemmas.{IsLent, acts_by, lent_at, lent_told, mine, once_from_any}
use Rattle.run_seq.proofs.machine.Machine.operate.Goals as goal

pub operate-requires-clause-at : goal.operate-requires-clause-at
operate-requires-clause-at g c =
    lent_at c.args.self.now c.args.port.now c.set_actor.new.self c.current_mut.result.now c.index_mut-guest.result.now c.args.name.guest
    (record { has = c.requires.loaded.one.guest; again_is = c.set_actor.ensures ∙ ap (λ a. telling a (told_all c.args.port.now)) c.first_of.ensures; lent_is = c.current_mut.ensures.value; vcpus_are = c.index_mut-guest.ensures.value })

pub operate-requires-clause-on : goal.operate-requires-clause-on
operate-requires-clause-on g c =
    let same =
    mine c.args.self.now c.args.port.now c.set_actor.new.self c.current_mut.result.now c.index_mut-guest.result.now c.args.name.guest
    (record { has = c.requires.loaded.one.guest; again_is = c.set_actor.ensures ∙ ap (λ a. telling a (told_all c.args.port.now)) c.first_of.ensures; lent_is = c.current_mut.ensures.value; vcpus_are = c.index_mut-guest.ensures.value }) in
    ap (λ vcpus. spot_at vcpus c.args.name.vcpu) same ∙ c.requires.loaded.on

pub operate-requires-clause-none : goal.operate-requires-clause-none
operate-requires-clause-none g c = λ other e.
    let same =
    mine c.args.self.now c.args.port.now c.set_actor.new.self c.current_mut.result.now c.index_mut-guest.result.now c.args.name.guest
    (record { has = c.requires.loaded.one.guest; again_is = c.set_actor.ensures ∙ ap (λ a. telling a (told_all c.args.port.now)) c.first_of.ensures; lent_is = c.current_mut.ensures.value; vcpus_are = c.index_mut-guest.ensures.value }) in
    c.requires.none other (ap (λ vcpus. spot_at vcpus other) (sym same) ∙ e)

pub returns : goal.returns
returns g c =
    let machine = c.args.self.now in
    let port = c.args.port.now in
    let number = c.args.name.guest in
    let again = c.set_actor.new.self in
    let lent = c.current_mut.result.now in
    let vcpus = c.index_mut-guest.result.now in
    let last = c.operate.new.port in
    let after = c.operate.new.self in
    let is : IsLent machine port again lent vcpus number
    = record { has = c.requires.loaded.one.guest; again_is = c.set_actor.ensures ∙ ap (λ a. telling a (told_all port)) c.first_of.ensures; lent_is = c.current_mut.ensures.value; vcpus_are = c.index_mut-guest.ensures.value } in
    let same = lent_told machine port again lent vcpus number is in
    let op = c.args.op.now in
    let value = c.operate.result in
    acts_by machine port again lent vcpus number is (CallsOnce c.args.name.vcpu (Access op) value) _ last after refl refl refl
    (once_from_any _ (told last) 0 vcpus after c.args.name.vcpu op value (subst (λ t. Operates t (told last) vcpus after c.args.name.vcpu op value) same c.operate.ensures.operates) c.operate.ensures.spots c.operate.ensures.quiet)
