-- One more guest has its vCPUs.
use Rattle.std.proofs.Common.{ap, ◌∙◌, arith}
use Rattle.law_one_thread_is_eager.specs.PortSeq.Ports.{told, told_all}
use Rattle.std.proofs.lemmas.List.{length-map}
use Rattle.law_one_thread_is_eager.specs.PortSeq.Told.{GuestTold, telling}
use Rattle.law_one_thread_is_eager.specs.PortSeq.Lending.{with_guest}
use Rattle.run_seq.specs.Agenda.{states_in}
use Rattle.run_seq.proofs.LendLemmas.{first_there}
use Rattle.run_seq.proofs.PortLemmas.{IsOut, comes_back, goes_back, opened_more}
use Rattle.run_seq.proofs.machine.open_all.Goals as goal

pub set_actor-requires : goal.set_actor-requires
set_actor-requires c =
    let so = c.loop-guest.invariant in
    first_there c.loop-guest.port c.loop-guest.guest c.first_of.result c.first_of.ensures (omega (arith, c.loop-guest-test.true, so.0.ports, c.requires.all))

pub loop-guest-preserved : goal.loop-guest-preserved
loop-guest-preserved c =
    let port = c.loop-guest.port in
    let again = c.set_actor.new.self in
    let lent = c.current_mut.result.now in
    let number = c.loop-guest.guest in
    let last = c.opening.new.port in
    let so = c.loop-guest.invariant in
    let out : IsOut port again lent number = (record { there = omega (arith, c.loop-guest-test.true, c.loop-guest.invariant.0.ports, c.requires.all); again_is = c.set_actor.ensures ∙ ap (λ a. telling a (told_all c.loop-guest.port)) c.first_of.ensures; lent_is = c.current_mut.ensures.value }) in (
      goes_back port again lent number out (told_all c.args.port.now) last so.0 c.opening.ensures.same,
      opened_more (states_in (told_all c.args.port.now)) c.args.lrs (told_all c.args.port.now) (told_all port) (told_all (with_guest again last)) number (told last) c.loop-guest.guests.items c.push.new.self.items c.in_ok-opening.field-0 c.requires.opening so.0
          (omega (arith, c.loop-guest-test.true, c.requires.all, length-map (told_all c.args.port.now).guests (λ (t : GuestTold). t.guest))) (comes_back port again lent number out last c.opening.ensures.same) so.1 c.in_ok-push.ensures.items c.in_ok-opening.ensures.at c.in_ok-opening.ensures.lrs c.in_ok-opening.ensures.spots,
    )
