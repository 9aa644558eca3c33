-- The records of one more guest.
use Rattle.std.proofs.Common.{ap, ◌∙◌, arith}
use Rattle.law_one_thread_is_eager.specs.PortSeq.Ports.{told_all}
use Rattle.law_one_thread_is_eager.specs.PortSeq.Told.{telling}
use Rattle.run_seq.proofs.LendLemmas.{first_there}
use Rattle.run_seq.proofs.PortLemmas.{IsOut, cpus_more, goes_back}
use Rattle.run_seq.proofs.scheduled.all_cpus.Goals as goal

pub set_actor-requires : goal.set_actor-requires
set_actor-requires c = first_there c.loop-guest.port c.loop-guest.guest c.first_of.result c.first_of.ensures (omega (arith, c.loop-guest-test.true, c.requires, c.loop-guest.invariant.0.ports))

pub returns-in_err-add_cpus-clause-same : goal.returns-in_err-add_cpus-clause-same
returns-in_err-add_cpus-clause-same c =
    let out : IsOut c.loop-guest.port c.set_actor.new.self c.current_mut.result.now c.loop-guest.guest = (record { there = omega (arith, c.loop-guest-test.true, c.requires, c.loop-guest.invariant.0.ports); again_is = c.set_actor.ensures ∙ ap (λ a. telling a (told_all c.loop-guest.port)) c.first_of.ensures; lent_is = c.current_mut.ensures.value }) in
    goes_back c.loop-guest.port c.set_actor.new.self c.current_mut.result.now c.loop-guest.guest out (told_all c.args.port.now) c.add_cpus.new.port c.loop-guest.invariant.0 c.add_cpus.ensures.same

pub loop-guest-preserved : goal.loop-guest-preserved
loop-guest-preserved c =
    let out : IsOut c.loop-guest.port c.set_actor.new.self c.current_mut.result.now c.loop-guest.guest = (record { there = omega (arith, c.loop-guest-test.true, c.requires, c.loop-guest.invariant.0.ports); again_is = c.set_actor.ensures ∙ ap (λ a. telling a (told_all c.loop-guest.port)) c.first_of.ensures; lent_is = c.current_mut.ensures.value }) in (
      goes_back c.loop-guest.port c.set_actor.new.self c.current_mut.result.now c.loop-guest.guest out (told_all c.args.port.now) c.add_cpus.new.port c.loop-guest.invariant.0 c.add_cpus.ensures.same,
      cpus_more (told_all c.args.port.now) c.loop-guest.port c.set_actor.new.self c.current_mut.result.now c.loop-guest.guest c.loop-guest.cpus c.add_cpus.new.cpus c.loop-guest.invariant.0 (omega (arith, c.loop-guest-test.true, c.requires)) out
          c.loop-guest.invariant.1 c.in_ok-add_cpus.ensures.cpus,
    )
