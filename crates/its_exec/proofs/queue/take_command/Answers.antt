-- The next command: it is fetched, and done, or the queue stalls at it.
use Rattle.std.proofs.Common.{ap, sym, subst, ◌∙◌, option_map, Some}
use Rattle.port_call.specs.Registers.{fault_number, number_of}
use Rattle.its_exec.specs.declared.known.KnownQueue.{KnownQueue}
use Rattle.its_exec.specs.Queue.{IsReady}
use Rattle.its_exec.proofs.QueueLemmas.{ready_shape, takes_runs, holds_next, fetched_ready, fetched_bad, stalled_ready, done_next, done_good, finished_ready}
use Rattle.its_exec.proofs.TakeLemmas.{took_good, took_bad}
use Rattle.its_exec.proofs.queue.take_command.Goals as goal

pub fault_in-requires : goal.fault_in-requires
fault_in-requires g c = ready_shape (g.P.Port.seen c.args.port.now) c.args.shape.now c.args.tables.now c.args.queue.now (g.P.Port.is_port c.args.port.now) c.requires.ready

pub returns-in_default-clause-ready : goal.returns-in_default-clause-ready
returns-in_default-clause-ready g c =
    let old = g.P.Port.seen c.args.port.now in
    let mid = g.P.Port.seen c.fetch-fetched.new.port in
    let new = g.P.Port.seen c.stall.new.port in
    let now = fetched_ready old mid c.args.shape.now c.args.tables.now c.args.queue.now c.fetch-fetched.result c.requires.ready c.fetch-fetched.ensures.fetches in
    let To : KnownQueue → Type 0 = λ queue. IsReady new c.args.shape.now c.args.tables.now queue in
    subst To (sym c.stall.ensures.queue) (stalled_ready mid new c.args.shape.now c.args.tables.now c.args.queue.now _ now c.stall.ensures.stalls)

pub stall-requires-in-Some-clause-bad : goal.stall-requires-in-Some-clause-bad
stall-requires-in-Some-clause-bad g c =
    let old = g.P.Port.seen c.args.port.now in
    let mid = g.P.Port.seen c.fetch-fetched.new.port in
    fetched_bad old mid c.args.shape.now c.args.tables.now c.args.queue.now c.fetch-fetched.result c.decode.result c.number-number.result c.requires.ready c.fetch-fetched.ensures.fetches c.fetch-fetched.ensures.holds c.decode.ensures.value
    (ap (fault_number c.args.shape.now c.args.tables.now) c.in-Ok.is ∙ ap (option_map number_of) (sym c.fault_in.ensures ∙ c.in-Some.is) ∙ ap Some (sym c.number-number.ensures))

pub returns-in-Some-clause-ready : goal.returns-in-Some-clause-ready
returns-in-Some-clause-ready g c =
    let old = g.P.Port.seen c.args.port.now in
    let mid = g.P.Port.seen c.fetch-fetched.new.port in
    let new = g.P.Port.seen c.stall-in-Some.new.port in
    let now = fetched_ready old mid c.args.shape.now c.args.tables.now c.args.queue.now c.fetch-fetched.result c.requires.ready c.fetch-fetched.ensures.fetches in
    let To : KnownQueue → Type 0 = λ queue. IsReady new c.args.shape.now c.args.tables.now queue in
    subst To (sym c.stall-in-Some.ensures.queue) (stalled_ready mid new c.args.shape.now c.args.tables.now c.args.queue.now _ now c.stall-in-Some.ensures.stalls)

pub do_command-requires-clause-known : goal.do_command-requires-clause-known
do_command-requires-clause-known g c =
    (fetched_ready (g.P.Port.seen c.args.port.now) (g.P.Port.seen c.fetch-fetched.new.port) c.args.shape.now c.args.tables.now c.args.queue.now c.fetch-fetched.result c.requires.ready c.fetch-fetched.ensures.fetches).maps

pub do_command-requires-clause-fresh : goal.do_command-requires-clause-fresh
do_command-requires-clause-fresh g c =
    (fetched_ready (g.P.Port.seen c.args.port.now) (g.P.Port.seen c.fetch-fetched.new.port) c.args.shape.now c.args.tables.now c.args.queue.now c.fetch-fetched.result c.requires.ready c.fetch-fetched.ensures.fetches).fresh

pub finish-requires-clause-next : goal.finish-requires-clause-next
finish-requires-clause-next g c =
    let old = g.P.Port.seen c.args.port.now in
    let mid = g.P.Port.seen c.fetch-fetched.new.port in
    done_next mid (g.P.Port.seen c.do_command.new.port) c.args.queue.now c.fetch-fetched.result c.args.tables.now c.in-Ok.command (g.P.Port.is_port c.fetch-fetched.new.port).good.sound.shape.ram_words
    (holds_next old mid c.args.queue.now c.fetch-fetched.result c.fetch-fetched.ensures.fetches c.fetch-fetched.ensures.holds) c.do_command.ensures.does

pub finish-requires-clause-good : goal.finish-requires-clause-good
finish-requires-clause-good g c =
    let old = g.P.Port.seen c.args.port.now in
    let mid = g.P.Port.seen c.fetch-fetched.new.port in
    let now = fetched_ready old mid c.args.shape.now c.args.tables.now c.args.queue.now c.fetch-fetched.result c.requires.ready c.fetch-fetched.ensures.fetches in
    done_good mid (g.P.Port.seen c.do_command.new.port) c.args.shape.now c.args.tables.now c.args.queue.now c.fetch-fetched.result c.in-Ok.command c.decode.result now c.do_command.ensures.does c.decode.ensures.value c.in-Ok.is (sym c.fault_in.ensures ∙ c.in_default-fault_in.is)

pub returns-clause-ready : goal.returns-clause-ready
returns-clause-ready g c =
    let old = g.P.Port.seen c.args.port.now in
    let mid = g.P.Port.seen c.fetch-fetched.new.port in
    let new = g.P.Port.seen c.finish.new.port in
    let queue = c.args.queue.now in
    let now = fetched_ready old mid c.args.shape.now c.args.tables.now queue c.fetch-fetched.result c.requires.ready c.fetch-fetched.ensures.fetches in
    let To : KnownQueue → Type 0 = λ queue. IsReady new c.args.shape.now c.do_command.new.tables queue in
    let moved : KnownQueue → KnownQueue = λ q. record queue { offset = q.offset } in
    subst To (ap moved c.finish.ensures.queue ∙ sym c.finish.ensures.queue)
    (finished_ready mid (g.P.Port.seen c.do_command.new.port) new c.args.shape.now c.args.tables.now c.do_command.new.tables queue c.finish.new.queue.offset c.fetch-fetched.result c.in-Ok.command c.decode.result
    (g.P.Port.is_port c.fetch-fetched.new.port).good.sound.shape.ram_words now (holds_next old mid queue c.fetch-fetched.result c.fetch-fetched.ensures.fetches c.fetch-fetched.ensures.holds) (takes_runs queue c.requires.takes) c.do_command.ensures.does
    c.do_command.ensures.tables c.decode.ensures.value c.in-Ok.is (sym c.fault_in.ensures ∙ c.in_default-fault_in.is) c.finish.ensures.place c.finish.ensures.ends)

pub returns-in_default-clause-takes : goal.returns-in_default-clause-takes
returns-in_default-clause-takes g c =
    let old = g.P.Port.seen c.args.port.now in
    let mid = g.P.Port.seen c.fetch-fetched.new.port in
    took_bad old mid (g.P.Port.seen c.stall.new.port) c.args.shape.now c.args.tables.now c.args.queue.now c.fetch-fetched.result c.decode.result _ (g.P.Port.is_port c.fetch-fetched.new.port).good.sound.shape.ram_words c.requires.ready c.requires.takes
    c.fetch-fetched.ensures.fetches c.fetch-fetched.ensures.holds c.decode.ensures.value (ap (fault_number c.args.shape.now c.args.tables.now) c.in_default.is) c.stall.ensures.stalls c.stall.new.queue (returns-in_default-clause-ready g c) c.stall.ensures.queue

pub returns-in-Some-clause-takes : goal.returns-in-Some-clause-takes
returns-in-Some-clause-takes g c =
    let old = g.P.Port.seen c.args.port.now in
    let mid = g.P.Port.seen c.fetch-fetched.new.port in
    took_bad old mid (g.P.Port.seen c.stall-in-Some.new.port) c.args.shape.now c.args.tables.now c.args.queue.now c.fetch-fetched.result c.decode.result c.number-number.result (g.P.Port.is_port c.fetch-fetched.new.port).good.sound.shape.ram_words c.requires.ready
    c.requires.takes c.fetch-fetched.ensures.fetches c.fetch-fetched.ensures.holds c.decode.ensures.value
    (ap (fault_number c.args.shape.now c.args.tables.now) c.in-Ok.is ∙ ap (option_map number_of) (sym c.fault_in.ensures ∙ c.in-Some.is) ∙ ap Some (sym c.number-number.ensures)) c.stall-in-Some.ensures.stalls c.stall-in-Some.new.queue (returns-in-Some-clause-ready g c) c.stall-in-Some.ensures.queue

pub returns-clause-takes : goal.returns-clause-takes
returns-clause-takes g c =
    let old = g.P.Port.seen c.args.port.now in
    let mid = g.P.Port.seen c.fetch-fetched.new.port in
    let queue = c.args.queue.now in
    let moved : KnownQueue → KnownQueue = λ q. record queue { offset = q.offset } in
    took_good old mid (g.P.Port.seen c.do_command.new.port) (g.P.Port.seen c.finish.new.port) c.args.shape.now c.args.tables.now queue c.finish.new.queue.offset c.fetch-fetched.result c.in-Ok.command c.decode.result
    (g.P.Port.is_port c.fetch-fetched.new.port).good.sound.shape.ram_words c.requires.ready c.requires.takes c.fetch-fetched.ensures.fetches c.fetch-fetched.ensures.holds c.do_command.ensures.does c.decode.ensures.value c.in-Ok.is
    (sym c.fault_in.ensures ∙ c.in_default-fault_in.is) (ap (λ queue. queue.offset) c.finish.ensures.queue) c.finish.ensures.ends c.do_command.new.tables c.finish.new.queue (returns-clause-ready g c)
    (c.finish.ensures.queue ∙ sym (ap moved c.finish.ensures.queue)) (takes_runs queue c.requires.takes) c.do_command.ensures.tables
