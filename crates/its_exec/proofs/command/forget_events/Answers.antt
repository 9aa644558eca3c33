-- The first event, as long as there is one.
use Rattle.std.proofs.Common.{sym, ◌∙◌}
use Rattle.its_exec.proofs.ForgetLemmas.{forgetting_none, forgetting_more, forgetting_over, forgotten_rest, fewer}
use Rattle.its_exec.proofs.command.forget_events.Goals as goal

pub loop-event-init : goal.loop-event-init
loop-event-init g c = forgetting_none (g.P.Port.seen c.args.port.now) c.args.fetched.now c.args.tables.now c.args.device c.requires.sound c.requires.valid c.requires.ease c.requires.holds

pub loop-event-smaller : goal.loop-event-smaller
loop-event-smaller g c = fewer c.loop-event.tables c.forget_event.new.tables (c.args.device, c.in-Some.event) c.in-Some.ensures.found c.forget_event.ensures.tables

pub loop-event-preserved : goal.loop-event-preserved
loop-event-preserved g c =
    let old = g.P.Port.seen c.args.port.now in
    forgetting_more old (g.P.Port.seen c.loop-event.port) (g.P.Port.seen c.forget_event.new.port) c.args.fetched.now c.args.tables.now c.loop-event.tables c.forget_event.new.tables c.args.device c.in-Some.event (g.P.Port.is_port c.args.port.now).good.sound.shape.ram_words
    (sym c.first_event.ensures.value ∙ c.in-Some.is) c.forget_event.ensures.tables c.forget_event.ensures.does c.loop-event.invariant

pub returns-clause-does : goal.returns-clause-does
returns-clause-does g c =
    forgetting_over (g.P.Port.seen c.args.port.now) (g.P.Port.seen c.loop-event.port) c.args.fetched.now c.args.tables.now c.loop-event.tables c.args.device (sym c.first_event.ensures.value ∙ c.in_default.is) c.loop-event.invariant

pub returns-clause-tables : goal.returns-clause-tables
returns-clause-tables g c = forgotten_rest c.args.tables.now c.loop-event.tables c.args.device (sym c.first_event.ensures.value ∙ c.in_default.is) c.loop-event.invariant.rest
