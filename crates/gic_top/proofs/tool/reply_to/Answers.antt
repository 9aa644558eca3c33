use Rattle.std.proofs.Common.{IfOk, sym, subst}
use Rattle.serde_json.specs.View.{view}
use Rattle.gic_top.specs.Reply.{mode_of, reading_of, IsReplyTo}
use Rattle.gic_top.specs.Tool.{scenarios, first_steps, links, images, traces, Showed}
use Rattle.gic_top.proofs.ReplyLemmas.{spelled_reply, apart_reply, scenarios_apart, first_steps_apart, links_apart, traces_apart}
use Rattle.gic_top.proofs.tool.reply_to.Goals as goal

pub returns-in-ScenarioRun-clause-reply : goal.returns-in-ScenarioRun-clause-reply
returns-in-ScenarioRun-clause-reply g c =
    let scheduled = g.W.SeqWatch in let threaded = g.W.ThrWatch in
    let showed = Showed scheduled.scheduled scheduled.last_schedule threaded.threaded threaded.last_threads c.args.watch.now c.scenario_reply.new.watch in
    let value = view c.in-Ok.value in
    subst (λ asked. IfOk c.scenario_reply.result (IsReplyTo (reading_of asked) showed c.args.bytes.now)) (sym c.in-ScenarioRun.is)
    (spelled_reply (scenarios (mode_of c.in-ScenarioRun.way)) showed c.args.bytes.now value (record { utf8 = c.in-Ok.ensures.ok.0; reads = c.in-Ok.ensures.ok.1 })
    (scenarios_apart (mode_of c.in-ScenarioRun.way) value) c.scenario_reply.result c.scenario_reply.ensures.reply)

pub returns-in-FirstSteps-clause-reply : goal.returns-in-FirstSteps-clause-reply
returns-in-FirstSteps-clause-reply g c =
    let scheduled = g.W.SeqWatch in let threaded = g.W.ThrWatch in
    let showed = Showed scheduled.scheduled scheduled.last_schedule threaded.threaded threaded.last_threads c.args.watch.now c.args.watch.now in
    let value = view c.in-Ok.value in
    subst (λ asked. IfOk c.save_reply.result (IsReplyTo (reading_of asked) showed c.args.bytes.now)) (sym c.in-FirstSteps.is)
    (spelled_reply (first_steps c.in-FirstSteps.steps) showed c.args.bytes.now value (record { utf8 = c.in-Ok.ensures.ok.0; reads = c.in-Ok.ensures.ok.1 })
    (first_steps_apart c.in-FirstSteps.steps value) c.save_reply.result c.save_reply.ensures)

pub returns-in-LinksRun-clause-reply : goal.returns-in-LinksRun-clause-reply
returns-in-LinksRun-clause-reply g c =
    let scheduled = g.W.SeqWatch in let threaded = g.W.ThrWatch in
    let showed = Showed scheduled.scheduled scheduled.last_schedule threaded.threaded threaded.last_threads c.args.watch.now c.args.watch.now in
    let value = view c.in-Ok.value in
    subst (λ asked. IfOk c.links_reply.result (IsReplyTo (reading_of asked) showed c.args.bytes.now)) (sym c.in-LinksRun.is)
    (spelled_reply links showed c.args.bytes.now value (record { utf8 = c.in-Ok.ensures.ok.0; reads = c.in-Ok.ensures.ok.1 }) (links_apart value) c.links_reply.result c.links_reply.ensures)

pub returns-in-ImageRun-clause-reply : goal.returns-in-ImageRun-clause-reply
returns-in-ImageRun-clause-reply g c =
    let scheduled = g.W.SeqWatch in let threaded = g.W.ThrWatch in
    let showed = Showed scheduled.scheduled scheduled.last_schedule threaded.threaded threaded.last_threads c.args.watch.now c.args.watch.now in
    subst (λ asked. IfOk c.resume_reply.result (IsReplyTo (reading_of asked) showed c.args.bytes.now)) (sym c.in-ImageRun.is)
    (apart_reply images showed c.args.bytes.now (view c.in-Ok.value) (record { utf8 = c.in-Ok.ensures.ok.0; reads = c.in-Ok.ensures.ok.1 }) c.resume_reply.result c.resume_reply.ensures.apart c.resume_reply.ensures.reply)

pub returns-clause-reply : goal.returns-clause-reply
returns-clause-reply g c =
    let scheduled = g.W.SeqWatch in let threaded = g.W.ThrWatch in
    let showed = Showed scheduled.scheduled scheduled.last_schedule threaded.threaded threaded.last_threads c.args.watch.now c.args.watch.now in
    let value = view c.in-Ok.value in
    subst (λ asked. IfOk c.check_reply.result (IsReplyTo (reading_of asked) showed c.args.bytes.now)) (sym c.in-TraceCheck.is)
    (spelled_reply traces showed c.args.bytes.now value (record { utf8 = c.in-Ok.ensures.ok.0; reads = c.in-Ok.ensures.ok.1 }) (traces_apart value) c.check_reply.result c.check_reply.ensures)
