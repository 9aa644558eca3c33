use Rattle.std.proofs.Common.{OnOk, sym, subst}
use Rattle.gic_top.specs.Reply.{mode_of}
use Rattle.gic_top.specs.Tool.{Showed}
use Rattle.gic_top.proofs.ReplyLemmas.{shown_once}
use Rattle.gic_top.proofs.tool.make_run.Goals as goal

pub returns-in-InOrder-clause-shown : goal.returns-in-InOrder-clause-shown
returns-in-InOrder-clause-shown g c =
    let scheduled = g.W.SeqWatch in let threaded = g.W.ThrWatch in let watch = c.args.watch.now in let seen = c.run.new.watch in
    subst (λ way. OnOk c.run.result
    (Showed scheduled.scheduled scheduled.last_schedule threaded.threaded threaded.last_threads watch seen (mode_of way) c.args.scenario.now))
    (sym c.in-InOrder.is) (shown_once c.run.result _ _ _ _ c.run.ensures.counted c.run.ensures.last)

pub returns-in-OnPes-clause-shown : goal.returns-in-OnPes-clause-shown
returns-in-OnPes-clause-shown g c =
    let scheduled = g.W.SeqWatch in let threaded = g.W.ThrWatch in let watch = c.args.watch.now in let seen = c.run-in-OnPes.new.watch in
    subst (λ way. OnOk c.run-in-OnPes.result
    (Showed scheduled.scheduled scheduled.last_schedule threaded.threaded threaded.last_threads watch seen (mode_of way) c.args.scenario.now))
    (sym c.in-OnPes.is) (shown_once c.run-in-OnPes.result _ _ _ _ c.run-in-OnPes.ensures.counted c.run-in-OnPes.ensures.last)
