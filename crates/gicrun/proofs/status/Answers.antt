use Rattle.std.proofs.Common.{◌≡◌, None, IfOk, IfSome, subst, sym}
use Rattle.gic_top.specs.GicIo.Faults.{HasRisen}
use Rattle.gic_top.specs.Command.{command_in}
use Rattle.gic_top.specs.Tool.{input_reading, Showed, IsOutcome, HasItsAnswer}
use Rattle.gicrun.proofs.status.Goals as goal

pub returns-in-Ok-clause-outcome : goal.returns-in-Ok-clause-outcome
returns-in-Ok-clause-outcome g c =
    let source = g.S.Source in let sink = g.K.Sink in let scheduled = g.W.SeqWatch in let threaded = g.W.ThrWatch in
    let read = c.run_tool.new.source in let wrote = c.run_tool.new.sink in let watch = c.args.watch.now in let seen = c.run_tool.new.watch in
    let showed = Showed scheduled.scheduled scheduled.last_schedule threaded.threaded threaded.last_threads watch seen in
    subst (λ answer. IfOk answer (λ words. IsOutcome (command_in words.items) (source.left c.args.source.now) (source.left read) (source.faults c.args.source.now) (source.faults read)
    (sink.taken c.args.sink.now) (sink.taken wrote) (sink.faults c.args.sink.now) (sink.faults wrote) showed c.run_tool.result)) (sym c.in-Ok.is)
    (subst (λ items. IsOutcome (command_in items) (source.left c.args.source.now) (source.left read) (source.faults c.args.source.now) (source.faults read)
    (sink.taken c.args.sink.now) (sink.taken wrote) (sink.faults c.args.sink.now) (sink.faults wrote) showed c.run_tool.result) c.as_slice.ensures.value c.run_tool.ensures.outcome)

pub returns-in-Ok-clause-unread_unless_asked : goal.returns-in-Ok-clause-unread_unless_asked
returns-in-Ok-clause-unread_unless_asked g c =
    subst (λ answer. IfOk answer (λ words. input_reading (command_in words.items) ≡ None → c.run_tool.new.source ≡ c.args.source.now)) (sym c.in-Ok.is)
    (subst (λ items. input_reading (command_in items) ≡ None → c.run_tool.new.source ≡ c.args.source.now) c.as_slice.ensures.value c.run_tool.ensures.unread_unless_asked)

pub returns-in-Ok-clause-complete : goal.returns-in-Ok-clause-complete
returns-in-Ok-clause-complete g c =
    let source = g.S.Source in let sink = g.K.Sink in
    subst (λ answer. IfOk answer (λ words. IfSome (input_reading (command_in words.items)) (λ reading. ¬ HasRisen (source.faults c.args.source.now) (source.faults c.run_tool.new.source)
    → ¬ HasRisen (sink.faults c.args.sink.now) (sink.faults c.run_tool.new.sink)
    → IfSome (source.left c.args.source.now) (λ bytes. HasItsAnswer reading bytes c.run_tool.result)))) (sym c.in-Ok.is)
    (subst (λ items. IfSome (input_reading (command_in items)) (λ reading. ¬ HasRisen (source.faults c.args.source.now) (source.faults c.run_tool.new.source)
    → ¬ HasRisen (sink.faults c.args.sink.now) (sink.faults c.run_tool.new.sink)
    → IfSome (source.left c.args.source.now) (λ bytes. HasItsAnswer reading bytes c.run_tool.result))) c.as_slice.ensures.value c.run_tool.ensures.complete)
