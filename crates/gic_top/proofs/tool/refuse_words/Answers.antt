use Rattle.gic_top.proofs.ReplyLemmas.{refused_closed}
use Rattle.gic_top.proofs.tool.refuse_words.Goals as goal

pub returns-clause-closed : goal.returns-clause-closed
returns-clause-closed g c =
    let sink = g.K.Sink in
    refused_closed (sink.taken c.args.sink.now) (sink.taken c.tell.new.sink) (sink.faults c.args.sink.now) (sink.faults c.tell.new.sink) c.tell.result c.tell.ensures
