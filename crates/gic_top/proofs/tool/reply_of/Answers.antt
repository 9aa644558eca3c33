use Rattle.std.proofs.Common.{IfOk, sym, subst}
use Rattle.gic_top.specs.Reply.{reading_of, IsReplyTo, IsReplyOf}
use Rattle.gic_top.specs.Tool.{Showed}
use Rattle.gic_top.proofs.ReplyLemmas.{whole_reply}
use Rattle.gic_top.proofs.tool.reply_of.Goals as goal

pub returns-in-Ok-clause-reply : goal.returns-in-Ok-clause-reply
returns-in-Ok-clause-reply g c =
    let source = g.S.Source in let scheduled = g.W.SeqWatch in let threaded = g.W.ThrWatch in
    let read = c.read_all.new.source in let watch = c.args.watch.now in let seen = c.reply_to.new.watch in
    let reading = reading_of c.args.asked in
    let showed = Showed scheduled.scheduled scheduled.last_schedule threaded.threaded threaded.last_threads watch seen in
    let before = source.left c.args.source.now in let after = source.left read in
    subst (IsReplyOf reading showed before after (source.faults c.args.source.now) (source.faults read)) (sym c.unwrap_or.ensures)
    (whole_reply reading showed before after (source.faults c.args.source.now) (source.faults read) c.in-Ok.bytes c.in-Ok.ensures.whole c.in-Ok.ensures.at_most_max c.in-Ok.ensures.ended c.reply_to.result
    (subst (λ bytes. IfOk c.reply_to.result (IsReplyTo reading showed bytes)) c.as_slice.ensures c.reply_to.ensures.reply))
