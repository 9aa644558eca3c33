use Rattle.std.proofs.Common.{◌≡◌, Some, None, false, ap, subst}
use Rattle.gic_top.specs.Command.{command_in}
use Rattle.gic_top.specs.Reply.{IsReplyFor}
use Rattle.gic_top.specs.Tool.{input_reading, is_shown, Showed}
use Rattle.gic_top.proofs.ReplyLemmas.{outcome, closed, ok_row, refused_row, usage_row, bad_json_row, bad_scenario_row, read_fault_row, write_fault_row, too_long_row, no_memory_row, no_command_status, soak_status, its_answer, unrun}
use Rattle.gic_top.proofs.tool.run_tool.Goals as goal

pub returns : goal.returns
returns g c =
    let source = g.S.Source in let sink = g.K.Sink in let scheduled = g.W.SeqWatch in let threaded = g.W.ThrWatch in let read = c.reply_for-reply.new.source in let wrote = c.tell.new.sink in
    let command = command_in c.args.words.now in
    let watch = c.args.watch.now in let seen = c.reply_for-reply.new.watch in
    let showed = Showed scheduled.scheduled scheduled.last_schedule threaded.threaded threaded.last_threads watch seen in
    let reply = subst (λ asked. IsReplyFor showed asked (source.left c.args.source.now) (source.left read) (source.faults c.args.source.now) (source.faults read) c.reply_for-reply.result)
    c.of.ensures.value c.reply_for-reply.ensures.reply in
    let o = outcome command (source.left c.args.source.now) (source.left read) (source.faults c.args.source.now) (source.faults read)
    (sink.taken c.args.sink.now) (sink.taken wrote) (sink.faults c.args.sink.now) (sink.faults wrote) showed c.reply_for-reply.result c.tell.result
    reply c.tell.ensures in
    let status = c.tell.result in
    let unshown = subst (λ asked. is_shown asked ≡ false → seen ≡ watch) c.of.ensures.value c.reply_for-reply.ensures.unshown in
    record {
      closed = closed status o;
      outcome = o;
      ok = ok_row status o;
      refused = refused_row status o;
      usage = usage_row status o;
      bad_json = bad_json_row status o;
      bad_scenario = bad_scenario_row status o;
      read_fault = read_fault_row status o;
      write_fault = write_fault_row status o;
      too_long = too_long_row status o;
      no_memory = no_memory_row status o;
      usage_where_no_command = no_command_status status o;
      unread_unless_asked = subst (λ asked. input_reading asked ≡ None → read ≡ c.args.source.now) c.of.ensures.value c.reply_for-reply.ensures.unread;
      unwatched = λ ok cut refused. c.reply_for-reply.ensures.unwatched
          (unrun (sink.taken c.args.sink.now) (sink.taken wrote) (sink.faults c.args.sink.now) (sink.faults wrote) c.reply_for-reply.result c.tell.result c.tell.ensures ok cut refused);
      host_unwatched = λ host. unshown (ap is_shown host);
      unshown = unshown;
      complete = its_answer showed command (source.left c.args.source.now) (source.left read) (source.faults c.args.source.now) (source.faults read)
          (sink.taken c.args.sink.now) (sink.taken wrote) (sink.faults c.args.sink.now) (sink.faults wrote) c.reply_for-reply.result c.tell.result
          reply c.tell.ensures;
      soak_complete = soak_status status o;
    }
