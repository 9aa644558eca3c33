use Rattle.std.proofs.Common.{◌≡◌, List, sym, ap, ◌∙◌}
use Rattle.history_commands.specs.Calls.{Happened, View, Done, Stalls, command_words}
use Rattle.history_commands.specs.GicCall.declared.event.Event.TheVariants.{Queue}
use Rattle.history_commands.specs.declared.walk.Walk.{Walk}
use Rattle.history_commands.specs.Known.{view_by}
use Rattle.history_commands.proofs.WalkLemmas.{queue_good, queue_bad, queue_decided}
use Rattle.history_commands.proofs.walk.Walk.end_command.Goals.{in-Ok+else-not-is_done_at, in-Err+else-not-is_stalled_at}
use Rattle.history_commands.proofs.walk.Walk.end_command.Goals as goal

pub returns-then-not-is_done_at-clause-made : goal.returns-then-not-is_done_at-clause-made
returns-then-not-is_done_at-clause-made c = λ targets.
    let walk : Walk = c.args.self.now in
    let view : View = view_by walk.its walk.tables targets walk.fetch in
    let words = c.command_words-words.result in
    let same : words ≡ command_words c.args.shape.now view = c.command_words-words.ensures walk.tables targets ∙ ap (λ (fetch : List Happened). command_words c.args.shape.now (view_by walk.its walk.tables targets fetch)) c.as_slice.ensures in
    queue_decided c.args.shape.now view c.args.made.now (Queue c.next_offset-offset.result (Done words)) c.is_done_at.result _
    (queue_good c.args.shape.now view words same c.next_offset-offset.result c.in-Ok.command c.in-Ok.ensures.0 c.in-Ok.ensures.1 (c.next_offset-offset.ensures walk.tables targets walk.fetch)) c.is_done_at.ensures (sym c.if-not-is_done_at.true)

pub returns-then-not-is_stalled_at-clause-made : goal.returns-then-not-is_stalled_at-clause-made
returns-then-not-is_stalled_at-clause-made c = λ targets.
    let walk : Walk = c.args.self.now in
    let view : View = view_by walk.its walk.tables targets walk.fetch in
    let words = c.command_words-words.result in
    let same : words ≡ command_words c.args.shape.now view = c.command_words-words.ensures walk.tables targets ∙ ap (λ (fetch : List Happened). command_words c.args.shape.now (view_by walk.its walk.tables targets fetch)) c.as_slice.ensures in
    queue_decided c.args.shape.now view c.args.made.now (Queue walk.its.offset (Stalls c.in-Err.fault)) c.is_stalled_at.result _ (queue_bad c.args.shape.now view words same c.in-Err.fault c.in-Err.ensures) c.is_stalled_at.ensures
    (sym c.if-not-is_stalled_at.true)

pub returns-clause-made : goal.returns-clause-made
returns-clause-made c = λ targets.
    let walk : Walk = c.args.self.now in
    let view : View = view_by walk.its walk.tables targets walk.fetch in
    let words = c.command_words-words.result in
    let same : words ≡ command_words c.args.shape.now view = c.command_words-words.ensures walk.tables targets ∙ ap (λ (fetch : List Happened). command_words c.args.shape.now (view_by walk.its walk.tables targets fetch)) c.as_slice.ensures in
    elim c.match-good_command.branch [
      | in-Ok+else-not-is_done_at w ↦
          queue_decided c.args.shape.now view c.args.made.now (Queue w.next_offset-offset.result (Done words)) w.is_done_at.result _
          (queue_good c.args.shape.now view words same w.next_offset-offset.result w.in-Ok.command w.in-Ok.ensures.0 w.in-Ok.ensures.1 (w.next_offset-offset.ensures walk.tables targets walk.fetch)) w.is_done_at.ensures (sym w.if-not-is_done_at.false)
      | in-Err+else-not-is_stalled_at w ↦
          queue_decided c.args.shape.now view c.args.made.now (Queue walk.its.offset (Stalls w.in-Err.fault)) w.is_stalled_at.result _ (queue_bad c.args.shape.now view words same w.in-Err.fault w.in-Err.ensures) w.is_stalled_at.ensures
          (sym w.if-not-is_stalled_at.false)
    ]
