use Rattle.std.proofs.Common.{List, ap, ◌∙◌, ◌+◌}
use Rattle.history_commands.specs.Calls.{Happened, words_read}
use Rattle.history_commands.specs.declared.walk.Walk.{Walk}
use Rattle.history_commands.specs.Known.{view_by}
use Rattle.history_commands.proofs.walk.Walk.make_part.Goals as goal

pub returns-clause-after : goal.returns-clause-after
returns-clause-after c = λ targets h.
    let walk : Walk = c.args.self.now in
    ap (λ (reads : List Happened). record walk { reads = reads; made = walk.made + 1 })
    (c.in_ok-self.ensures walk.tables targets ∙ ap (λ (fetch : List Happened). words_read c.args.shape.now (view_by walk.its walk.tables targets fetch)) c.as_slice-2.ensures)
