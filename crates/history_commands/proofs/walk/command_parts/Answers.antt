use Rattle.std.proofs.Common.{◌≡◌, List, ◌∙◌}
use Rattle.std.proofs.lemmas.Result.{IfOk-weaker}
use Rattle.history_commands.specs.Calls.{Part, View, command_parts, parts}
use Rattle.history_commands.specs.Known.{view_by}
use Rattle.history_commands.specs.Mapped.{targets_by}
use Rattle.history_commands.proofs.WalkLemmas.{parts_good, parts_bad}
use Rattle.history_commands.proofs.walk.command_parts.Goals as goal

pub returns-in-Ok : goal.returns-in-Ok
returns-in-Ok c =
    let targets = targets_by c.args.commands.now c.args.number in
    let view : View = view_by c.args.its c.args.tables.now targets c.args.reads.now in
    IfOk-weaker c.parts_of.result (λ (all : List Part). all ≡ parts c.args.shape.now c.args.tables.now targets c.in-Ok.command) (λ (all : List Part). all ≡ command_parts c.args.shape.now view)
    (λ all is. is ∙ parts_good c.args.shape.now view c.command_words.result (c.command_words.ensures c.args.tables.now targets) c.in-Ok.command c.in-Ok.ensures.0 c.in-Ok.ensures.1) c.parts_of.ensures

pub returns-in-Err : goal.returns-in-Err
returns-in-Err c =
    let targets = targets_by c.args.commands.now c.args.number in
    let view : View = view_by c.args.its c.args.tables.now targets c.args.reads.now in
    c.new.ensures ∙ parts_bad c.args.shape.now view c.command_words.result (c.command_words.ensures c.args.tables.now targets) c.in-Err.field-0 c.in-Err.ensures
