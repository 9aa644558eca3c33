use Rattle.std.proofs.Common.{List, true, false, refl, sym, ap, ◌∙◌}
use Rattle.history_commands.specs.Calls.{Happened, command_parts}
use Rattle.history_commands.specs.declared.walk.Walk.{Walk}
use Rattle.history_commands.specs.Known.{view_by}
use Rattle.history_commands.specs.Mapped.{targets_by}
use Rattle.history_commands.proofs.WalkLemmas.{can_decided, begun_none, begun_next, fetched_decided}
use Rattle.history_commands.proofs.walk.Walk.begin.Goals as goal

pub returns-then-not-takes_command-clause-can : goal.returns-then-not-takes_command-clause-can
returns-then-not-takes_command-clause-can c =
    let walk : Walk = c.args.self.now in
    let targets = targets_by c.args.commands.now in
    can_decided c.args.shape.now targets walk c.in-BetweenCommands.is false true (sym c.if-not-takes_command.true ∙ c.takes_command.ensures walk.tables (targets walk.number) walk.reads) (λ h. tt, λ u. refl)

pub returns-then-not-takes_command-clause-stage : goal.returns-then-not-takes_command-clause-stage
returns-then-not-takes_command-clause-stage c = λ h.
    let walk : Walk = c.args.self.now in
    let targets = targets_by c.args.commands.now in
    begun_none c.args.shape.now targets walk c.in-BetweenCommands.is (sym c.if-not-takes_command.true ∙ c.takes_command.ensures walk.tables (targets walk.number) walk.reads)

pub returns-then-not-is_fetched-clause-can : goal.returns-then-not-is_fetched-clause-can
returns-then-not-is_fetched-clause-can c =
    let walk : Walk = c.args.self.now in
    let targets = targets_by c.args.commands.now in
    can_decided c.args.shape.now targets walk c.in-BetweenCommands.is true false (sym c.if-not-takes_command.false ∙ c.takes_command.ensures walk.tables (targets walk.number) walk.reads)
    (fetched_decided c.args.shape.now targets walk.its walk.tables walk.number c.as_slice.result.now walk.reads c.is_fetched.result false c.as_slice.ensures (c.is_fetched.ensures walk.tables (targets walk.number)) (sym c.if-not-is_fetched.true))

pub returns-clause-can : goal.returns-clause-can
returns-clause-can c =
    let walk : Walk = c.args.self.now in
    let targets = targets_by c.args.commands.now in
    can_decided c.args.shape.now targets walk c.in-BetweenCommands.is true true (sym c.if-not-takes_command.false ∙ c.takes_command.ensures walk.tables (targets walk.number) walk.reads)
    (fetched_decided c.args.shape.now targets walk.its walk.tables walk.number c.as_slice.result.now walk.reads c.is_fetched.result true c.as_slice.ensures (c.is_fetched.ensures walk.tables (targets walk.number)) (sym c.if-not-is_fetched.false))

pub returns-clause-stage : goal.returns-clause-stage
returns-clause-stage c = λ h.
    let walk : Walk = c.args.self.now in
    let targets = targets_by c.args.commands.now in
    begun_next c.args.shape.now targets walk c.in-BetweenCommands.is c.in_ok-fetch.fetch c.in_ok-parts.parts (sym c.if-not-takes_command.false ∙ c.takes_command.ensures walk.tables (targets walk.number) walk.reads)
    (c.in_ok-fetch.ensures ∙ c.as_slice-reads.ensures)
    (c.in_ok-parts.ensures ∙ ap (λ (reads : List Happened). command_parts c.args.shape.now (view_by walk.its walk.tables (targets walk.number) reads)) c.as_slice-reads.ensures)
