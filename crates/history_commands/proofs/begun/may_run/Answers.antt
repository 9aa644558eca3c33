use Rattle.std.proofs.Common.{◌≡◌, ℕ, IsTrue, [], Some, sym, ◌∙◌}
use Rattle.history_commands.specs.Words.{has_bit}
use Rattle.history_commands.specs.Calls.{named_of}
use Rattle.history_commands.specs.Beginning.{RunsFrom, MayRun}
use Rattle.history_commands.proofs.BegunNamed.{none_may, some_may, then_both, not_both}
use Rattle.history_commands.proofs.begun.may_run.Goals as goal

pub returns-in-None : goal.returns-in-None
returns-in-None c = none_may (Some c.args.actor) c.args.piece.now c.from_named.result.now (MayRun c.args.written) c.from_named.ensures c.in-None.ensures.cases tt

pub returns-then-has_bit : goal.returns-then-has_bit
returns-then-has_bit c =
    some_may (Some c.args.actor) c.args.piece.now c.from_named.result.now c.in-Some.one.now c.in-Some.rest.now (MayRun c.args.written) c.only_runs.result c.from_named.ensures c.in-Some.ensures.cases.0
    (then_both c.has_bit.result c.only_runs.result (IsTrue (has_bit c.args.written 0)) (((offset : ℕ) × RunsFrom offset c.in-Some.one.now) × (named_of (Some c.args.actor) c.in-Some.rest.now ≡ [])) c.if-has_bit.true (λ h. sym c.has_bit.ensures ∙ h, λ h. c.has_bit.ensures ∙ h) c.only_runs.ensures)

pub returns-else-has_bit : goal.returns-else-has_bit
returns-else-has_bit c =
    some_may (Some c.args.actor) c.args.piece.now c.from_named.result.now c.in-Some.one.now c.in-Some.rest.now (MayRun c.args.written) c.has_bit.result c.from_named.ensures c.in-Some.ensures.cases.0
    (not_both c.has_bit.result (IsTrue (has_bit c.args.written 0)) (((offset : ℕ) × RunsFrom offset c.in-Some.one.now) × (named_of (Some c.args.actor) c.in-Some.rest.now ≡ [])) c.if-has_bit.false (λ h. sym c.has_bit.ensures ∙ h, λ h. c.has_bit.ensures ∙ h))
