use Rattle.std.proofs.Common.{sym, ◌∙◌}
use Rattle.std.proofs.lemmas.Result.{err_from_is_err_and}
use Rattle.serde_json.specs.View.{view}
use Rattle.scn_read.specs.Step.{step_said}
use Rattle.scn_read.proofs.NarrowLemmas.{fails_as_said, is_as_said, stays_unsaid}
use Rattle.scn_read.proofs.step.step.Goals as goal

pub returns-in-Some : goal.returns-in-Some
returns-in-Some c =
    fails_as_said c.args.mode c.args.standing.now (step_said (view c.args.value.now)) c.in_ok-step.step c.in-Some.code c.requires c.in_ok-step.ensures (sym c.fault_of.ensures ∙ c.in-Some.is)

pub returns-in-None : goal.returns-in-None
returns-in-None c = is_as_said c.args.mode c.args.standing.now (step_said (view c.args.value.now)) c.in_ok-step.step c.requires c.in_ok-step.ensures (sym c.fault_of.ensures ∙ c.in-None.is)

pub returns-in_err-step : goal.returns-in_err-step
returns-in_err-step c =
    let failed = err_from_is_err_and c.from_residual.result c.from_residual.ensures.1 in
    rw (failed.1, failed.2) (stays_unsaid c.args.mode c.args.standing.now (step_said (view c.args.value.now)) c.in_err-step.field-0.0 c.in_err-step.ensures)
