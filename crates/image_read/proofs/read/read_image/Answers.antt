use Rattle.std.proofs.Common.{◌∙◌, map, sym, subst}
use Rattle.std.proofs.lemmas.Result.{err_from_is_err_and}
use Rattle.serde_json.specs.View.{view}
use Rattle.gic_resume.specs.Reading.{IsImage}
use Rattle.image_read.proofs.ReadLemmas.{told_of, image_is, steps_refused, only_memory, only_run, no_fault}
use Rattle.image_read.proofs.read.read_image.Goals as goal

pub returns-in_err-saved-clause-only : goal.returns-in_err-saved-clause-only
returns-in_err-saved-clause-only c saved image =
    let failed = err_from_is_err_and c.from_residual.result c.from_residual.ensures.1 in
    rw (failed.1, failed.2) (c.in_err-saved.ensures.only saved (told_of (view c.args.value.now) saved image))

pub returns-in_err-steps-clause-bad : goal.returns-in_err-steps-clause-bad
returns-in_err-steps-clause-bad c =
    let failed = err_from_is_err_and c.from_residual-in_err-steps.result c.from_residual-in_err-steps.ensures.1 in
    rw (failed.1, failed.2)
    (steps_refused (view c.args.value.now) c.in_ok-saved.saved c.in_ok-standing.standing (map view c.elements_at-values.result.now) c.in_err-steps.field-0.0 c.in_ok-saved.ensures.ok.0 c.in_ok-standing.ensures.value c.elements_at-values.ensures c.in_err-steps.ensures.bad)

pub returns-in_err-steps-clause-only : goal.returns-in_err-steps-clause-only
returns-in_err-steps-clause-only c saved image =
    let failed = err_from_is_err_and c.from_residual-in_err-steps.result c.from_residual-in_err-steps.ensures.1 in
    rw (failed.1, failed.2)
    (only_memory (view c.args.value.now) saved c.in_ok-saved.saved c.in_ok-standing.standing (map view c.elements_at-values.result.now) c.in_err-steps.field-0.0 image (c.in_ok-saved.ensures.only saved (told_of (view c.args.value.now) saved image)) c.in_ok-standing.ensures.value c.elements_at-values.ensures c.in_err-steps.ensures.bad)

pub returns-clause-ok : goal.returns-clause-ok
returns-clause-ok c =
    subst (IsImage (view c.args.value.now)) (sym c.with_steps.ensures)
    (image_is (view c.args.value.now) c.in_ok-saved.saved c.in_ok-standing.standing (map view c.elements_at-values.result.now) c.in_ok-steps.steps c.in_ok-saved.ensures.ok.0 c.in_ok-standing.ensures.value c.elements_at-values.ensures c.in_ok-steps.ensures.ok)

pub returns-clause-only : goal.returns-clause-only
returns-clause-only c saved image =
    c.with_steps.ensures
    ∙ only_run (view c.args.value.now) saved c.in_ok-saved.saved c.in_ok-standing.standing (map view c.elements_at-values.result.now) c.in_ok-steps.steps image (c.in_ok-saved.ensures.only saved (told_of (view c.args.value.now) saved image)) c.in_ok-standing.ensures.value c.elements_at-values.ensures c.in_ok-steps.ensures.ok

pub returns-clause-sure : goal.returns-clause-sure
returns-clause-sure c fault none =
    no_fault (view c.args.value.now) c.in_ok-saved.saved c.in_ok-standing.standing (map view c.elements_at-values.result.now) c.in_ok-steps.steps fault c.in_ok-saved.ensures.ok.0 c.in_ok-saved.ensures.only c.in_ok-standing.ensures.value c.elements_at-values.ensures c.in_ok-steps.ensures.ok none
