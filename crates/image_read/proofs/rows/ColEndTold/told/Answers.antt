use Rattle.std.proofs.Common.{◌∙◌, sym}
use Rattle.serde_json.specs.View.{view}
use Rattle.gic_resume.specs.GicSave.Image.{col_data}
use Rattle.image_read.proofs.RowLemmas.{row_is, read_as}
use Rattle.image_read.proofs.rows.ColEndTold.told.Goals as goal

pub returns-clause-told : goal.returns-clause-told
returns-clause-told c = read_as col_data (view c.args.value.now) c.end.result _ _ c.end.ensures.told (λ e. row_is (view c.args.value.now) _ (sym c.of-row.ensures ∙ c.half.ensures.told _ (c.word.ensures.told _ e)))
