use Rattle.std.proofs.Common.{◌∙◌, sym}
use Rattle.std.proofs.lemmas.Option.{same_Some}
use Rattle.serde_json.specs.View.{view}
use Rattle.gic_resume.specs.GicSave.Cell.{list_data}
use Rattle.image_read.proofs.field.list_in.Goals as goal

pub returns-in-Some-clause-only : goal.returns-in-Some-clause-only
returns-in-Some-clause-only g c shape xs is all e = c.list.ensures.only shape xs is all (same_Some (list_data g.T.Told.written xs) (view c.in-Some.field.now) (sym e ∙ sym c.in-Some.ensures))
