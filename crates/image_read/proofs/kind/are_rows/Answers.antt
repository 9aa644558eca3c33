use Rattle.std.proofs.Common.{◌∙◌, sym}
use Rattle.std.proofs.lemmas.List.Folds.{list_all-map}
use Rattle.serde_json.specs.View.{view}
use Rattle.gic_resume.specs.Kind.{is_row}
use Rattle.image_read.proofs.kind.are_rows.Goals as goal

pub returns : goal.returns
returns c = c.all_rows.ensures ∙ sym (list_all-map is_row view c.args.values.now)
