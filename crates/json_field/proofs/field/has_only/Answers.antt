use Rattle.std.proofs.Common.{◌∙◌}
use Rattle.serde_json.specs.View.{view}
use Rattle.json_field.proofs.FieldLemmas.{has_only_object}
use Rattle.json_field.proofs.field.has_only.Goals as goal

pub returns-in-Some : goal.returns-in-Some
returns-in-Some c =
    c.are_among.ensures ∙ has_only_object c.args.allowed.now (view c.args.value.now) c.in-Some.fields.now c.in-Some.ensures
