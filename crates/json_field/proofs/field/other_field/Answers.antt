use Rattle.serde_json.specs.View.{view}
use Rattle.json_field.proofs.FieldLemmas.{other_field_there, other_field_none}
use Rattle.json_field.proofs.field.other_field.Goals as goal

pub returns-in-Some-first_other : goal.returns-in-Some-first_other
returns-in-Some-first_other c =
    rw (c.as_str.ensures.value, ← other_field_there c.args.allowed.now (view c.args.value.now) c.in-Some.fields.now c.in-Some-first_other.name.now c.in-Some.ensures c.in-Some-first_other.ensures)

pub returns-in-None-first_other : goal.returns-in-None-first_other
returns-in-None-first_other c = other_field_none c.args.allowed.now (view c.args.value.now) c.in-Some.fields.now c.in-Some.ensures c.in-None-first_other.ensures
