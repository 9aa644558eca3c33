use Rattle.std.proofs.Common.{◌≡◌, Some, map, rules}
use Rattle.serde_json.specs.View.{view}
use Rattle.scn_read.specs.JsonField.Field.{list_of}
use Rattle.trace_read.proofs.TouchLemmas.{few_parts, many_parts}
use Rattle.trace_read.proofs.act.touch.Goals as goal

pub returns-in_default : goal.returns-in_default
returns-in_default c =
    let found : Some (map view c.in_ok-ok_or.field-0.now) ≡ list_of (view c.args.value.now) = search rules in
    few_parts c.in_ok-ok_or.field-0.now _ found c.in_default.len_below

pub returns-in_default-2 : goal.returns-in_default-2
returns-in_default-2 c =
    let found : Some (map view c.in_ok-ok_or.field-0.now) ≡ list_of (view c.args.value.now) = search rules in
    many_parts c.in_ok-ok_or.field-0.now _ found c.in_default.len_at_least
