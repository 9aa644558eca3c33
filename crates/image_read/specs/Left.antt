-- What is left of a row that is read element by element.
use Rattle.std.specs.Prelude.{List, map, Option, option_map}
use Rattle.std.specs.Borrow.{Bor}
use Rattle.serde_json.specs.Data.{Data}
use Rattle.serde_json.specs.View.{view}
use Rattle.serde_json.specs.declared.value.Value.{Value}

-- the elements that are left; nothing once one was not as it had to be
abbrev pub left : Option (Bor (List Value)) → Option (List Data)
left rest = option_map (λ values. map view values.now) rest
