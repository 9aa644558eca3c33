-- The parts of what a trace says of an event (own choice): numbers that may be absent, lists of so many elements, and what is said of a part that has no such shape.
use Rattle.std.specs.Prelude.{ℕ, List, [], ◌∷◌, Bool, true, false, Option, Some, None, is_some, option_map, option_and_then, Result, Ok, Err, if◌then◌else◌}
use Rattle.serde_json.specs.Data.{Data}
use Rattle.serde_json.specs.Find.{as_null, as_bool, as_str}
use Rattle.scn_read.specs.JsonField.Field.{number_of}
use Rattle.scn_read.specs.ScnBase.Codes.{shape_code, limit_code}
use Rattle.scn_read.specs.ScnBase.Words.{Key}
use Rattle.floor_calls.specs.GicBase.declared.operation.Kind.{Kind}
use Rattle.trace_read.specs.declared.place.Place.{Place}
use Rattle.trace_read.specs.Name.{key_named, place_named, kind_named}

-- what has its shape
abbrev pub shaped : {X : Type 0} → Option X → Result X ℕ
shaped None = Err shape_code
shaped (Some x) = Ok x

-- what has its number in range
abbrev pub limited : {X : Type 0} → Bool → X → Result X ℕ
limited test x = if test then Ok x else Err limit_code

-- a number, or null for none
abbrev pub number_or_null : Data → Option (Option ℕ)
number_or_null d = if is_some (as_null d) then Some None else option_map Some (number_of d)

-- something that has to be true
abbrev pub is_true : Option Bool → Bool
is_true None = false
is_true (Some flag) = flag

abbrev pub true_in : {X : Type 0} → X → Data → Option X
true_in x d = if is_true (as_bool d) then Some x else None

-- what a text names
abbrev pub key_in : Data → Option Key
key_in d = option_and_then key_named (as_str d)

abbrev pub place_in : Data → Option Place
place_in d = option_and_then place_named (as_str d)

abbrev pub kind_in : Data → Option Kind
kind_in d = option_and_then kind_named (as_str d)

-- three parts, where each is there
abbrev pub zip_three : {X Y Z : Type 0} → Option X → Option Y → Option Z → Option (X × Y × Z)
zip_three None y z = None
zip_three (Some x) None z = None
zip_three (Some x) (Some y) None = None
zip_three (Some x) (Some y) (Some z) = Some (x, y, z)

-- ---- lists of so many elements

abbrev pub is_empty : List Data → Bool
is_empty [] = true
is_empty (a ∷ ds) = false

abbrev pub one_in : List Data → Option Data
one_in (a ∷ []) = Some a
one_in ds = None

abbrev pub two_in : List Data → Option (Data × Data)
two_in (a ∷ b ∷ []) = Some (a, b)
two_in ds = None

abbrev pub three_in : List Data → Option (Data × Data × Data)
three_in (a ∷ b ∷ c ∷ []) = Some (a, b, c)
three_in ds = None

abbrev pub four_in : List Data → Option (Data × Data × Data × Data)
four_in (a ∷ b ∷ c ∷ d ∷ []) = Some (a, b, c, d)
four_in ds = None
