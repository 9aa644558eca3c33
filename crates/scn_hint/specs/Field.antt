-- What is amiss with the fields of an object (own choice).
use Rattle.std.specs.Prelude.{ℕ, List, [], ◌∷◌, Bool, Option, Some, None, is_some, if◌then◌else◌}
use Rattle.serde_json.specs.Data.{Data}
use Rattle.serde_json.specs.Find.{get, as_object}
use Rattle.gic_host.specs.ScnRead.JsonField.Field.{number_at, flag_at, text_at, pair_at, list_at, other_field}
use Rattle.gic_host.specs.ScnRead.GicGuest.Good.{passes}
use Rattle.scn_hint.specs.declared.field.Rule.{Rule}
use Rattle.scn_hint.specs.declared.field.Kind.{Kind}
use Rattle.scn_hint.specs.declared.field.Kind.TheVariants.{Number, Flag, Yes, Text, Pair, List as AList}
use Rattle.scn_hint.specs.declared.field.What.{What}
use Rattle.scn_hint.specs.declared.field.What.TheVariants.{Unknown, Missing, WrongKind}
use Rattle.scn_hint.specs.declared.field.Amiss.{Amiss}

-- the field of this name is there, and holds what its kind says
abbrev pub holds : Kind → List ℕ → Data → Bool
holds Number name d = is_some (number_at name d)
holds Flag name d = is_some (flag_at name d)
holds Yes name d = passes (λ flag. flag) (flag_at name d)
holds Text name d = is_some (text_at name d)
holds Pair name d = is_some (pair_at name d)
holds AList name d = is_some (list_at name d)

-- what is amiss with a field: it has to be there and is not, or it holds something of another kind
abbrev pub misfit_of : List ℕ → Rule → Data → Option What
misfit_of name rule d =
    if is_some (get name d) then (if holds rule.kind name d then None else Some (WrongKind rule.kind)) else (if rule.needed then Some (Missing rule.kind) else None)

-- what is told of a field: its name, and what is amiss
abbrev pub told : Amiss → List ℕ × What
told amiss = (amiss.field.now, amiss.what)

-- a field and what is amiss with it, or else what is found further on
abbrev pub found_or : List ℕ → Option What → Option (List ℕ × What) → Option (List ℕ × What)
found_or name (Some what) later = Some (name, what)
found_or name None later = later

-- the first field of a table with which something is amiss
abbrev pub misfit_in : List (List ℕ) → List Rule → Data → Option (List ℕ × What)
misfit_in [] rules d = None
misfit_in (name ∷ names) [] d = None
misfit_in (name ∷ names) (rule ∷ rules) d = found_or name (misfit_of name rule d) (misfit_in names rules d)

-- the first field of a value with which something is amiss by a table: one that is not in it, or else the first of it
abbrev pub other_or : Option (List ℕ) → Option (List ℕ × What) → Option (List ℕ × What)
other_or (Some name) later = Some (name, Unknown)
other_or None later = later

abbrev pub amiss_in : List (List ℕ) → List Rule → Data → Option (List ℕ × What)
amiss_in names rules d = other_or (other_field names d) (misfit_in names rules d)

-- a value is an object
abbrev pub is_object : Data → Bool
is_object d = is_some (as_object d)
