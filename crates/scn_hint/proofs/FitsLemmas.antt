-- Where nothing is amiss with fields, the reader finds no fault of theirs.
use Rattle.std.proofs.Common.{◌≡◌, ℕ, true≢false, not, Bool, true, false, List, [], length, Option, Some, None, unwrap_or, refl, sym, ap, ◌∙◌}
use Rattle.std.specs.Prelude.{is_some, option_map, option_and_then, if◌then◌else◌}
use Rattle.std.specs.Option.{option_map_or}
use Rattle.serde_json.specs.Data.{Data}
use Rattle.serde_json.specs.Find.{get, as_bool}
use Rattle.gic_host.specs.ScnRead.JsonField.Field.{has_only, other_field, number_of, number_or, flag_or, list_of, list_at, list_or_empty}
use Rattle.gic_host.specs.ScnRead.GicGuest.Good.{passes}
use Rattle.scn_hint.specs.declared.field.What.{What}
use Rattle.scn_hint.specs.declared.field.What.TheVariants.{OutOfRange, WrongLength}
use Rattle.scn_hint.specs.declared.field.Rule.{Rule}
use Rattle.scn_hint.specs.declared.field.Kind.{Kind}
use Rattle.scn_hint.specs.declared.field.Kind.TheVariants.{Number, Flag, List as AList}
use Rattle.scn_hint.specs.declared.limit.Limit.{Limit}
use Rattle.scn_hint.specs.Field.{amiss_in, misfit_of, misfit_in, found_or, other_or, holds, is_object}
use Rattle.scn_hint.specs.Limit.{fits, limit_amiss, length_amiss, first_told}
use Rattle.scn_hint.specs.Table.{must, may}
use Rattle.scn_hint.proofs.ShapeLemmas.{must_holds, may_holds, other_only, unless, missing}

-- Nothing is amiss.

pub first_parts : (o later : Option (List ℕ × What)) → first_told o later ≡ None → (o ≡ None) × (later ≡ None)
first_parts None later e = (refl, e)
first_parts (Some told) later e = absurd (cc)

pub found_parts : (name : List ℕ) (what : Option What) (later : Option (List ℕ × What)) → found_or name what later ≡ None → (what ≡ None) × (later ≡ None)
found_parts name None later e = (refl, e)
found_parts name (Some what) later e = absurd (cc)

pub mapped_none : {X Y : Type 0} (f : X → Y) (o : Option X) → option_map f o ≡ None → o ≡ None
mapped_none f None e = refl
mapped_none f (Some x) e = absurd (cc)

-- of an object: it has only the fields of its table, and each of them is of its kind
pub amiss_parts : (names : List (List ℕ)) (rules : List Rule) (d : Data) → is_object d ≡ true → amiss_in names rules d ≡ None → (has_only names d ≡ true) × (misfit_in names rules d ≡ None)
amiss_parts names rules d there none = of (other_field names d) refl none
  where
    shut : (b : Bool) → false ≡ not b → b ≡ true
    shut true e = refl
    shut false e = absurd (true≢false (sym e))

    of : (o : Option (List ℕ)) → other_field names d ≡ o → other_or o (misfit_in names rules d) ≡ None → (has_only names d ≡ true) × (misfit_in names rules d ≡ None)
    of None is e = (shut (has_only names d) (sym (ap is_some is) ∙ other_only names d there), e)
    of (Some name) is e = absurd (cc)

open_up : (b : Bool) (x : Bool) → x ≡ not b → x ≡ false → b ≡ true
open_up true x e f = refl
open_up false x e f = absurd (true≢false (sym e ∙ f))

pub must_is : (kind : Kind) (name : List ℕ) (d : Data) → misfit_of name (must kind) d ≡ None → holds kind name d ≡ true
must_is kind name d e = open_up (holds kind name d) (is_some (misfit_of name (must kind) d)) (must_holds kind name d) (ap is_some e)

pub number_is : (name : List ℕ) (default : ℕ) (d : Data) → misfit_of name (may Number) d ≡ None → is_some (number_or name default d) ≡ true
number_is name default d e = open_up (is_some (number_or name default d)) (is_some (misfit_of name (may Number) d)) (may_holds name default d) (ap is_some e)

pub flag_is : (name : List ℕ) (default : Bool) (d : Data) → misfit_of name (may Flag) d ≡ None → is_some (flag_or name default d) ≡ true
flag_is name default d e = of (get name d) e
  where
    of : (o : Option Data) → (if is_some o then unless Flag (is_some (option_and_then as_bool o)) else missing Flag false) ≡ None → is_some (option_map_or as_bool o (Some default)) ≡ true
    of None e = refl
    of (Some value) e = by (is_some (as_bool value)) e
      where
        by : (b : Bool) → unless Flag b ≡ None → b ≡ true
        by true e = refl
        by false e = absurd (cc)

pub list_is : (name : List ℕ) (d : Data) → misfit_of name (may AList) d ≡ None → is_some (list_or_empty name d) ≡ true
list_is name d e = of (get name d) e
  where
    of : (o : Option Data) → (if is_some o then unless AList (is_some (option_and_then list_of o)) else missing AList false) ≡ None → is_some (option_map_or list_of o (Some [])) ≡ true
    of None e = refl
    of (Some value) e = by (is_some (list_of value)) e
      where
        by : (b : Bool) → unless AList b ≡ None → b ≡ true
        by true e = refl
        by false e = absurd (cc)

-- Ranges.

-- a number that is there, or its default, is in its range
pub in_limit : (name : List ℕ) (default : ℕ) (limit : Limit) (d : Data) → fits limit default ≡ true → is_some (number_or name default d) ≡ true → limit_amiss name limit d ≡ None → fits limit (unwrap_or (number_or name default d) 0) ≡ true
in_limit name default limit d fit there none = of (get name d) there none
  where
    of : (o : Option Data) → is_some (option_map_or number_of o (Some default)) ≡ true → option_and_then {U = List ℕ × What} (λ found. if fits limit found then None else Some (name, OutOfRange found limit)) (option_and_then number_of o) ≡ None → fits limit (unwrap_or (option_map_or number_of o (Some default)) 0) ≡ true
    of None there none = fit
    of (Some value) there none = by (number_of value) there none
      where
        by : (n : Option ℕ) → is_some n ≡ true → option_and_then {U = List ℕ × What} (λ found. if fits limit found then None else Some (name, OutOfRange found limit)) n ≡ None → fits limit (unwrap_or n 0) ≡ true
        by None there none = absurd (true≢false (sym there))
        by (Some n) there none = fitting (fits limit n) none
          where
            fitting : (b : Bool) → (let o : Option (List ℕ × What) = if b then None else Some (name, OutOfRange n limit) in o) ≡ None → b ≡ true
            fitting true e = refl
            fitting false e = absurd (cc)

-- so a test that the range meets is passed
pub passes_by : (test : ℕ → Bool) (limit : Limit) (o : Option ℕ) → ((n : ℕ) → fits limit n ≡ true → test n ≡ true) → is_some o ≡ true → fits limit (unwrap_or o 0) ≡ true → passes test o ≡ true
passes_by test limit None meets there fit = absurd (true≢false (sym there))
passes_by test limit (Some n) meets there fit = meets n fit

pub length_passes : (test : List Data → Bool) (name : List ℕ) (limit : Limit) (d : Data) → ((ds : List Data) → fits limit (length ds) ≡ true → test ds ≡ true) → is_some (list_at name d) ≡ true → length_amiss name limit d ≡ None → passes test (list_at name d) ≡ true
length_passes test name limit d meets there none = of (list_at name d) there none
  where
    of : (o : Option (List Data)) → is_some o ≡ true → option_and_then {U = List ℕ × What} (λ elements. if fits limit (length elements) then None else Some (name, WrongLength (length elements) limit)) o ≡ None → passes test o ≡ true
    of None there none = absurd (true≢false (sym there))
    of (Some ds) there none = meets ds (fitting (fits limit (length ds)) none)
      where
        fitting : (b : Bool) → (let o : Option (List ℕ × What) = if b then None else Some (name, WrongLength (length ds) limit) in o) ≡ None → b ≡ true
        fitting true e = refl
        fitting false e = absurd (cc)
