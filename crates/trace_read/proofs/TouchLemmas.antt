-- A touch has four parts.
use Rattle.std.proofs.Common.{◌≡◌, ℕ, ◌<◌, ◌≤◌, List, [], ◌∷◌, length, map, Option, Some, None, Err, option_map, option_and_then, refl, ap, sym, ◌∙◌, arith}
use Rattle.std.proofs.lemmas.List.{length-map}
use Rattle.serde_json.specs.Data.{Data}
use Rattle.serde_json.specs.View.{view}
use Rattle.serde_json.specs.declared.value.Value.{Value}
use Rattle.trace_read.specs.Part.{four_in}
use Rattle.trace_read.specs.Act.{touch_in}

few : (ds : List Data) → length ds < 4 → four_in ds ≡ None
few [] l = refl
few (a ∷ []) l = refl
few (a ∷ b ∷ []) l = refl
few (a ∷ b ∷ c ∷ []) l = refl
few (a ∷ b ∷ c ∷ d ∷ ds) l = absurd (omega arith)

many : (ds : List Data) → 5 ≤ length ds → four_in ds ≡ None
many [] l = refl
many (a ∷ []) l = refl
many (a ∷ b ∷ []) l = refl
many (a ∷ b ∷ c ∷ []) l = refl
many (a ∷ b ∷ c ∷ d ∷ []) l = absurd (omega arith)
many (a ∷ b ∷ c ∷ d ∷ e ∷ ds) l = refl

shapeless : (ds : List Data) (found : Option (List Data)) → Some ds ≡ found → four_in ds ≡ None → Err 1 ≡ touch_in (option_and_then four_in found)
shapeless ds found is none = rw (← is, none) refl

-- fewer values than that, and more
pub few_parts : (values : List Value) (found : Option (List Data)) → Some (map view values) ≡ found → length values < 4 → Err 1 ≡ touch_in (option_and_then four_in found)
few_parts values found is l = shapeless (map view values) found is (few (map view values) (rw length-map l))

pub many_parts : (values : List Value) (found : Option (List Data)) → Some (map view values) ≡ found → 5 ≤ length values → Err 1 ≡ touch_in (option_and_then four_in found)
many_parts values found is l = shapeless (map view values) found is (many (map view values) (rw length-map l))
