-- What look-ups in a value say of the values' data.
use Rattle.std.proofs.Common.{◌≡◌, ℕ, List, [], ◌∷◌, map, find, not, option_map, Option, Bool, true, false, cond, Some, None, String, Global, string_bytes, BTreeMap, Bor, ◌+◌, ◌*◌, ◌^◌, ◌<◌, ◌≤◌, lit<, refl, ap, arith}
use Rattle.std.proofs.Math.Nat.{pow-le-pow_right}
use Rattle.std.proofs.lemmas.Grind.{pow_more}
use Rattle.std.specs.List.{list_all, list_any}
use Rattle.std.specs.Str.{bytes_eq}
use Rattle.std.specs.BTreeMap.{keys}
use Rattle.serde_json.specs.Data.{Data}
use Rattle.serde_json.specs.Find.{as_array, as_object}
use Rattle.serde_json.specs.View.{view, items_of, items_view, members_view}
use Rattle.serde_json.specs.declared.value.Value.{Value}
use Rattle.json_field.specs.Field.{elements, names, has_only, other_field, list_of}

-- the elements of the data of a list are the list
pub elements-items_of : (ds : List Data) → elements (items_of ds) ≡ ds
elements-items_of [] = refl
elements-items_of (d ∷ ds) = ap (λ rest. d ∷ rest) (elements-items_of ds)

-- an array's elements are the data of its values
pub list_of_array : (d : Data) (vs : List Value) → Some (items_view vs) ≡ as_array d → Some (map view vs) ≡ list_of d
list_of_array d vs e = rw (← e, elements-items_of (map view vs))

-- an object passes where each of its keys does
pub list_all-names : (p : List ℕ → Bool) (es : List (String Global × Value)) → list_all p (names (members_view es)) ≡ list_all (λ key. p (string_bytes key)) (map (λ e. e.0) es)
list_all-names p [] = refl
list_all-names p (e ∷ es) = rw (list_all-names p es)

list_any-map : {X Y : Type 0} (p : X → Bool) (f : Y → X) (ys : List Y) → list_any p (map f ys) ≡ list_any (λ y. p (f y)) ys
list_any-map p f [] = refl
list_any-map p f (y ∷ ys) = rw (list_any-map p f ys)

pub has_only_object : (allowed : List (Bor (List ℕ))) (d : Data) (m : BTreeMap (String Global) Value) → Some (members_view m.entries) ≡ as_object d
    → list_all (λ key. list_any (λ name. bytes_eq (string_bytes key) name.now) allowed) (keys m) ≡ has_only (map (λ name. name.now) allowed) d
has_only_object allowed d m e =
    rw (← e, list_all-names (λ name. list_any (bytes_eq name) (map (λ name. name.now) allowed)) m.entries) (simp list_any-map)

-- the first name of an object's field that passes is that of the first of its keys that does
map-cond : {X Y : Type 0} (f : X → Y) (b : Bool) (x y : Option X) → cond b (option_map f x) (option_map f y) ≡ option_map f (cond b x y)
map-cond f true x y = refl
map-cond f false x y = refl

pub find-names : (p : List ℕ → Bool) (es : List (String Global × Value)) → find p (names (members_view es)) ≡ option_map string_bytes (find (λ key. p (string_bytes key)) (map (λ e. e.0) es))
find-names p [] = refl
find-names p (e ∷ es) = rw (find-names p es, ← map-cond string_bytes (p (string_bytes e.0)) (Some e.0) (find (λ key. p (string_bytes key)) (map (λ e. e.0) es)))

pub other_field_object : (allowed : List (Bor (List ℕ))) (d : Data) (m : BTreeMap (String Global) Value) → Some (members_view m.entries) ≡ as_object d
    → option_map string_bytes (find (λ key. not (list_any (λ name. bytes_eq (string_bytes key) name.now) allowed)) (keys m)) ≡ other_field (map (λ name. name.now) allowed) d
other_field_object allowed d m e =
    rw (← e, find-names (λ name. not (list_any (bytes_eq name) (map (λ name. name.now) allowed))) m.entries) (simp list_any-map)

-- what is no object has not the fields of one
pub has_only_other : (allowed : List (List ℕ)) (d : Data) → None ≡ as_object d → false ≡ has_only allowed d
has_only_other allowed d e = rw (← e)

pub other_field_there : (allowed : List (Bor (List ℕ))) (d : Data) (m : BTreeMap (String Global) Value) (name : String Global) → Some (members_view m.entries) ≡ as_object d
    → Some name ≡ find (λ key. not (list_any (λ name. bytes_eq (string_bytes key) name.now) allowed)) (keys m) → Some (string_bytes name) ≡ other_field (map (λ name. name.now) allowed) d
other_field_there allowed d m name e found = rw (← other_field_object allowed d m e, ← found)

pub other_field_none : (allowed : List (Bor (List ℕ))) (d : Data) (m : BTreeMap (String Global) Value) → Some (members_view m.entries) ≡ as_object d
    → None ≡ find (λ key. not (list_any (λ name. bytes_eq (string_bytes key) name.now) allowed)) (keys m) → None ≡ other_field (map (λ name. name.now) allowed) d
other_field_none allowed d m e found = rw (← other_field_object allowed d m e, ← found)

pub other_field_other : (allowed : List (List ℕ)) (d : Data) → None ≡ as_object d → None ≡ other_field allowed d
other_field_other allowed d e = rw (← e)

-- a number of i hexadecimal digits, and one more
pub hex_step : (i n digit : ℕ) → i < 16 → n < 16 ^ i → digit < 16 → 16 * n + digit < 16 ^ (i + 1)
hex_step i n digit within below small = omega (arith, pow_more 16 i)

pub hex_fits : (i n digit : ℕ) → i < 16 → n < 16 ^ i → digit < 16 → 16 * n + digit < 2 ^ 64
hex_fits i n digit within below small =
    let more : 16 ^ (i + 1) ≤ 16 ^ 16 = pow-le-pow_right {n = 16} (lit< tt) {i = i + 1} {j = 16} (omega arith) in
    omega (arith, hex_step i n digit within below small)
