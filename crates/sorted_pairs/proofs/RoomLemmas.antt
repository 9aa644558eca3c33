-- How many entries a map has after a change, and that there is room where the keys are below a bound.
use Rattle.std.proofs.Common.{◌≡◌, ℕ, suc, ◌+◌, ◌<◌, ◌≤◌, Bool, true, false, cond, Some, None, Option, List, [], ◌∷◌, length, refl, sym, ap, ◌∙◌, arith}
use Rattle.std.specs.declared.cmp.Ordering.{Ordering}
use Rattle.std.specs.declared.cmp.Ordering.TheVariants.{Less, Equal, Greater}
use Rattle.std.specs.Ordering.{nat_cmp, is_eq, match_ordering}
use Rattle.std.specs.Cmp.{IsTotalOrder, nat_cmp_total, ranked}
use Rattle.std.specs.List.{AllByRecursion}
use Rattle.std.specs.List.Sorted.{IsStrictlySortedBy}
use Rattle.std.specs.Map.{lookup, keys_of, remove_entry}
use Rattle.std.specs.BTreeMap.{is_at, insert_entry}
use Rattle.sorted_pairs.proofs.MapLemmas.{sorted-insert}

-- how many values were found
abbrev pub found_count : {X : Type 0} → Option X → ℕ
found_count None = 0
found_count (Some x) = 1

module _ {K X : Type 0} (test : K → Bool) where
  pub length-taken : (es : List (K × X)) → length (remove_entry test es) + found_count (lookup test es) ≡ length es
  length-taken [] = refl
  length-taken (e ∷ es) = elim (test e.0) as (λ b. length (cond b es (e ∷ remove_entry test es)) + found_count (cond b (Some e.1) (lookup test es)) ≡ length (e ∷ es)) [
    | true ↦ omega arith
    | false ↦ omega (arith, length-taken es)
  ]

  pub all_taken : (P : K → Type 0) (es : List (K × X)) → AllByRecursion P (keys_of es) → AllByRecursion P (keys_of (remove_entry test es))
  all_taken P [] h = h
  all_taken P (e ∷ es) h = elim (test e.0) as (λ b. AllByRecursion P (keys_of (cond b es (e ∷ remove_entry test es)))) [
    | true ↦ h.1
    | false ↦ (h.0, all_taken P es h.1)
  ]

module _ {K X : Type 0} {R : K → K → Ordering} (o : IsTotalOrder R) (k : K) (v : X) where
  pub all_put : (P : K → Type 0) (es : List (K × X)) → AllByRecursion P (keys_of es) → P k → AllByRecursion P (keys_of (insert_entry R es k v))
  all_put P [] h own = (own, tt)
  all_put P (e ∷ es) h own = elim (R k e.0) as (λ r. AllByRecursion P (keys_of (match_ordering r ((k, v) ∷ e ∷ es) ((e.0, v) ∷ es) (e ∷ insert_entry R es k v)))) [
    | Less ↦ (own, h)
    | Equal ↦ h
    | Greater ↦ (h.0, all_put P es h.1 own)
  ]

  -- a key before all others is not among them
  none_before : (x : K) (es : List (K × X)) → R k x ≡ Less → AllByRecursion (λ y. R x y ≡ Less) (keys_of es) → lookup (is_at (R k)) es ≡ None
  none_before x [] h below = refl
  none_before x (e ∷ es) h below = ap (λ r. cond (is_eq r) (Some e.1) (lookup (is_at (R k)) es)) (o.trans k x e.0 h below.0) ∙ none_before x es h below.1

  pub length-put : (es : List (K × X)) → IsStrictlySortedBy R (keys_of es) → length (insert_entry R es k v) + found_count (lookup (is_at (R k)) es) ≡ suc (length es)
  unfolding IsStrictlySortedBy
  length-put [] s = refl
  length-put (e ∷ es) s = elim (R k e.0) as (λ r. R k e.0 ≡ r → length (match_ordering r ((k, v) ∷ e ∷ es) ((e.0, v) ∷ es) (e ∷ insert_entry R es k v)) + found_count (cond (is_eq r) (Some e.1) (lookup (is_at (R k)) es)) ≡ suc (length (e ∷ es))) [
    | Less ↦ λ h. let none : found_count (lookup (is_at (R k)) es) ≡ 0 = ap found_count (none_before e.0 es h s.0) in omega arith
    | Equal ↦ λ h. omega arith
    | Greater ↦ λ h. omega (arith, length-put es s.1)
  ] refl

-- numbers that rise, of a range, are no more than the range has
above : (k : ℕ) (low high : ℕ) (ks : List ℕ) → AllByRecursion (λ y. nat_cmp k y ≡ Less) ks → AllByRecursion (λ y. (low ≤ y) × (y < high)) ks → AllByRecursion (λ y. (suc k ≤ y) × (y < high)) ks
above k low high [] rising within = tt
above k low high (y ∷ ks) rising within = let later : k < y = ranked k y Less (sym rising.0) in ((omega (arith, later), within.0.1), above k low high ks rising.1 within.1)

pub no_more : (ks : List ℕ) (low high : ℕ) → IsStrictlySortedBy nat_cmp ks → AllByRecursion (λ y. (low ≤ y) × (y < high)) ks → low ≤ high → low + length ks ≤ high
unfolding IsStrictlySortedBy
no_more [] low high s within fits = omega (arith, fits)
no_more (k ∷ ks) low high s within fits = omega (arith, within.0, no_more ks (suc k) high s.1 (above k low high ks s.0 within.1) (omega (arith, within.0)))

length-keys : {K X : Type 0} (es : List (K × X)) → length (keys_of es) ≡ length es
length-keys [] = refl
length-keys (e ∷ es) = ap suc (length-keys es)

-- so one that is not there finds room
pub room_for : {X : Type 0} (es : List (ℕ × X)) (k : ℕ) (v : X) (low high : ℕ) → IsStrictlySortedBy nat_cmp (keys_of es) → AllByRecursion (λ y. (low ≤ y) × (y < high)) (keys_of es) → low ≤ k → k < high → lookup (is_at (nat_cmp k)) es ≡ None → low + length es < high
room_for es k v low high s within least most missing =
    let put = insert_entry nat_cmp es k v in
    let more = no_more (keys_of put) low high (sorted-insert nat_cmp_total k v es s) (all_put nat_cmp_total k v (λ y. (low ≤ y) × (y < high)) es within (least, most)) (omega (arith, least, most)) in
    let long = length-keys put in
    let one = length-put nat_cmp_total k v es s in
    let none : found_count (lookup (is_at (nat_cmp k)) es) ≡ 0 = ap found_count missing in
    omega (arith, more, long, one, none)
