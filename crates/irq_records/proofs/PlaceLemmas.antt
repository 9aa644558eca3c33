-- What the index lists is what is pending.
use Rattle.std.proofs.Common.{◌≡◌, ℕ, zero, suc, ◌+◌, ◌<◌, ◌≤◌, Bool, true, false, cond, is_some, Some, None, List, [], ◌∷◌, length, slice_index, get_or, refl, sym, ap, ◌∙◌, ◌⊎◌, inl, inr, arith}
use Rattle.std.specs.declared.cmp.Ordering.TheVariants.{Less, Equal, Greater}
use Rattle.std.specs.Ordering.{nat_cmp, is_eq}
use Rattle.std.specs.Cmp.{nat_cmp_total, ranked, tied_itself}
use Rattle.std.specs.List.{AllByRecursion, filter, range_with_len}
use Rattle.std.specs.List.Sorted.{IsStrictlySortedBy}
use Rattle.std.specs.Map.{lookup, keys_of}
use Rattle.std.specs.BTreeMap.{is_at}
use Rattle.floor_words.specs.Words.{Irq}
use Rattle.sorted_pairs.proofs.MapLemmas.{same_number}
use Rattle.irq_records.specs.Pending.{is_pending_at, pending_places}
use Rattle.irq_records.specs.Index.{IsIndex}

pub at_itself : (n : ℕ) → is_at (nat_cmp n) n ≡ true
at_itself n = ap is_eq (tied_itself nat_cmp_total n)

-- a number below all keys is not among them
unlisted : {X : Type 0} (low : ℕ) (es : List (ℕ × X)) → AllByRecursion (λ k. low < k) (keys_of es) → lookup (is_at (nat_cmp low)) es ≡ None
unlisted low [] above = refl
unlisted low (e ∷ es) above = elim (is_at (nat_cmp low) e.0) as (λ b. is_at (nat_cmp low) e.0 ≡ b → cond b (Some e.1) (lookup (is_at (nat_cmp low)) es) ≡ None) [
  | true ↦ λ t. let same : low ≡ e.0 = same_number low e.0 t in absurd (omega (arith, same, above.0))
  | false ↦ λ t. unlisted low es above.1
] refl

-- the keys after one are greater
later : (k : ℕ) (ks : List ℕ) → AllByRecursion (λ y. nat_cmp k y ≡ Less) ks → AllByRecursion (λ y. k < y) ks
later k [] h = tt
later k (y ∷ ks) h = (ranked k y Less (sym h.0), later k ks h.1)

pub weaker : {P Q : ℕ → Type 0} (ks : List ℕ) → ((k : ℕ) → P k → Q k) → AllByRecursion P ks → AllByRecursion Q ks
weaker [] f h = tt
weaker (k ∷ ks) f h = (f k h.0, weaker ks f h.1)

both : (P Q : ℕ → Type 0) (ks : List ℕ) → AllByRecursion P ks → AllByRecursion Q ks → AllByRecursion (λ k. P k × Q k) ks
both P Q [] h g = tt
both P Q (k ∷ ks) h g = ((h.0, g.0), both P Q ks h.1 g.1)

-- another number is looked up behind a first key
passed : {X : Type 0} (k : ℕ) (e : ℕ × X) (es : List (ℕ × X)) → e.0 < k → lookup (is_at (nat_cmp k)) (e ∷ es) ≡ lookup (is_at (nat_cmp k)) es
passed k e es before = elim (is_at (nat_cmp k) e.0) as (λ b. is_at (nat_cmp k) e.0 ≡ b → cond b (Some e.1) (lookup (is_at (nat_cmp k)) es) ≡ lookup (is_at (nat_cmp k)) es) [
  | true ↦ λ t. let same : k ≡ e.0 = same_number k e.0 t in absurd (omega (arith, same, before))
  | false ↦ λ t. refl
] refl

cases_first : (k low : ℕ) → low ≤ k → (k ≡ low) ⊎ (low < k)
cases_first k low h = elim (nat_cmp k low) as (λ r. r ≡ nat_cmp k low → (k ≡ low) ⊎ (low < k)) [
  | Less ↦ λ t. let before : k < low = ranked k low Less t in absurd (omega (arith, before, h))
  | Equal ↦ λ t. inl (ranked k low Equal t)
  | Greater ↦ λ t. inr (ranked k low Greater t)
] refl

-- the first number of a range is the first key, or is before it
first_listed : {X : Type 0} (p : ℕ → Bool) (e : ℕ × X) (es : List (ℕ × X)) (low n : ℕ) → IsStrictlySortedBy nat_cmp (keys_of (e ∷ es)) → AllByRecursion (λ k. (low ≤ k) × (k < low + suc n)) (keys_of (e ∷ es)) → ((k : ℕ) → low ≤ k → k < low + suc n → is_some (lookup (is_at (nat_cmp k)) (e ∷ es)) ≡ p k)
    → (e.0 ≡ low → keys_of es ≡ filter p (range_with_len (low + 1) n)) → (low < e.0 → keys_of (e ∷ es) ≡ filter p (range_with_len (low + 1) n)) → keys_of (e ∷ es) ≡ filter p (range_with_len low (suc n))
unfolding IsStrictlySortedBy
first_listed {X = X} p e es low n sorted within exact here after = of (cases_first e.0 low within.0.0)
  where
    rest : List ℕ
    rest = filter p (range_with_len (low + 1) n)

    of : (e.0 ≡ low) ⊎ (low < e.0) → e.0 ∷ keys_of es ≡ cond (p low) (low ∷ rest) rest
    of (inl same) =
        let yes : p low ≡ true = sym (exact low (omega arith) (omega arith)) ∙ ap (λ b. is_some (cond b (Some e.1) (lookup (is_at (nat_cmp low)) es))) (ap (λ k. is_at (nat_cmp low) k) same ∙ at_itself low) in
        ap (λ k. k ∷ keys_of es) same ∙ ap (λ ks. low ∷ ks) (here same) ∙ sym (ap (λ b. cond b (low ∷ rest) rest) yes)
    of (inr before) =
        let none : p low ≡ false = sym (exact low (omega arith) (omega arith)) ∙ ap is_some (unlisted low (e ∷ es) (before, weaker (keys_of es) (λ k h. omega (arith, h, before)) (later e.0 (keys_of es) sorted.0))) in
        after before ∙ sym (ap (λ b. cond b (low ∷ rest) rest) none)

-- keys in order, of a range, that are those that pass a test are all that pass it
listed_are : {X : Type 0} (p : ℕ → Bool) (es : List (ℕ × X)) (low n : ℕ) → IsStrictlySortedBy nat_cmp (keys_of es) → AllByRecursion (λ k. (low ≤ k) × (k < low + n)) (keys_of es) → ((k : ℕ) → low ≤ k → k < low + n → is_some (lookup (is_at (nat_cmp k)) es) ≡ p k) → keys_of es ≡ filter p (range_with_len low n)
unfolding IsStrictlySortedBy
listed_are p [] low zero sorted within exact = refl
listed_are p (e ∷ es) low zero sorted within exact = absurd (omega (arith, within.0.0, within.0.1))
listed_are {X = X} p [] low (suc n) sorted within exact =
    let none : p low ≡ false = sym (exact low (omega arith) (omega arith)) in
    listed_are {X = X} p [] (low + 1) n sorted tt (λ k least most. exact k (omega (arith, least)) (omega (arith, most)))
    ∙ sym (ap (λ b. cond b (low ∷ filter p (range_with_len (low + 1) n)) (filter p (range_with_len (low + 1) n))) none)
listed_are {X = X} p (e ∷ es) low (suc n) sorted within exact =
    first_listed p e es low n sorted within exact
    (λ same. listed_are p es (low + 1) n sorted.1
    (weaker (keys_of es) (λ k h. (omega (arith, h.0, same), omega (arith, h.1.1))) (both (λ k. e.0 < k) (λ k. (low ≤ k) × (k < low + suc n)) (keys_of es) (later e.0 (keys_of es) sorted.0) within.1))
    (λ k least most. ap is_some (sym (passed k e es (omega (arith, least, same)))) ∙ exact k (omega (arith, least)) (omega (arith, most))))
    (λ before. listed_are p (e ∷ es) (low + 1) n sorted
    ((omega (arith, before), omega (arith, within.0.1)), weaker (keys_of es) (λ k h. (omega (arith, h.0, before), omega (arith, h.1.1))) (both (λ k. e.0 < k) (λ k. (low ≤ k) × (k < low + suc n)) (keys_of es) (later e.0 (keys_of es) sorted.0) within.1))
    (λ k least most. exact k (omega (arith, least)) (omega (arith, most))))

from_zero : (high : ℕ) (ks : List ℕ) → AllByRecursion (λ k. k < high) ks → AllByRecursion (λ k. (0 ≤ k) × (k < 0 + high)) ks
from_zero high ks h = weaker ks (λ k less. (omega arith, omega (arith, less))) h

pub places_are : (irqs : List Irq) (index : List (ℕ × Unit {0})) → IsIndex irqs (length irqs) index → keys_of index ≡ pending_places irqs
places_are irqs index is = listed_are (is_pending_at irqs) index 0 (length irqs) is.ordered (from_zero (length irqs) (keys_of index) is.within) (λ k least most. is.exact k (omega (arith, most)))

long_as : {X : Type 0} (es : List (ℕ × X)) → length (keys_of es) ≡ length es
long_as [] = refl
long_as (e ∷ es) = ap suc (long_as es)

pub count_is : (irqs : List Irq) (index : List (ℕ × Unit {0})) → IsIndex irqs (length irqs) index → length index ≡ length (pending_places irqs)
count_is irqs index is = sym (long_as index) ∙ ap length (places_are irqs index is)

pub before_end : {irqs seen : List Irq} {index : List (ℕ × Unit {0})} (before len : ℕ) → irqs ≡ seen → IsIndex irqs (length irqs) index → len ≡ length index → before < length (pending_places seen) → before < len
before_end {irqs} {seen} {index} before len view is long there = omega (arith, long, count_is irqs index is, ap (λ rs. length (pending_places rs)) view, there)

key_at : {X : Type 0} (es : List (ℕ × X)) (i z : ℕ) (d : ℕ × X) → i < length es → (get_or es i d).0 ≡ get_or (keys_of es) i z
key_at [] i z d h = absurd (omega (arith, h))
key_at (e ∷ es) zero z d h = refl
key_at (e ∷ es) (suc i) z d h = key_at es i z d (omega (arith, h))

pub place_found : {irqs seen : List Irq} {index : List (ℕ × Unit {0})} (before : ℕ) (found : ℕ × Unit {0}) → irqs ≡ seen → IsIndex irqs (length irqs) index → found ≡ get_or index before found → before < length (pending_places seen) → found.0 ≡ slice_index (pending_places seen) before
place_found {irqs} {seen} {index} before found view is at there =
    ap (λ (e : ℕ × Unit {0}). e.0) at
    ∙ key_at index before 0 found (omega (arith, count_is irqs index is, ap (λ rs. length (pending_places rs)) view, there))
    ∙ ap (λ ks. get_or ks before 0) (places_are irqs index is ∙ ap pending_places view)
