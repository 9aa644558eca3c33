-- Lists that are in order: by neighbours, as maps, and as one grows by its next element.
use Rattle.std.proofs.Common.{◌≡◌, ℕ, zero, suc, ◌+◌, ◌<◌, ◌↔◌, Bool, true, false, cond, Option, Some, None, List, [], ◌∷◌, length, get_or, map, take, refl, sym, ap, subst, ◌∙◌, arith}
use Rattle.std.specs.declared.cmp.Ordering.{Ordering}
use Rattle.std.specs.declared.cmp.Ordering.TheVariants.{Less, Equal, Greater}
use Rattle.std.specs.Ordering.{MatchOrdering, is_eq, is_lt, nat_cmp, ordering_reverse, match_ordering}
use Rattle.std.specs.Cmp.{IsTotalOrder, ranked, tied_itself}
use Rattle.std.specs.Prelude.{nat_lt}
use Rattle.std.proofs.lemmas.Bool.{le-ltb, lt-ltb}
use Rattle.std.specs.Bool.{IsTrue}
use Rattle.std.specs.List.{AllByRecursion, AllAdjacentBelow, IsAllAdjacentAnswer}
use Rattle.std.specs.List.Sorted.{IsStrictlySortedBy}
use Rattle.std.specs.Map.{lookup, keys_of}
use Rattle.std.specs.BTreeMap.{is_at, insert_entry}
use Rattle.std.proofs.lemmas.Option.{none-some, same_Some}

-- which of two numbers comes first
pub nat_cmp-ltb : (x y : ℕ) → is_lt (nat_cmp x y) ≡ nat_lt x y
nat_cmp-ltb x y = of (nat_cmp x y) (ranked x y (nat_cmp x y) refl)
  where
    of : (order : Ordering) → MatchOrdering order (x < y) (x ≡ y) (y < x) → is_lt order ≡ nat_lt x y
    of Less h = sym (lt-ltb x y h)
    of Equal h = sym (le-ltb x y (omega (arith, h)))
    of Greater h = sym (le-ltb x y (omega (arith, h)))

module _ {X K : Type 0} {R : K → K → Ordering} (o : IsTotalOrder R) (key : X → K) where
  -- ---- by neighbours

  -- each element and the next
  abbrev pub AreRising : List X → Type 0
  AreRising xs = AllAdjacentBelow (λ x y. R (key x) (key y) ≡ Less) xs (length xs)

  rest_rises : (x : X) (xs : List X) → AreRising (x ∷ xs) → AreRising xs
  rest_rises x xs rises k d below = subst (λ n. R (key (get_or xs k d)) (key (get_or (x ∷ xs) n d)) ≡ Less) {x = suc k + 1} {y = suc (k + 1)} (omega arith) (rises (suc k) d (omega arith))

  -- what is above the first element is above one that is before it
  all_above : (k : K) (x : X) (xs : List X) → R k (key x) ≡ Less → AllByRecursion (λ y. R (key x) y ≡ Less) (map key xs) → AllByRecursion (λ y. R k y ≡ Less) (map key xs)
  all_above k x [] less h = tt
  all_above k x (y ∷ ys) less h = (o.trans k (key x) (key y) less h.0, all_above k x ys less h.1)

  pub sorted_if_rising : (xs : List X) → AreRising xs → IsStrictlySortedBy R (map key xs)
  unfolding IsStrictlySortedBy
  sorted_if_rising [] rises = tt
  sorted_if_rising (x ∷ []) rises = (tt, tt)
  sorted_if_rising (x ∷ y ∷ ys) rises =
      let rest = sorted_if_rising (y ∷ ys) (rest_rises x (y ∷ ys) rises) in
      let first : R (key x) (key y) ≡ Less = rises 0 x (omega arith) in
      ((first, all_above (key x) y ys first rest.0), rest)

  pub above_at : (k : K) (xs : List X) (i : ℕ) (d : X) → AllByRecursion (λ y. R k y ≡ Less) (map key xs) → i < length xs → R k (key (get_or xs i d)) ≡ Less
  above_at k [] i d h below = absurd (omega arith)
  above_at k (x ∷ xs) zero d h below = h.0
  above_at k (x ∷ xs) (suc i) d h below = above_at k xs i d h.1 (omega arith)

  pub rising_if_sorted : (xs : List X) → IsStrictlySortedBy R (map key xs) → AreRising xs
  unfolding IsStrictlySortedBy
  rising_if_sorted [] sorted k d below = absurd (omega arith)
  rising_if_sorted (x ∷ xs) sorted zero d below = above_at (key x) xs 0 d sorted.0 (omega arith)
  rising_if_sorted (x ∷ xs) sorted (suc k) d below = subst (λ n. R (key (get_or xs k d)) (key (get_or (x ∷ xs) n d)) ≡ Less) {x = suc (k + 1)} {y = suc k + 1} (omega arith) (rising_if_sorted xs sorted.1 k d (omega arith))

  -- a test of each element and the next tells
  less_is : (r : Ordering) → is_lt r ≡ true → r ≡ Less
  less_is Less e = refl
  less_is Equal e = absurd (cc)
  less_is Greater e = absurd (cc)

  pub tells_order : (less : X → X → Bool) → ((x y : X) → less x y ≡ is_lt (R (key x) (key y))) → (xs : List X) (r : Bool) → IsAllAdjacentAnswer (λ x y b. b ≡ less x y) xs r → IsTrue r ↔ IsStrictlySortedBy R (map key xs)
  tells_order less is xs true answer = (λ e. sorted_if_rising xs (λ k d below. less_is (R (key (get_or xs k d)) (key (get_or xs (k + 1) d))) (sym (is (get_or xs k d) (get_or xs (k + 1) d)) ∙ sym (answer k d below))), λ sorted. refl)
  tells_order less is [] false answer = absurd (omega (arith, answer.1))
  tells_order less is (x ∷ xs) false answer = (
    λ e. absurd (cc),
    λ sorted.
        let less_here = rising_if_sorted (x ∷ xs) sorted answer.0 x answer.1 in
        answer.2 x ∙ is (get_or (x ∷ xs) answer.0 x) (get_or (x ∷ xs) (answer.0 + 1) x) ∙ ap is_lt less_here,
  )

-- the keys of a map's entries
keys_are : {X K V : Type 0} (f : X → K × V) (xs : List X) → map (λ x. (f x).0) xs ≡ keys_of (map f xs)
keys_are f [] = refl
keys_are f (x ∷ xs) = ap (λ ks. (f x).0 ∷ ks) (keys_are f xs)

pub tells_key_order : {X K V : Type 0} {R : K → K → Ordering} (o : IsTotalOrder R) (f : X → K × V) (less : X → X → Bool) → ((x y : X) → less x y ≡ is_lt (R (f x).0 (f y).0)) → (xs : List X) (r : Bool) → IsAllAdjacentAnswer (λ x y b. b ≡ less x y) xs r
    → IsTrue r ↔ IsStrictlySortedBy R (keys_of (map f xs))
tells_key_order {R = R} o f less is xs r answer = subst (λ ks. IsTrue r ↔ IsStrictlySortedBy R ks) (keys_are f xs) (tells_order o (λ x. (f x).0) less is xs r answer)

module _ {X K V : Type 0} {R : K → K → Ordering} (o : IsTotalOrder R) (f : X → K × V) where
  -- ---- as a map

  after : (k l : K) → R k l ≡ Less → R l k ≡ Greater
  after k l less = o.antisymm l k ∙ ap ordering_reverse less

  -- the key of an element is after those of the elements before it
  later : (x : X) (xs : List X) (i : ℕ) (d : X) → AllByRecursion (λ y. R (f x).0 y ≡ Less) (keys_of (map f xs)) → i < length xs → R (f (get_or xs i d)).0 (f x).0 ≡ Greater
  later x [] i d h below = absurd (omega arith)
  later x (y ∷ ys) zero d h below = after (f x).0 (f y).0 h.0
  later x (y ∷ ys) (suc i) d h below = later x ys i d h.1 (omega arith)

  -- the entry of an element is found by its key
  pub found_at : (xs : List X) (i : ℕ) (d : X) → IsStrictlySortedBy R (keys_of (map f xs)) → i < length xs → lookup (is_at (R (f (get_or xs i d)).0)) (map f xs) ≡ Some (f (get_or xs i d)).1
  unfolding IsStrictlySortedBy
  found_at [] i d sorted below = absurd (omega arith)
  found_at (x ∷ xs) zero d sorted below = ap (λ r. cond (is_eq r) (Some (f x).1) (lookup (is_at (R (f x).0)) (map f xs))) (tied_itself o (f x).0)
  found_at (x ∷ xs) (suc i) d sorted below =
      ap (λ r. cond (is_eq r) (Some (f x).1) (lookup (is_at (R (f (get_or xs i d)).0)) (map f xs))) (later x xs i d sorted.0 (omega arith))
      ∙ found_at xs i d sorted.1 (omega arith)

  -- but not among those before it
  pub not_before : (xs : List X) (i : ℕ) (d : X) → IsStrictlySortedBy R (keys_of (map f xs)) → i < length xs → lookup (is_at (R (f (get_or xs i d)).0)) (map f (take i xs)) ≡ None
  unfolding IsStrictlySortedBy
  not_before [] i d sorted below = absurd (omega arith)
  not_before (x ∷ xs) zero d sorted below = refl
  not_before (x ∷ xs) (suc i) d sorted below =
      ap (λ r. cond (is_eq r) (Some (f x).1) (lookup (is_at (R (f (get_or xs i d)).0)) (map f (take i xs)))) (later x xs i d sorted.0 (omega arith))
      ∙ not_before xs i d sorted.1 (omega arith)

  -- an entry that is put after all those before it is the next one
  pub put_next : (xs : List X) (i : ℕ) (d : X) → IsStrictlySortedBy R (keys_of (map f xs)) → i < length xs → insert_entry R (map f (take i xs)) (f (get_or xs i d)).0 (f (get_or xs i d)).1 ≡ map f (take (suc i) xs)
  unfolding IsStrictlySortedBy
  put_next [] i d sorted below = absurd (omega arith)
  put_next (x ∷ xs) zero d sorted below = refl
  put_next (x ∷ xs) (suc i) d sorted below =
      let k = (f (get_or xs i d)).0 in
      let v = (f (get_or xs i d)).1 in
      ap (λ r. match_ordering r ((k, v) ∷ f x ∷ map f (take i xs)) (((f x).0, v) ∷ map f (take i xs)) (f x ∷ insert_entry R (map f (take i xs)) k v)) (later x xs i d sorted.0 (omega arith))
      ∙ ap (λ rest. f x ∷ rest) (put_next xs i d sorted.1 (omega arith))

-- where the rest finds more, the whole does
choice : {V : Type 0} (b : Bool) (here v : V) (found more : Option V) → (found ≡ Some v → more ≡ Some v) → cond b (Some here) found ≡ Some v → cond b (Some here) more ≡ Some v
choice true here v found more further e = e
choice false here v found more further e = further e

-- what is found among the first entries is found among all
pub found_further : {X K V : Type 0} (f : X → K × V) (test : K → Bool) (xs : List X) (i : ℕ) (v : V) → lookup test (map f (take i xs)) ≡ Some v → lookup test (map f xs) ≡ Some v
found_further f test [] zero v found = found
found_further f test [] (suc i) v found = found
found_further f test (x ∷ xs) zero v found = absurd (none-some v found)
found_further f test (x ∷ xs) (suc i) v found = choice (test (f x).0) (f x).1 v (lookup test (map f (take i xs))) (lookup test (map f xs)) (found_further f test xs i v) found

-- what holds of the first, where it is found, and of what the rest finds holds of what is found
either : {V : Type 0} (P : V → Type 0) (b : Bool) (here v : V) (found : Option V) → (b ≡ true → P here) → (found ≡ Some v → P v) → cond b (Some here) found ≡ Some v → P v
either P true here v found first rest e = subst P (same_Some here v e) (first refl)
either P false here v found first rest e = rest e

-- what holds of each entry holds of one that is found
pub holds_of_found : {X K V : Type 0} (f : X → K × V) (P : K → V → Type 0) (test : K → Bool) (q : K) → ((k : K) → test k ≡ true → q ≡ k) → (xs : List X) (v : V) → AllByRecursion (λ x. P (f x).0 (f x).1) xs → lookup test (map f xs) ≡ Some v → P q v
holds_of_found f P test q exact [] v h found = absurd (none-some v found)
holds_of_found f P test q exact (x ∷ xs) v h found = either (P q) (test (f x).0) (f x).1 v (lookup test (map f xs)) (λ is. subst (λ k. P k (f x).1) (sym (exact (f x).0 is)) h.0) (holds_of_found f P test q exact xs v h.1) found
