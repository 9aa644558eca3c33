-- Where a search of pairs in order ends, and what a change there makes of them.
use Rattle.std.proofs.Common.{◌≡◌, ℕ, zero, suc, ◌+◌, ◌<◌, ◌≤◌, true, false, cond, Some, None, Option, List, [], ◌∷◌, length, get_or, set, Result, Ok, Err, refl, sym, ap, ◌∙◌, subst, find, arith}
use Rattle.std.specs.declared.cmp.Ordering.{Ordering}
use Rattle.std.specs.declared.cmp.Ordering.TheVariants.{Less, Equal, Greater}
use Rattle.std.specs.Ordering.{is_eq, is_lt, is_le, ordering_reverse, match_ordering}
use Rattle.std.specs.Cmp.{IsTotalOrder}
use Rattle.std.specs.List.{insert, remove, AllByRecursion, AllWithin, HoldsAt, slice_get}
use Rattle.std.specs.Option.{option_map, option_copied}
use Rattle.std.specs.List.Sorted.{IsStrictlySortedBy, IsSortedBy, IsSearchInRange, IsBinarySearchResult}
use Rattle.std.specs.Map.{lookup, remove_entry, keys_of}
use Rattle.std.specs.BTreeMap.{is_at, insert_entry}
use Rattle.std.proofs.lemmas.Option.{slice_get_past, slice_get_read}
use Rattle.std.proofs.lemmas.Bool.{cases_lt}
use Rattle.std.proofs.lemmas.List.Sorted.{searchable_from_sorted}
use Rattle.std.proofs.Common.{is_ok, true≢false, IsSome, IfSome, IfNone, OnErr, OnOk, OnSome, IsOk, Bor, inl, inr}
use Rattle.sorted_pairs.specs.Place.{place_of, further}

abbrev index_of : Result ℕ ℕ → ℕ
index_of (Ok at) = at
index_of (Err at) = at

not_before : (r : Ordering) → r ≡ Less → is_lt (ordering_reverse r) ≡ false
not_before r h = ap (λ s. is_lt (ordering_reverse s)) h

module _ {K X : Type 0} {R : K → K → Ordering} (o : IsTotalOrder R) where
  -- keys that rise are in order, as a binary search asks
  rises : (pairs : List (K × X)) (k : ℕ) (d : K × X) → IsStrictlySortedBy R (keys_of pairs) → suc k < length pairs → is_lt (R (get_or pairs (suc k) d).0 (get_or pairs k d).0) ≡ false
  unfolding IsStrictlySortedBy
  rises [] k d s high = absurd (omega arith)
  rises (x ∷ []) k d s high = absurd (omega arith)
  rises (x ∷ y ∷ pairs) zero d s high = ap is_lt (o.antisymm y.0 x.0) ∙ not_before (R x.0 y.0) s.0.0
  rises (x ∷ y ∷ pairs) (suc k) d s high = rises (y ∷ pairs) k d s.1 (omega arith)

  sorted_now : (pairs : List (K × X)) → IsStrictlySortedBy R (keys_of pairs) → IsSortedBy (λ x y. is_lt (R x.0 y.0)) pairs
  sorted_now pairs s k d low high = subst (λ (n : ℕ). is_lt (R (get_or pairs n d).0 (get_or pairs k d).0) ≡ false) {x = suc k} {y = k + 1} (omega arith) (rises pairs k d s (omega arith))

  -- a key that stands further on comes after the first one
  later : (x q : K) (pairs : List (K × X)) (at : ℕ) (d : K × X) → AllByRecursion (λ y. R x y ≡ Less) (keys_of pairs) → at < length pairs → R (get_or pairs at d).0 q ≡ Equal → R q x ≡ Greater
  later x q [] at d below long there = absurd (omega arith)
  later x q (y ∷ pairs) zero d below long there =
      let same : R x q ≡ Less = o.antisymm x q ∙ ap ordering_reverse (sym (o.congr y.0 q x there)) ∙ sym (o.antisymm x y.0) ∙ below.0 in
      o.antisymm q x ∙ ap ordering_reverse same
  later x q (y ∷ pairs) (suc at) d below long there = later x q pairs at d below.1 (omega arith) there

  passed : (q : K) (x : K × X) (pairs : List (K × X)) (r : Result ℕ ℕ) → R q x.0 ≡ Greater → place_of (R q) pairs ≡ r → place_of (R q) (x ∷ pairs) ≡ further r
  passed q x pairs r h is = ap (λ s. match_ordering s (Err 0) (Ok 0) (further (place_of (R q) pairs))) h ∙ ap further is

  -- a search that ended at a pair with the key, or between those before it and those after it, ended at its place
  pub place_there : (q : K) (pairs : List (K × X)) (at : ℕ) → IsStrictlySortedBy R (keys_of pairs) → at < length pairs → HoldsAt (λ y. R y.0 q ≡ Equal) pairs at → place_of (R q) pairs ≡ Ok at
  unfolding IsStrictlySortedBy
  place_there q [] at s long there = absurd (omega arith)
  place_there q (x ∷ pairs) zero s long there = ap (λ r. match_ordering r (Err 0) (Ok 0) (further (place_of (R q) pairs))) (o.antisymm q x.0 ∙ ap ordering_reverse (there x))
  place_there q (x ∷ pairs) (suc at) s long there = passed q x pairs (Ok at) (later x.0 q pairs at x s.0 (omega arith) (there x)) (place_there q pairs at s.1 (omega arith) there)

  pub place_between : (q : K) (pairs : List (K × X)) (at : ℕ) → at ≤ length pairs → AllWithin (λ y. R y.0 q ≡ Less) pairs 0 at → AllWithin (λ y. R y.0 q ≡ Greater) pairs at (length pairs) → place_of (R q) pairs ≡ Err at
  place_between q [] at long before after = ap Err (omega arith)
  place_between q (x ∷ pairs) zero long before after = ap (λ r. match_ordering r (Err 0) (Ok 0) (further (place_of (R q) pairs))) (o.antisymm q x.0 ∙ ap ordering_reverse (after 0 x (omega arith) (omega arith)))
  place_between q (x ∷ pairs) (suc at) long before after =
      passed q x pairs (Err at) (o.antisymm q x.0 ∙ ap ordering_reverse (before 0 x (omega arith) (omega arith)))
      (place_between q pairs at (omega arith) (λ k d low high. before (suc k) d (omega arith) (omega arith)) (λ k d low high. after (suc k) d (omega arith) (omega arith)))

  -- what a binary search answers is the place
  pub searched : (q : K) (pairs : List (K × X)) (r : Result ℕ ℕ) → IsStrictlySortedBy R (keys_of pairs) → IsSearchInRange r (length pairs) → IsBinarySearchResult (λ y. R y.0 q) pairs r → r ≡ place_of (R q) pairs
  searched q pairs (Ok at) s bound position = sym (place_there q pairs at s bound position)
  searched q pairs (Err at) s bound position =
      let parted = position (searchable_from_sorted o (λ (y : K × X). y.0) pairs q (sorted_now pairs s)) in
      sym (place_between q pairs at bound parted.0 parted.1)

ok_further : (r : Result ℕ ℕ) (at : ℕ) → further r ≡ Ok at → (before : ℕ) × (r ≡ Ok before) × (at ≡ suc before)
ok_further (Ok n) at h = let same : suc n ≡ at = ap index_of h in (n, refl, sym same)
ok_further (Err n) at h = absurd (true≢false (sym (ap is_ok h)))

err_further : (r : Result ℕ ℕ) (at : ℕ) → further r ≡ Err at → (before : ℕ) × (r ≡ Err before) × (at ≡ suc before)
err_further (Ok n) at h = absurd (true≢false (ap is_ok h))
err_further (Err n) at h = let same : suc n ≡ at = ap index_of h in (n, refl, sym same)

module _ {K X : Type 0} {R : K → K → Ordering} (o : IsTotalOrder R) (q : K) where
  here : (x : K × X) (pairs : List (K × X)) (r : Ordering) → R q x.0 ≡ r → place_of (R q) (x ∷ pairs) ≡ match_ordering r (Err 0) (Ok 0) (further (place_of (R q) pairs))
  here x pairs r h = ap (λ s. match_ordering s (Err 0) (Ok 0) (further (place_of (R q) pairs))) h

  -- what stands at a place: an equal key comes after lesser ones
  pub record Found (pairs : List (K × X)) (at : ℕ) : Type 0 where
    pub below : at < length pairs
    pub value : lookup (is_at (R q)) pairs ≡ option_map (λ pair. pair.1) (slice_get pairs at)
    pub first : find (λ pair. is_le (R q pair.0)) pairs ≡ slice_get pairs at
    pub changed : (d : K × X) (v : X) → set pairs at ((get_or pairs at d).0, v) ≡ insert_entry R pairs q v
    pub removed : remove pairs at ≡ remove_entry (is_at (R q)) pairs

  by_place : {P : Type 0} (x : K × X) (pairs : List (K × X)) (at : ℕ) → place_of (R q) (x ∷ pairs) ≡ Ok at → (R q x.0 ≡ Equal → at ≡ 0 → P) → ((before : ℕ) → R q x.0 ≡ Greater → place_of (R q) pairs ≡ Ok before → at ≡ suc before → P) → P
  by_place {P} x pairs at h now on = elim (R q x.0) as (λ r. R q x.0 ≡ r → P) [
    | Less ↦ λ e. absurd (true≢false (sym (ap is_ok (sym (here x pairs Less e) ∙ h))))
    | Equal ↦ λ e. now e (sym (ap index_of (sym (here x pairs Equal e) ∙ h)))
    | Greater ↦ λ e. let more = ok_further (place_of (R q) pairs) at (sym (here x pairs Greater e) ∙ h) in on more.0 e more.1 more.2
  ] refl

  pub found_at : (pairs : List (K × X)) (at : ℕ) → place_of (R q) pairs ≡ Ok at → Found pairs at
  found_at [] at h = absurd (true≢false (sym (ap is_ok h)))
  found_at (x ∷ pairs) at h = by_place x pairs at h
      (λ e zero_is. subst (Found (x ∷ pairs)) (sym zero_is) (record {
        below = omega arith;
        value = ap (λ r. cond (is_eq r) (Some x.1) (lookup (is_at (R q)) pairs)) e;
        first = ap (λ r. cond (is_le r) (Some x) (find (λ pair. is_le (R q pair.0)) pairs)) e;
        changed = λ d v. sym (ap (λ r. match_ordering r ((q, v) ∷ x ∷ pairs) ((x.0, v) ∷ pairs) (x ∷ insert_entry R pairs q v)) e);
        removed = sym (ap (λ r. cond (is_eq r) pairs (x ∷ remove_entry (is_at (R q)) pairs)) e);
      }))
      (λ before e there next.
      let rest = found_at pairs before there in
      subst (Found (x ∷ pairs)) (sym next) (record {
        below = omega (arith, rest.below);
        value = ap (λ r. cond (is_eq r) (Some x.1) (lookup (is_at (R q)) pairs)) e ∙ rest.value;
        first = ap (λ r. cond (is_le r) (Some x) (find (λ pair. is_le (R q pair.0)) pairs)) e ∙ rest.first;
        changed = λ d v. ap (λ ps. x ∷ ps) (rest.changed d v) ∙ sym (ap (λ r. match_ordering r ((q, v) ∷ x ∷ pairs) ((x.0, v) ∷ pairs) (x ∷ insert_entry R pairs q v)) e);
        removed = ap (λ ps. x ∷ ps) rest.removed ∙ sym (ap (λ r. cond (is_eq r) pairs (x ∷ remove_entry (is_at (R q)) pairs)) e);
      }))

  -- what stands at the place of a key that is not there
  pub record Missing (pairs : List (K × X)) (at : ℕ) : Type 0 where
    pub within : at ≤ length pairs
    pub value : lookup (is_at (R q)) pairs ≡ None
    pub first : find (λ pair. is_le (R q pair.0)) pairs ≡ slice_get pairs at
    pub put : (v : X) → insert pairs at (q, v) ≡ insert_entry R pairs q v
    pub left : pairs ≡ remove_entry (is_at (R q)) pairs

  by_gap : {P : Type 0} (x : K × X) (pairs : List (K × X)) (at : ℕ) → place_of (R q) (x ∷ pairs) ≡ Err at → (R q x.0 ≡ Less → at ≡ 0 → P) → ((before : ℕ) → R q x.0 ≡ Greater → place_of (R q) pairs ≡ Err before → at ≡ suc before → P) → P
  by_gap {P} x pairs at h now on = elim (R q x.0) as (λ r. R q x.0 ≡ r → P) [
    | Less ↦ λ e. now e (sym (ap index_of (sym (here x pairs Less e) ∙ h)))
    | Equal ↦ λ e. absurd (true≢false (ap is_ok (sym (here x pairs Equal e) ∙ h)))
    | Greater ↦ λ e. let more = err_further (place_of (R q) pairs) at (sym (here x pairs Greater e) ∙ h) in on more.0 e more.1 more.2
  ] refl

  -- all keys after one that comes after the query do too
  pub record AllAfter (pairs : List (K × X)) : Type 0 where
    pub value : lookup (is_at (R q)) pairs ≡ None
    pub left : pairs ≡ remove_entry (is_at (R q)) pairs

  all_after : (x : K × X) (pairs : List (K × X)) → R q x.0 ≡ Less → AllByRecursion (λ y. R x.0 y ≡ Less) (keys_of pairs) → AllAfter pairs
  all_after x [] h below = record { value = refl; left = refl }
  all_after x (y ∷ pairs) h below =
      let rest = all_after x pairs h below.1 in
      let e = o.trans q x.0 y.0 h below.0 in
      record {
        value = ap (λ r. cond (is_eq r) (Some y.1) (lookup (is_at (R q)) pairs)) e ∙ rest.value;
        left = ap (λ ps. y ∷ ps) rest.left ∙ sym (ap (λ r. cond (is_eq r) pairs (y ∷ remove_entry (is_at (R q)) pairs)) e);
      }

  pub missing_at : (pairs : List (K × X)) (at : ℕ) → IsStrictlySortedBy R (keys_of pairs) → place_of (R q) pairs ≡ Err at → Missing pairs at
  unfolding IsStrictlySortedBy
  missing_at [] at s h = subst (Missing []) {x = 0} (ap index_of h) (record { within = omega arith; value = refl; first = refl; put = λ v. refl; left = refl })
  missing_at (x ∷ pairs) at s h = by_gap x pairs at h
      (λ e zero_is.
      let rest = all_after x pairs e s.0 in
      subst (Missing (x ∷ pairs)) (sym zero_is) (record {
        within = omega arith;
        value = ap (λ r. cond (is_eq r) (Some x.1) (lookup (is_at (R q)) pairs)) e ∙ rest.value;
        first = ap (λ r. cond (is_le r) (Some x) (find (λ pair. is_le (R q pair.0)) pairs)) e;
        put = λ v. sym (ap (λ r. match_ordering r ((q, v) ∷ x ∷ pairs) ((x.0, v) ∷ pairs) (x ∷ insert_entry R pairs q v)) e);
        left = ap (λ ps. x ∷ ps) rest.left ∙ sym (ap (λ r. cond (is_eq r) pairs (x ∷ remove_entry (is_at (R q)) pairs)) e);
      }))
      (λ before e there next.
      let rest = missing_at pairs before s.1 there in
      subst (Missing (x ∷ pairs)) (sym next) (record {
        within = omega (arith, rest.within);
        value = ap (λ r. cond (is_eq r) (Some x.1) (lookup (is_at (R q)) pairs)) e ∙ rest.value;
        first = ap (λ r. cond (is_le r) (Some x) (find (λ pair. is_le (R q pair.0)) pairs)) e ∙ rest.first;
        put = λ v. ap (λ ps. x ∷ ps) (rest.put v) ∙ sym (ap (λ r. match_ordering r ((q, v) ∷ x ∷ pairs) ((x.0, v) ∷ pairs) (x ∷ insert_entry R pairs q v)) e);
        left = ap (λ ps. x ∷ ps) rest.left ∙ sym (ap (λ r. cond (is_eq r) pairs (x ∷ remove_entry (is_at (R q)) pairs)) e);
      }))

-- a read of a pair, as the list's look-up of its place
pub read_at : {X : Type 0} (xs : List X) (at : ℕ) (r : Option (Bor X)) → (IsSome r → at < length xs) → (at < length xs → IsSome r) → IfSome r (λ x. x.now ≡ get_or xs at x.now) → option_copied r ≡ slice_get xs at
read_at xs at None within past said = sym (slice_get_past xs at (at_end past))
  where
    at_end : (at < length xs → false ≡ true) → length xs ≤ at
    at_end h = elim (cases_lt at (length xs)) [ inl l ↦ absurd (true≢false (sym (h l))) | inr l ↦ l ]
read_at xs at (Some x) within past said = sym (slice_get_read xs (length xs) at x.now refl (within refl) said)

-- an insert of a key that is not there is done, since there is room
pub has_room : {X E : Type 0} (found : Option X) (r : Result (Unit {0}) E) (len cap : ℕ) → found ≡ None → IfNone found (len < cap) → OnErr r (cap ≤ len) → IsOk r
has_room found (Ok done) len cap missing room full = refl
has_room found (Err e) len cap missing room full = let below : len < cap = subst (λ o. IfNone o (len < cap)) missing room in absurd (omega (arith, below, full))

pub on_ok : {E : Type 0} {P : Type 0} (r : Result (Unit {0}) E) → IsOk r → OnOk r P → P
on_ok (Ok done) ok h = h
on_ok (Err e) ok h = absurd (true≢false (sym ok))

pub on_some : {X P : Type 0} (r : Option X) (x : X) → r ≡ Some x → OnSome r P → P
on_some {P = P} r x is h = subst (λ o. OnSome o P) is h
