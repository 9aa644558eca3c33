-- Elements of lists, and the first of candidates that two lists have.
use Rattle.std.proofs.Common.{◌≡◌, ℕ, ◌+◌, ◌<◌, ◌||◌, ◌⊎◌, IsSome, zero, suc, inl, inr, true≢false, Bool, true, false, cond, List, [], ◌∷◌, filter, length, slice_index_or, Contains, is_some, Option, Some, None, refl, sym, ap, ◌∙◌, subst, arith}
use Rattle.std.specs.List.{list_any, range_with_len}
use Rattle.std.specs.Option.{option_map_or}
use Rattle.std.proofs.lemmas.List.Elements.{All-contains}
use Rattle.law_home_commutes.specs.Registers.{Candidate, is_before, first_of}
use Rattle.law_home_commutes.proofs.GicPrio.FirstLemmas.{first_is, first_there}
use Rattle.law_scans_miss_none.proofs.VcpuRefill.ElementLemmas.{Contains-here, Contains-there, Contains-cases, Contains-nothing}

-- what passes a test is one of those that were tested
pub filtered_from : {X : Type 0} (p : X → Bool) (xs : List X) (y : X) → Contains (filter p xs) y → Contains xs y
filtered_from p [] y h = absurd (Contains-nothing y h)
filtered_from p (x ∷ xs) y h = of (p x) h (filtered_from p xs y)
  where
    of : (b : Bool) → Contains (cond b (x ∷ filter p xs) (filter p xs)) y → (Contains (filter p xs) y → Contains xs y) → Contains (x ∷ xs) y
    of false h later = Contains-there x y xs (later h)
    of true h later = elim (Contains-cases x y (filter p xs) h) [ inl e ↦ subst (λ z. Contains (x ∷ xs) z) e (Contains-here x xs) | inr rest ↦ Contains-there x y xs (later rest) ]

pub none_passes : {X : Type 0} (p : X → Bool) (xs : List X) → filter p xs ≡ [] → list_any p xs ≡ false
none_passes p [] h = refl
none_passes p (x ∷ xs) h = of (p x) h (none_passes p xs)
  where
    of : (b : Bool) → cond b (x ∷ filter p xs) (filter p xs) ≡ [] → (filter p xs ≡ [] → list_any p xs ≡ false) → (b || list_any p xs) ≡ false
    of true h later = absurd (cc)
    of false h later = later h

-- where a place of a list has something the list reaches
pub some_in_range : {X : Type 0} (xs : List (Option X)) (n : ℕ) → is_some (slice_index_or xs n None) ≡ true → n < length xs
some_in_range [] n h = absurd (cc)
some_in_range (x ∷ xs) zero h = omega arith
some_in_range (x ∷ xs) (suc n) h = omega (arith, some_in_range xs n h)

-- a range
range_holds : (a n i : ℕ) → i < n → Contains (range_with_len a n) (a + i)
range_holds a zero i h = absurd (omega (arith, h))
range_holds a (suc n) zero h = subst (λ m. Contains (a ∷ range_with_len (a + 1) n) m) (omega arith) (Contains-here a (range_with_len (a + 1) n))
range_holds a (suc n) (suc i) h = subst (λ m. Contains (a ∷ range_with_len (a + 1) n) m) (omega arith) (Contains-there a (a + 1 + i) (range_with_len (a + 1) n) (range_holds (a + 1) n i (omega (arith, h))))

range_ends : (a n x : ℕ) → Contains (range_with_len a n) x → x < a + n
range_ends a zero x h = absurd (Contains-nothing x h)
range_ends a (suc n) x h = elim (Contains-cases a x (range_with_len (a + 1) n) h) [ inl e ↦ omega (arith, e) | inr later ↦ omega (arith, range_ends (a + 1) n x later) ]

pub range_has : (n i : ℕ) → i < n → Contains (range_with_len 0 n) i
range_has n i h = subst (Contains (range_with_len 0 n)) (omega arith) (range_holds 0 n i h)

pub range_within : (n x : ℕ) → Contains (range_with_len 0 n) x → x < n
range_within n x h = omega (arith, range_ends 0 n x h)

-- The first of two lists of candidates, where one has all of the other's, each more is not before the first of that, and two of which neither is before the other are one.

module _ (few more : List Candidate) (there : (c : Candidate) → Contains few c → Contains more c) (extra : (c : Candidate) → Contains more c → Contains few c ⊎ (option_map_or (is_before c) (first_of few) true ≡ false))
    (once : (a b : Candidate) → Contains more a → Contains more b → is_before a b ≡ false → is_before b a ≡ false → a ≡ b) where
  none_there : (xs : List Candidate) → ((c : Candidate) → Contains xs c → ⊥) → first_of xs ≡ None
  none_there [] nothing = refl
  none_there (x ∷ xs) nothing = absurd (nothing x (Contains-here x xs))

  empty_if : (xs : List Candidate) → first_of xs ≡ None → (c : Candidate) → Contains xs c → ⊥
  empty_if [] none c h = Contains-nothing c h
  empty_if (x ∷ xs) none c h = no_some (first_of (x ∷ xs)) none (first_there (x ∷ xs) (λ e. cons_some x xs e))
    where
      no_some : (o : Option Candidate) → o ≡ None → IsSome o → ⊥
      no_some None e h = cc
      no_some (Some y) e h = cc

      cons_some : (y : Candidate) (ys : List Candidate) → y ∷ ys ≡ [] → ⊥
      cons_some y ys e = cc

  pub first_agrees : first_of few ≡ first_of more
  first_agrees = of (first_of few) refl (first_of more) refl
    where
      of : (o : Option Candidate) → first_of few ≡ o → (p : Option Candidate) → first_of more ≡ p → first_of few ≡ first_of more
      of None e p f =
          e ∙ sym (none_there more (λ c h. elim (extra c h) [ inl among ↦ empty_if few e c among | inr not_before ↦ true≢false (ap (λ o. option_map_or (is_before c) o true) (sym e) ∙ not_before) ]))
      of (Some b) e None f = absurd (empty_if more f b (there b (first_is few b e).among))
      of (Some b) e (Some c) f =
          let least_b = first_is few b e in
          let least_c = first_is more c f in
          let back : is_before c b ≡ false = elim (extra c least_c.among) [
            | inl among ↦ All-contains (λ other. is_before other b ≡ false) few c least_b.least among
            | inr not_before ↦ ap (λ o. option_map_or (is_before c) o true) (sym e) ∙ not_before
          ] in
          e ∙ ap Some (once b c (there b least_b.among) least_c.among (All-contains (λ other. is_before other c ≡ false) more b least_c.least (there b least_b.among)) back) ∙ sym f
