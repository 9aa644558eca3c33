-- Elements of lists.
use Rattle.std.proofs.Common.{◌≡◌, ◌≤◌, ◌<◌, zero, suc, Bool, true, false, List, [], ◌∷◌, length, cond, Some, Contains, ◌⊎◌, inl, inr, refl, sym, ap, ◌∙◌, subst, arith}
use Rattle.std.specs.Prelude.{slice_get, map, filter}
use Rattle.std.proofs.lemmas.Option.{slice_get_within, get_or_from_slice_get, slice_get-get_or}
use Rattle.vcpu_refill.specs.Ranking.{in_places}
use Rattle.vcpu_refill.proofs.PlaceLemmas.{get_or-in_places, length-in_places}

pub Contains-here : {X : Type 0} (x : X) (xs : List X) → Contains (x ∷ xs) x
Contains-here x xs = (0, omega arith, refl)

pub Contains-there : {X : Type 0} (x y : X) (xs : List X) → Contains xs y → Contains (x ∷ xs) y
Contains-there x y xs has = (suc has.0, omega (arith, has.1), has.2)

pub Contains-cases : {X : Type 0} (x y : X) (xs : List X) → Contains (x ∷ xs) y → (x ≡ y) ⊎ Contains xs y
Contains-cases x y xs (zero, within, is) = inl is
Contains-cases x y xs (suc k, within, is) = inr (k, omega (arith, within), is)

pub Contains-nothing : {X : Type 0} (y : X) → Contains [] y → ⊥
Contains-nothing y has = omega (arith, has.1)

pub Contains-filter : {X : Type 0} (p : X → Bool) (xs : List X) (y : X) → p y ≡ true → Contains xs y → Contains (filter p xs) y
Contains-filter p [] y passes has = absurd (Contains-nothing y has)
Contains-filter {X} p (x ∷ xs) y passes has =
    elim (Contains-cases x y xs has) [
      | inl is ↦
          let here : p x ≡ true = ap p is ∙ passes in
          subst (λ b. Contains (cond b (x ∷ filter p xs) (filter p xs)) y) (sym here) (subst (Contains (x ∷ filter p xs)) is (Contains-here x (filter p xs)))
      | inr rest ↦ kept (p x) (Contains-filter p xs y passes rest)
    ]
  where
    kept : (b : Bool) → Contains (filter p xs) y → Contains (cond b (x ∷ filter p xs) (filter p xs)) y
    kept true has = Contains-there x y (filter p xs) has
    kept false has = has

pub Contains-map : {X Y : Type 0} (f : X → Y) (xs : List X) (x : X) → Contains xs x → Contains (map f xs) (f x)
Contains-map f [] y has = absurd (Contains-nothing y has)
Contains-map f (x ∷ xs) y has =
    elim (Contains-cases x y xs has) [
      | inl is ↦ subst (λ z. Contains (map f (x ∷ xs)) (f z)) is (Contains-here (f x) (map f xs))
      | inr rest ↦ Contains-there (f x) (f y) (map f xs) (Contains-map f xs y rest)
    ]

pub map_cases : {X Y : Type 0} (f : X → Y) (xs : List X) (z : Y) → Contains (map f xs) z → (x : X) × Contains xs x × (f x ≡ z)
map_cases f [] z has = absurd (Contains-nothing z has)
map_cases f (x ∷ xs) z has =
    elim (Contains-cases (f x) z (map f xs) has) [
      | inl is ↦ (x, Contains-here x xs, is)
      | inr rest ↦ let found = map_cases f xs z rest in (found.0, Contains-there x found.0 xs found.1, found.2)
    ]

-- what stands in some place is an element, and an element of a list that is not too long stands in some place
pub Contains-from_places : {X : Type 0} (xs : List X) (x : X) → Contains (in_places xs) (Some x) → Contains xs x
Contains-from_places xs x has =
    let few : has.0 < 16 = omega (arith, has.1, length-in_places xs) in
    let is : slice_get xs has.0 ≡ Some x = sym (get_or-in_places xs has.0 (Some x) few) ∙ has.2 in
    (has.0, slice_get_within xs has.0 x is, get_or_from_slice_get xs has.0 x x is)

pub Contains-in_places : {X : Type 0} (xs : List X) (x : X) → length xs ≤ 16 → Contains xs x → Contains (in_places xs) (Some x)
Contains-in_places xs x fits has =
    let few : has.0 < 16 = omega (arith, has.1, fits) in
    (has.0, omega (arith, few, length-in_places xs), get_or-in_places xs has.0 (Some x) few ∙ slice_get-get_or xs has.0 x has.1 ∙ ap Some has.2)
