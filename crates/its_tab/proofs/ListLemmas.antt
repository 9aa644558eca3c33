-- The LPIs that pass a test, by one pass over the index.
use Rattle.std.proofs.Common.{◌≡◌, ℕ, Bool, true, false, cond, Some, None, is_some, nat_eq, Option, IsSome, List, [], ◌∷◌, ◌++◌, refl, sym, ap, ◌∙◌, subst, append_assoc, append-nil, true≢false, length, arith}
use Rattle.std.specs.List.{filter, Contains}
use Rattle.std.specs.List.Sorted.{IsStrictlyIncreasing}
use Rattle.std.specs.Option.{option_map, option_and_then, option_eq}
use Rattle.std.specs.Ordering.{nat_cmp}
use Rattle.std.specs.Map.{lookup, keys_of}
use Rattle.std.specs.BTreeMap.{is_at}
use Rattle.std.proofs.lemmas.List.Elements.{All-contains, filter_passes}
use Rattle.std.proofs.lemmas.List.Kept.{IsStrictlyIncreasing-filter}
use Rattle.std.proofs.lemmas.Map.Entries.{lookup-filter-keys}
use Rattle.std.proofs.lemmas.Map.Keys.{IsStrictlyIncreasing-from_sorted}
use Rattle.std.proofs.lemmas.Map.Views.{Contains-keys_from_lookup}
use Rattle.std.proofs.lemmas.Bool.{eqb-true, eq-eqb}
use Rattle.its_tab.specs.Maps.{Maps, pair_of, target_of, owner_of, IsIndex, IsIndexed}
use Rattle.its_tab.specs.Collection.{collection_of, has_target}
use Rattle.sorted_pairs.proofs.MapLemmas.{keys_of-filter, same_number}

module _ (p : ℕ → Bool) (whole ids : List ℕ) (id : ℕ) (rest left : List ℕ) (so_far : filter p whole ≡ ids ++ filter p left) (is : left ≡ id ∷ rest) where
  split : filter p whole ≡ ids ++ cond (p id) (id ∷ filter p rest) (filter p rest)
  split = so_far ∙ ap (λ xs. ids ++ filter p xs) is

  -- the next one passes, or does not
  pub kept : (more : List ℕ) → p id ≡ true → more ≡ ids ++ id ∷ [] → filter p whole ≡ more ++ filter p rest
  kept more passes push = split ∙ ap (λ b. ids ++ cond b (id ∷ filter p rest) (filter p rest)) passes ∙ sym (append_assoc ids (id ∷ []) (filter p rest)) ∙ ap (λ xs. xs ++ filter p rest) (sym push)

  pub skipped : p id ≡ false → filter p whole ≡ ids ++ filter p rest
  skipped passes = split ∙ ap (λ b. ids ++ cond b (id ∷ filter p rest) (filter p rest)) passes

pub nothing_left : {K X : Type 0} (es : List (K × X)) → length es ≡ 0 → keys_of es ≡ []
nothing_left [] h = refl
nothing_left (e ∷ es) h = absurd (omega arith)

-- what is listed: each number that passes, where those that pass are of events
pub record Lists (p : ℕ → Bool) (ids : List ℕ) : Type 0 where
  pub rising : IsStrictlyIncreasing ids
  pub passes : (id : ℕ) → Contains ids id → p id ≡ true
  pub all : (id : ℕ) → p id ≡ true → Contains ids id

listed : (p : ℕ → Bool) (owners : List (ℕ × (ℕ × ℕ))) (maps : Maps) → IsIndex owners maps → ((id : ℕ) → p id ≡ true → IsSome (owner_of maps id)) → Lists p (filter p (keys_of owners))
listed p owners maps index owned = record {
  rising = IsStrictlyIncreasing-filter p (keys_of owners) (IsStrictlyIncreasing-from_sorted (keys_of owners) index.ordered);
  passes = λ id there. All-contains (λ x. p x ≡ true) (filter p (keys_of owners)) id (filter_passes p (keys_of owners)) there;
  all = λ id h.
      let found : lookup (is_at (nat_cmp id)) (filter (λ e. p e.0) owners) ≡ owner_of maps id =
      lookup-filter-keys (is_at (nat_cmp id)) p (p id) (λ k t. ap p (sym (same_number id k t))) owners ∙ ap (λ b. cond b (lookup (is_at (nat_cmp id)) owners) None) h ∙ index.inverse id in
      subst (λ ks. Contains ks id) (keys_of-filter p owners)
      (Contains-keys_from_lookup {eq = λ x y. is_at (nat_cmp x) y} same_number id (filter (λ e. p e.0) owners) (subst IsSome (sym found) (owned id h)));
}

pub all_listed : {maps seen : Maps} (p : ℕ → Bool) (owners : List (ℕ × (ℕ × ℕ))) (whole ids left : List ℕ) → maps ≡ seen → IsIndexed owners maps → whole ≡ keys_of owners → filter p whole ≡ ids ++ filter p left → left ≡ [] → ((id : ℕ) → p id ≡ true → IsSome (owner_of seen id)) → Lists p ids
all_listed {maps} {seen} p owners whole ids left view indexed all so_far none owned =
    let is : filter p (keys_of owners) ≡ ids = ap (filter p) (sym all) ∙ so_far ∙ ap (λ xs. ids ++ filter p xs) none ∙ append-nil ids in
    subst (Lists p) is (listed p owners maps indexed.index (λ id h. subst (λ m. IsSome (owner_of m id)) (sym view) (owned id h)))

-- an LPI with a collection or a target is of an event
module _ (maps : Maps) (id : ℕ) where
  pub owned_in : (icid : ℕ) → option_eq nat_eq (collection_of maps id) (Some icid) ≡ true → IsSome (owner_of maps id)
  owned_in icid = elim (owner_of maps id) as (λ o. option_eq nat_eq (option_map (λ pair. pair.1) (option_and_then (pair_of maps) o)) (Some icid) ≡ true → IsSome o) [
    | None ↦ λ h. absurd (true≢false (sym h))
    | (Some owner) ↦ λ h. refl
  ]

  pub owned_with : has_target maps id ≡ true → IsSome (owner_of maps id)
  owned_with = elim (owner_of maps id) as (λ o. is_some (option_and_then (target_of maps) (option_map (λ pair. pair.1) (option_and_then (pair_of maps) o))) ≡ true → IsSome o) [
    | None ↦ λ h. absurd (true≢false (sym h))
    | (Some owner) ↦ λ h. refl
  ]

pub some_from_equal : (o : Option ℕ) (n : ℕ) → option_eq nat_eq o (Some n) ≡ true → o ≡ Some n
some_from_equal None n h = absurd (true≢false (sym h))
some_from_equal (Some m) n h = ap Some (eqb-true m n h)

pub equal_from_some : (o : Option ℕ) (n : ℕ) → o ≡ Some n → option_eq nat_eq o (Some n) ≡ true
equal_from_some o n h = ap (λ x. option_eq nat_eq x (Some n)) h ∙ eq-eqb n n refl
