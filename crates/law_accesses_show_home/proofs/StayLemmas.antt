-- Where an interrupt stands that stands at an interface, and what of its place is kept.
use Rattle.std.proofs.Common.{◌≡◌, ℕ, zero, suc, inl, inr, List, [], ◌∷◌, ◌++◌, slice_index_or, slice_set, Contains, Option, Some, None, sym, ap, ◌∙◌, subst}
use Rattle.std.proofs.lemmas.Bool.{cases_eq}
use Rattle.law_home_commutes.specs.Words.{Key, GuestShape}
use Rattle.law_home_commutes.proofs.GicBase.KeyLemmas.{same_itself}
use Rattle.law_home_commutes.specs.Calls.{Entry}
use Rattle.law_home_commutes.specs.Histories.{Ideal, Standing, standing_at, is_of}
use Rattle.law_home_commutes.proofs.SpotLemmas.{Spot, IsSpot, IsThere, IsTidy}
use Rattle.law_scans_miss_none.proofs.VcpuRefill.ElementLemmas.{Contains-nothing, Contains-cases, Contains-filter}
use Rattle.law_home_commutes.proofs.LawHistories.StandLemmas.{of_key, standing_of_key}

same_first : (a b : Standing) → a ∷ [] ≡ b ∷ [] → a ≡ b
same_first a b e = cc

pub same_entry : (key : Key) (a b : Entry) → standing_of_key key a ∷ [] ≡ standing_of_key key b ∷ [] → a ≡ b
same_entry key a b e = ap (λ (s : Standing). s.entry) (same_first (standing_of_key key a) (standing_of_key key b) e)

-- what a vCPU's interface has of it is where it is
pub there_so : (shape : GuestShape) (state : Ideal) → IsTidy shape state → (key : Key) (vcpu : ℕ) (entry : Entry) → of_key state key vcpu ≡ standing_of_key key entry ∷ [] → IsThere shape key (of_key state key) (record { vcpu = vcpu; entry = entry })
there_so shape state tidy key vcpu entry here = of (tidy.placed key).spot (tidy.placed key).is
  where
    of : (spot : Option Spot) → IsSpot shape key (of_key state key) spot → IsThere shape key (of_key state key) (record { vcpu = vcpu; entry = entry })
    of None is = absurd (let none = is vcpu in cc)
    of (Some one) is = elim (cases_eq vcpu one.vcpu) [
      | inr differ ↦ absurd (let none = is.elsewhere vcpu differ in cc)
      | inl e ↦
          subst (λ s. IsThere shape key (of_key state key) s)
          (ap (λ (v : ℕ). let s : Spot = record { vcpu = v; entry = one.entry } in s) (sym e)
          ∙ ap (λ (n : Entry). let s : Spot = record { vcpu = vcpu; entry = n } in s) (same_entry key one.entry entry (sym (subst (λ v. of_key state key v ≡ standing_of_key key one.entry ∷ []) (sym e) is.here) ∙ here)))
          is
    ]

-- what stands there is all that the interface has of it
pub stands_so : (shape : GuestShape) (state : Ideal) → IsTidy shape state → (vcpu : ℕ) (standing : Standing) → Contains (standing_at state vcpu) standing → of_key state standing.key vcpu ≡ standing_of_key standing.key standing.entry ∷ []
stands_so shape state tidy vcpu standing has = of (tidy.placed standing.key).spot (tidy.placed standing.key).is
  where
    among : Contains (of_key state standing.key vcpu) standing
    among = Contains-filter (is_of standing.key) (standing_at state vcpu) standing (same_itself standing.key) has

    only : (one : Standing) → of_key state standing.key vcpu ≡ one ∷ [] → of_key state standing.key vcpu ≡ standing ∷ []
    only one e = e ∙ ap (λ s. s ∷ []) (elim (Contains-cases one standing [] (subst (λ l. Contains l standing) e among)) [ inl same ↦ same | inr later ↦ absurd (Contains-nothing standing later) ])

    of : (spot : Option Spot) → IsSpot shape standing.key (of_key state standing.key) spot → of_key state standing.key vcpu ≡ standing ∷ []
    of None is = absurd (Contains-nothing standing (subst (λ l. Contains l standing) (is vcpu) among))
    of (Some one) is = elim (cases_eq vcpu one.vcpu) [
      | inr differ ↦ absurd (Contains-nothing standing (subst (λ l. Contains l standing) (is.elsewhere vcpu differ) among))
      | inl e ↦ only (standing_of_key standing.key one.entry) (subst (λ v. of_key state standing.key v ≡ standing_of_key standing.key one.entry ∷ []) (sym e) is.here)
    ]

-- one of a list after another one of it is stored
pub stored_cases : {X : Type 0} (P : X → Type 0) (xs : List X) (i j : ℕ) (x d : X) → P x → P (slice_index_or xs j d) → P (slice_index_or (slice_set xs i x) j d)
stored_cases P [] i j x d new old = old
stored_cases P (y ∷ xs) zero zero x d new old = new
stored_cases P (y ∷ xs) zero (suc j) x d new old = old
stored_cases P (y ∷ xs) (suc i) zero x d new old = old
stored_cases P (y ∷ xs) (suc i) (suc j) x d new old = stored_cases P xs i j x d new old

-- a list with one more is not empty
pub some_pushed : {X : Type 0} (xs : List X) (x : X) → xs ++ x ∷ [] ≡ [] → ⊥
some_pushed [] x e = cc
some_pushed (y ∷ xs) x e = cc
