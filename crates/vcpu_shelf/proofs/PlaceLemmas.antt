-- Travellers that are put into a list one after the other, each at its place.
use Rattle.std.proofs.Common.{◌≡◌, ◌⊎◌, inl, inr, ℕ, zero, suc, List, [], ◌∷◌, ◌++◌, length, Some, refl, sym, ap, ◌∙◌}
use Rattle.std.specs.Prelude.{slice_get}
use Rattle.vcpu_shelf.specs.Answer.{AreInPlace}

module _ {T : Type 0} (place_of : T → ℕ) where
  -- an element of a longer list was there, or is the last
  in_longer : (all : List T) (last one : T) (place : ℕ) → slice_get (all ++ last ∷ []) place ≡ Some one → (slice_get all place ≡ Some one) ⊎ ((place ≡ length all) × (last ≡ one))
  in_longer [] last one zero at = inr (refl, cc)
  in_longer [] last one (suc place) at = absurd (cc)
  in_longer (first ∷ all) last one zero at = inl at
  in_longer (first ∷ all) last one (suc place) at =
      elim (in_longer all last one place at) [
        | inl before ↦ inl before
        | inr new ↦ inr (ap (λ (n : ℕ). suc n) new.0, new.1)
      ]

  pub in_place_push : (all : List T) (last : T) → AreInPlace place_of all → place_of last ≡ length all → AreInPlace place_of (all ++ last ∷ [])
  in_place_push all last placed at place one there =
      elim (in_longer all last one place there) [
        | inl before ↦ placed place one before
        | inr new ↦ (sym (ap place_of new.1) ∙ at ∙ sym new.0)
      ]
