-- The interrupts in delivery order are a sorting of them.
use Rattle.std.proofs.Common.{◌≡◌, zero, suc, true, false, cond, List, [], ◌∷◌, ◌++◌, get_or, append-nil, sym, subst, arith}
use Rattle.std.specs.Prelude.{fold, AllPairs, IsPermutation}
use Rattle.std.proofs.lemmas.Grind.{common_steps}
use Rattle.std.proofs.lemmas.List.Elements.{Contains-get_or}
use Rattle.std.proofs.lemmas.List.Sorted.{IsPermutation-refl, IsPermutation-sym, IsPermutation-trans, IsPermutation-cons, IsPermutation-middle, IsPermutation-append_left}
use Rattle.vcpu_refill.specs.declared.offer.Offer.{Offer}
use Rattle.vcpu_refill.specs.Order.{goes_before, inserted, ordered}
use Rattle.vcpu_refill.specs.Laws.{OrderedIsSorting}
use Rattle.vcpu_refill.proofs.OrderLemmas.{in_order, in_order-ordered, none_before-Contains}

-- one more has its place among the others
pub permuted-inserted : (one : Offer) (xs : List Offer) → IsPermutation (one ∷ xs) (inserted one xs)
permuted-inserted one [] = IsPermutation-refl (one ∷ [])
permuted-inserted one (x ∷ xs) =
    elim (goes_before one x) as (λ b. IsPermutation (one ∷ x ∷ xs) (cond b (one ∷ x ∷ xs) (x ∷ inserted one xs))) [
      | true ↦ IsPermutation-refl (one ∷ x ∷ xs)
      | false ↦
          IsPermutation-trans (one ∷ x ∷ xs) (x ∷ one ∷ xs) (x ∷ inserted one xs) (IsPermutation-sym (x ∷ one ∷ xs) (one ∷ x ∷ xs) (IsPermutation-middle (x ∷ []) one xs))
          (IsPermutation-cons x (one ∷ xs) (inserted one xs) (permuted-inserted one xs))
    ]

permuted-fold : (before xs : List Offer) → IsPermutation (before ++ xs) (fold (λ sorted one. inserted one sorted) before xs)
permuted-fold before [] = subst (λ ys. IsPermutation ys before) (sym (append-nil before)) (IsPermutation-refl before)
permuted-fold before (x ∷ xs) =
    IsPermutation-trans (before ++ x ∷ xs) (inserted x before ++ xs) (fold (λ sorted one. inserted one sorted) (inserted x before) xs)
    (IsPermutation-trans (before ++ x ∷ xs) (x ∷ (before ++ xs)) (inserted x before ++ xs) (IsPermutation-middle before x xs)
    (IsPermutation-append_left xs (x ∷ before) (inserted x before) (permuted-inserted x before)))
    (permuted-fold (inserted x before) xs)

-- each of a list in order comes after those that stand before it
pairs_in_order : (xs : List Offer) → in_order xs ≡ true → AllPairs (λ one later. goes_before later one ≡ false) xs
pairs_in_order [] h i j d less within = absurd (omega (arith, within))
pairs_in_order (x ∷ xs) h zero zero d less within = absurd (omega (arith, less))
pairs_in_order (x ∷ xs) h zero (suc j) d less within =
    none_before-Contains x xs (get_or xs j d) (grind (arith, common_steps, h)) (Contains-get_or xs j d (omega (arith, within)))
pairs_in_order (x ∷ xs) h (suc i) zero d less within = absurd (omega (arith, less))
pairs_in_order (x ∷ xs) h (suc i) (suc j) d less within = pairs_in_order xs (grind (arith, common_steps, h)) i j d (omega (arith, less)) (omega (arith, within))

pub ordered_sorts : OrderedIsSorting
ordered_sorts offers = record { same = permuted-fold [] offers; in_order = pairs_in_order (ordered offers) (in_order-ordered offers) }
