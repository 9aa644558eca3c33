-- What is found at the numbers of a range stands in order.
use Rattle.std.proofs.Common.{◌≡◌, ℕ, zero, suc, ◌+◌, ◌<◌, ◌≤◌, IfSome, Option, Some, None, List, ◌∷◌, map, refl, sym, subst, arith}
use Rattle.std.specs.declared.cmp.Ordering.TheVariants.{Less}
use Rattle.std.specs.Ordering.{nat_cmp}
use Rattle.std.specs.List.{range_with_len, filter_map, cons_option, AllByRecursion}
use Rattle.std.specs.List.Sorted.{IsStrictlySortedBy}
use Rattle.std.proofs.lemmas.Grind.{common_steps}

less_is : (a b : ℕ) → a < b → nat_cmp a b ≡ Less
less_is a b h = grind (arith, common_steps, h)

module _ {X : Type 0} (f : ℕ → Option X) (at : X → ℕ) where
  either : (P : List ℕ → Type 0) (o : Option X) (rest : List X) → (o ≡ None → P (map at rest)) → ((x : X) → o ≡ Some x → P (at x ∷ map at rest)) → P (map at (cons_option o rest))
  either P None rest none some = none refl
  either P (Some x) rest none some = some x refl

  at_is : (k : ℕ) (x : X) → IfSome (f k) (λ x. at x ≡ k) → f k ≡ Some x → at x ≡ k
  at_is k x stands e = subst (λ o. IfSome o (λ x. at x ≡ k)) e stands

  above : (low first count : ℕ) → low < first → ((k : ℕ) → first ≤ k → k < first + count → IfSome (f k) (λ x. at x ≡ k)) → AllByRecursion (λ y. nat_cmp low y ≡ Less) (map at (filter_map f (range_with_len first count)))
  above low first zero less each = tt
  above low first (suc n) less each =
      let later = above low (first + 1) n (omega (arith, less)) (λ k from below. each k (omega (arith, from)) (omega (arith, below))) in
      either (AllByRecursion (λ y. nat_cmp low y ≡ Less)) (f first) (filter_map f (range_with_len (first + 1) n)) (λ none. later)
      (λ x some. (subst (λ n. nat_cmp low n ≡ Less) (sym (at_is first x (each first (omega arith) (omega arith)) some)) (less_is low first less), later))

  pub sorted_found : (first count : ℕ) → ((k : ℕ) → first ≤ k → k < first + count → IfSome (f k) (λ x. at x ≡ k)) → IsStrictlySortedBy nat_cmp (map at (filter_map f (range_with_len first count)))
  unfolding IsStrictlySortedBy
  sorted_found first zero each = tt
  sorted_found first (suc n) each =
      let more : (k : ℕ) → first + 1 ≤ k → k < first + 1 + n → IfSome (f k) (λ x. at x ≡ k) = λ k from below. each k (omega (arith, from)) (omega (arith, below)) in
      let later = sorted_found (first + 1) n more in
      either (IsStrictlySortedBy nat_cmp) (f first) (filter_map f (range_with_len (first + 1) n)) (λ none. later)
      (λ x some. (subst (λ m. AllByRecursion (λ y. nat_cmp m y ≡ Less) (map at (filter_map f (range_with_len (first + 1) n)))) (sym (at_is first x (each first (omega arith) (omega arith)) some)) (above first (first + 1) n (omega arith) more), later))
