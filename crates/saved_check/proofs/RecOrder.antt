-- Records whose places do not rise.
use Rattle.std.proofs.Common.{◌≡◌, ℕ, zero, suc, ◌+◌, ◌<◌, List, map, length, get_or, subst, arith}
use Rattle.std.specs.Ordering.{nat_cmp}
use Rattle.std.specs.Cmp.{nat_cmp_total}
use Rattle.std.specs.List.Sorted.{IsStrictlySortedBy}
use Rattle.std.specs.declared.cmp.Ordering.TheVariants.{Less}
use Rattle.std.proofs.lemmas.Grind.{common_steps}
use Rattle.std.proofs.Common.{ap, sym, ◌∙◌, nat_lt, true}
use Rattle.std.specs.Ordering.{is_lt}
use Rattle.saved_guest.specs.IdealGuests.Words.{GuestShape}
use Rattle.saved_guest.specs.ScnSaved.declared.state.RecState.{RecState}
use Rattle.saved_check.specs.Rows.{rec_place}
use Rattle.saved_check.proofs.OrderLemmas.{nat_cmp-ltb, rising_if_sorted}

pub below_if_less : (x y : ℕ) → nat_cmp x y ≡ Less → x < y
below_if_less x y less = let test : nat_lt x y ≡ true = sym (nat_cmp-ltb x y) ∙ ap is_lt less in grind (arith, common_steps)

pub fallen : (shape : GuestShape) (recs : List RecState) (i next : ℕ) (d : RecState) → ((k : ℕ) (d : RecState) → k + 1 ≡ i → next ≡ rec_place shape (get_or recs k d) + 1) → (i ≡ 0 → next ≡ 0) → i < length recs → (place : ℕ) → place ≡ rec_place shape (get_or recs i d) → place < next
    → IsStrictlySortedBy nat_cmp (map (rec_place shape) recs) → ⊥
fallen shape recs zero next d last none within place is fell sorted = let start = none (omega arith) in omega (arith, fell, start)
fallen shape recs (suc k) next d last none within place is fell sorted =
    let after = last k d (omega arith) in
    let less = rising_if_sorted nat_cmp_total (rec_place shape) recs sorted k d (omega (arith, within)) in
    let rises : rec_place shape (get_or recs k d) < rec_place shape (get_or recs (suc k) d) = below_if_less (rec_place shape (get_or recs k d)) (rec_place shape (get_or recs (suc k) d)) (subst (λ n. nat_cmp (rec_place shape (get_or recs k d)) (rec_place shape (get_or recs n d)) ≡ Less) {x = k + 1} {y = suc k} (omega arith) less) in
    omega (arith, after, fell, rises, is)
