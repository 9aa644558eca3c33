-- What a search of a range of numbers finds.
use Rattle.std.proofs.Common.{◌≡◌, ℕ, zero, suc, ◌+◌, ◌<◌, ◌≤◌, inl, inr, Bool, true, false, cond, Some, None, find, refl, sym, ap, ◌∙◌, arith}
use Rattle.std.specs.List.{range_with_len}
use Rattle.std.proofs.lemmas.Bool.{cases_lt}
use Rattle.std.proofs.lemmas.Option.{none-some}

-- the first number that passes
pub record IsFoundIn (test : ℕ → Bool) (from n bit : ℕ) : Type 0 where
  pub above : from ≤ bit
  pub below : bit < from + n
  pub passes : test bit ≡ true
  pub first : (i : ℕ) → from ≤ i → i < bit → test i ≡ false

pub found_in : (test : ℕ → Bool) (from n bit : ℕ) → find test (range_with_len from n) ≡ Some bit → IsFoundIn test from n bit
found_in test from zero bit e = absurd (cc)
found_in test from (suc n) bit e = of (test from) refl e (λ later. found_in test (from + 1) n bit later)
  where
    of : (b : Bool) → test from ≡ b → cond b (Some from) (find test (range_with_len (from + 1) n)) ≡ Some bit → (find test (range_with_len (from + 1) n) ≡ Some bit → IsFoundIn test (from + 1) n bit) → IsFoundIn test from (suc n) bit
    of true t f later =
        let is : from ≡ bit = cc in
        record { above = omega (arith, is); below = omega (arith, is); passes = ap test (sym is) ∙ t; first = λ i above below. absurd (omega (arith, is, above, below)) }
    of false t f later =
        let rest = later f in
        let above = rest.above in
        let below = rest.below in
        record {
          above = omega (arith, above);
          below = omega (arith, below);
          passes = rest.passes;
          first = λ i l less. elim (cases_lt from i) [ inl more ↦ rest.first i (omega (arith, more)) less | inr same ↦ (let here : i ≡ from = omega (arith, same, l) in ap test here ∙ t) ];
        }

pub found_nowhere : (test : ℕ → Bool) (from n : ℕ) → find test (range_with_len from n) ≡ None → (i : ℕ) → from ≤ i → i < from + n → test i ≡ false
found_nowhere test from zero e i above below = absurd (omega (arith, above, below))
found_nowhere test from (suc n) e i above below = of (test from) refl e (λ later l. found_nowhere test (from + 1) n later i l (omega (arith, below)))
  where
    of : (b : Bool) → test from ≡ b → cond b (Some from) (find test (range_with_len (from + 1) n)) ≡ None → (find test (range_with_len (from + 1) n) ≡ None → from + 1 ≤ i → test i ≡ false) → test i ≡ false
    of true t f later = absurd (none-some from (sym f))
    of false t f later = elim (cases_lt from i) [ inl more ↦ later f (omega (arith, more)) | inr same ↦ (let is : i ≡ from = omega (arith, same, above) in ap test is ∙ t) ]
