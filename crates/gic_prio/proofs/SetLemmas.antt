-- Sets of levels, and the bit operations that compute them.
use Rattle.std.proofs.Common.{◌≡◌, ◌≢◌, ℕ, zero, suc, ◌+◌, ◌-◌, ◌^◌, ◌<◌, ◌≤◌, ◌&&◌, ◌||◌, not, ◌⊎◌, inl, inr, min, max, Bool, true, false, eqb, nat_lt, Some, None, unwrap_or, find, bit_and, bit_or, w32, refl, sym, ap, ◌∙◌, arith}
use Rattle.std.specs.List.{range_with_len}
use Rattle.std.specs.Int.{bit_at, bit_not, trailing_zeros}
use Rattle.std.specs.Int.Count.{trailing_of_zero}
use Rattle.std.proofs.lemmas.Grind.{common_steps}
use Rattle.std.proofs.lemmas.Bool.{cases_order}
use Rattle.std.proofs.lemmas.Nat.{pow_below, or_lt, and_le_l}
use Rattle.std.proofs.lemmas.Nat.Bits.{bit_at-trailing_zeros, bit_at_and, bit_at_or, bit_at_not, bit_at-pow_same, bit_at-pow_other, bit_at-lt, same_from_bits_below}
use Rattle.floor_words.specs.Words.{has_bit, set_of}
use Rattle.floor_words.proofs.GicBits.SetLemmas.{set_of-below, has_bit-set_of}
use Rattle.gic_prio.specs.Levels.{least_in, with_level, without_level}

-- a search in a range finds the first number that passes
found_in : (p : ℕ → Bool) (from len n : ℕ) → from ≤ n → n < from + len → p n ≡ true → ((i : ℕ) → i < n → p i ≡ false) → find p (range_with_len from len) ≡ Some n
found_in p from zero n low high passes below = absurd (omega (arith, low, high))
found_in p from (suc len) n low high passes below =
    elim (cases_order from n) [
      | inl same ↦ rw (same, passes) refl
      | inr (inl lower) ↦ rw (below from lower) (found_in p (from + 1) len n (omega arith) (omega arith) passes below)
      | inr (inr higher) ↦ absurd (omega (arith, low, higher))
    ]

-- and none where none passes
none_in : (p : ℕ → Bool) (from len : ℕ) → ((i : ℕ) → p i ≡ false) → find p (range_with_len from len) ≡ None
none_in p from zero fails = refl
none_in p from (suc len) fails = rw (fails from) (none_in p (from + 1) len fails)

one : (n : ℕ) → n ≡ 1 → eqb n 1 ≡ true
one n e = rw e refl

none : (n : ℕ) → n ≡ 0 → eqb n 1 ≡ false
none n e = rw e refl

-- the least level is the number of zeros below the lowest bit
pub least_is : (levels : ℕ) → levels < 2 ^ 32 → least_in levels ≡ trailing_zeros w32 levels
unfolding least_in
least_is zero fits = sym (trailing_of_zero 32)
least_is (suc n) fits =
    let least = bit_at-trailing_zeros w32 (suc n) (omega arith) fits in
    let t = trailing_zeros w32 (suc n) in
    ap (λ found. unwrap_or found 32)
    (found_in (has_bit (suc n)) 0 32 t (omega arith) least.0 (one (bit_at (suc n) t) least.1) (λ i below. none (bit_at (suc n) i) (least.2 i below)))

-- a bit is 0 or 1
bit_by_test : (a b : ℕ) → a < 2 → b < 2 → eqb a 1 ≡ eqb b 1 → a ≡ b
bit_by_test a b h k e = grind (arith, common_steps)

-- numbers with the same bits are one
same_bits : (a b : ℕ) → a < 2 ^ 32 → b < 2 ^ 32 → ((i : ℕ) → i < 32 → has_bit a i ≡ has_bit b i) → a ≡ b
same_bits a b h k same = same_from_bits_below 32 a b h k (λ i small. bit_by_test (bit_at a i) (bit_at b i) (bit_at-lt a i) (bit_at-lt b i) (same i small))

-- the bit operations on a set, bit by bit
less : (a b : ℕ) → a < b → nat_lt a b ≡ true
less a b h = grind (arith, common_steps)

in_set : (is_so : ℕ → Bool) (i : ℕ) → i < 32 → has_bit (set_of is_so 32) i ≡ is_so i
in_set is_so i small = has_bit-set_of is_so 32 i ∙ rw (less i 32 small) refl

or_bit : (level levels i : ℕ) → has_bit (bit_or levels (2 ^ level)) i ≡ (eqb i level || has_bit levels i)
or_bit level levels i = rw (bit_at_or levels (2 ^ level) i) (of (cases_order i level))
  where
    of : (i ≡ level) ⊎ ((i < level) ⊎ (level < i)) → eqb (max (bit_at levels i) (bit_at (2 ^ level) i)) 1 ≡ (eqb i level || has_bit levels i)
    of (inl same) = rw (same, bit_at-pow_same level) (grind (arith, common_steps, bit_at-lt levels level))
    of (inr other) =
        let apart : i ≢ level = elim other [ inl lower ↦ omega arith | inr higher ↦ omega arith ] in
        rw (bit_at-pow_other level i apart) (grind (arith, common_steps, bit_at-lt levels i))

without_bit : (level levels i : ℕ) → level < 32 → i < 32 → has_bit (bit_and levels (bit_not w32 (2 ^ level))) i ≡ (not (eqb i level) && has_bit levels i)
without_bit level levels i small fits = rw (bit_at_and levels (bit_not w32 (2 ^ level)) i, bit_at_not w32 (2 ^ level) i (pow_below level 32 small) fits) (of (cases_order i level))
  where
    of : (i ≡ level) ⊎ ((i < level) ⊎ (level < i)) → eqb (min (bit_at levels i) (1 - bit_at (2 ^ level) i)) 1 ≡ (not (eqb i level) && has_bit levels i)
    of (inl same) = rw (same, bit_at-pow_same level) (grind (arith, common_steps, bit_at-lt levels level))
    of (inr other) =
        let apart : i ≢ level = elim other [ inl lower ↦ omega arith | inr higher ↦ omega arith ] in
        rw (bit_at-pow_other level i apart) (grind (arith, common_steps, bit_at-lt levels i))

-- a set with one level more is the bitwise or with its bit
pub with_level_is : (level levels : ℕ) → level < 32 → levels < 2 ^ 32 → with_level level levels ≡ bit_or levels (2 ^ level)
unfolding with_level
with_level_is level levels small fits =
    let is_so : ℕ → Bool = λ n. eqb n level || has_bit levels n in
    same_bits (set_of is_so 32) (bit_or levels (2 ^ level)) (set_of-below is_so 32) (or_lt 32 levels (2 ^ level) fits (pow_below level 32 small))
    (λ i k. in_set is_so i k ∙ sym (or_bit level levels i))

-- a set without one level is the bitwise and with all bits but its own
pub without_level_is : (level levels : ℕ) → level < 32 → levels < 2 ^ 32 → without_level level levels ≡ bit_and levels (bit_not w32 (2 ^ level))
unfolding without_level
without_level_is level levels small fits =
    let is_so : ℕ → Bool = λ n. not (eqb n level) && has_bit levels n in
    let below : bit_and levels (bit_not w32 (2 ^ level)) < 2 ^ 32 = omega (arith, and_le_l levels (bit_not w32 (2 ^ level)), fits) in
    same_bits (set_of is_so 32) (bit_and levels (bit_not w32 (2 ^ level))) (set_of-below is_so 32) below
    (λ i k. in_set is_so i k ∙ sym (without_bit level levels i small k))

-- such a set has levels below 32 alone
pub with_level_fits : (level levels : ℕ) → with_level level levels < 2 ^ 32
unfolding with_level
with_level_fits level levels = set_of-below (λ n. eqb n level || has_bit levels n) 32

pub without_level_fits : (level levels : ℕ) → without_level level levels < 2 ^ 32
unfolding without_level
without_level_fits level levels = set_of-below (λ n. not (eqb n level) && has_bit levels n) 32
