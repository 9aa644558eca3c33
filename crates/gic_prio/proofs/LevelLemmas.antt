-- Priorities and active levels.
use Rattle.std.proofs.Common.{◌≡◌, ◌≢◌, ℕ, zero, suc, ◌-◌, ◌*◌, ◌/◌, ◌^◌, ◌<◌, ◌≤◌, ◌⊎◌, inl, inr, min, max, cond, eqb, bit_and, bit_or, w32, refl, sym, ◌∙◌, arith, ◌↔◌}
use Rattle.std.specs.Int.{bit_at, bit_not, trailing_zeros}
use Rattle.std.specs.Int.Count.{trailing_of_zero}
use Rattle.std.proofs.lemmas.Grind.{common_steps}
use Rattle.std.proofs.lemmas.Bool.{cases_order}
use Rattle.std.proofs.lemmas.Nat.{pow_pos, pow_below, div-add-mod', or_lt, and_le_l, trailing_le}
use Rattle.std.proofs.lemmas.Nat.Bits.{bit_at-trailing_zeros, bit_at_and, bit_at_or, bit_at_not, bit_at-pow_same, bit_at-pow_other, bit_at-lt, bit_at-zero, same_from_bits_below}
use Rattle.std.proofs.Math.Nat.{mul-mod_left, eq-zero-or-pos}
use Rattle.gic_prio.specs.Laws.{IsPrefix}
use Rattle.gic_prio.specs.Levels.{least_in, with_level, without_level}
use Rattle.gic_prio.proofs.SetLemmas.{least_is, with_level_is, without_level_is}

-- a number without its low bits
pub prefix_of : (prio dropped : ℕ) → IsPrefix prio (prio / 2 ^ dropped * 2 ^ dropped) dropped
prefix_of prio dropped =
    let some : 0 < 2 ^ dropped = pow_pos dropped in
    record {
      at_most = omega (arith, div-add-mod' prio (2 ^ dropped));
      near = grind (arith, div-add-mod' prio (2 ^ dropped), some);
      zeros = mul-mod_left (prio / 2 ^ dropped) (2 ^ dropped);
    }

-- no level is active exactly where the number is 0
pub least_of_none : (levels : ℕ) → levels < 2 ^ 32 → least_in levels ≡ 32 → levels ≡ 0
least_of_none levels h e =
    let zeros : trailing_zeros w32 levels ≡ 32 = sym (least_is levels h) ∙ e in
    elim (eq-zero-or-pos levels) [ inl none ↦ none | inr some ↦ (let least = bit_at-trailing_zeros w32 levels some h in absurd (omega (arith, zeros, least.0))) ]

pub least_small : (levels : ℕ) → levels < 2 ^ 32 → least_in levels ≤ 32
least_small levels h = rw (least_is levels h) (trailing_le 32 levels)

-- the running priority at a least active level, and at some active levels
abbrev pub priority_of : ℕ → ℕ
priority_of level = cond (eqb level 32) 255 (level * 8)

abbrev pub running : ℕ → ℕ → ℕ
running m n = priority_of (min (least_in m) (least_in n))

-- the running priority is that of no level exactly where both numbers are 0
pub idle_exactly : (m n : ℕ) → m < 2 ^ 32 → n < 2 ^ 32 → (running m n ≡ 255) ↔ ((m ≡ 0) × (n ≡ 0))
idle_exactly m n h k = (
  (λ e. let least = no_least (least_in m) (least_in n) (least_small m h) (least_small n k) e in (least_of_none m h least.0, least_of_none n k least.1)),
  λ (e, f). rw (e, f) (rw (least_is 0 (omega arith), trailing_of_zero 32) refl),
)
  where
    no_least : (a b : ℕ) → a ≤ 32 → b ≤ 32 → priority_of (min a b) ≡ 255 → (a ≡ 32) × (b ≡ 32)
    no_least a b h k e = grind (arith, common_steps)

-- a level below every active one
pub record IsBelow (level levels : ℕ) : Type 0 where
  pub small : level < 32
  pub fits : levels < 2 ^ 32
  pub zeros : (i : ℕ) → i ≤ level → bit_at levels i ≡ 0

pub below_least : (level levels : ℕ) → levels < 2 ^ 32 → level < least_in levels → IsBelow level levels
below_least level levels h k =
    let below : level < trailing_zeros w32 levels = rw (← least_is levels h) k in
    record {
      small = omega (arith, trailing_le 32 levels, below);
      fits = h;
      zeros = of levels h below;
    }
  where
    of : (n : ℕ) → n < 2 ^ 32 → level < trailing_zeros w32 n → (i : ℕ) → i ≤ level → bit_at n i ≡ 0
    of zero h k i l = bit_at-zero i
    of (suc n) h k i l = let least = bit_at-trailing_zeros w32 (suc n) (omega arith) h in least.2 i (omega (arith, k, l))

-- the levels with one more that is active
abbrev or_level : ℕ → ℕ → ℕ
or_level level levels = bit_or levels (2 ^ level)

or_level_fits : (level levels : ℕ) → IsBelow level levels → or_level level levels < 2 ^ 32
or_level_fits level levels h = or_lt 32 levels (2 ^ level) h.fits (pow_below level 32 h.small)

or_level_has : (level levels : ℕ) → IsBelow level levels → bit_at (or_level level levels) level ≡ 1
or_level_has level levels h = bit_at_or levels (2 ^ level) level ∙ rw (h.zeros level (omega arith), bit_at-pow_same level) refl

or_level_below : (level levels i : ℕ) → IsBelow level levels → i < level → bit_at (or_level level levels) i ≡ 0
or_level_below level levels i h k =
    let other : i ≢ level = omega arith in
    bit_at_or levels (2 ^ level) i ∙ rw (h.zeros i (omega arith), bit_at-pow_other level i other) refl

-- a level below all is the least once it is active
least_of_or : (level levels : ℕ) → IsBelow level levels → trailing_zeros w32 (or_level level levels) ≡ level
least_of_or level levels h = of (or_level level levels) (or_level_fits level levels h) (or_level_has level levels h) (λ i k. or_level_below level levels i h k)
  where
    of : (n : ℕ) → n < 2 ^ 32 → bit_at n level ≡ 1 → ((i : ℕ) → i < level → bit_at n i ≡ 0) → trailing_zeros w32 n ≡ level
    of zero fits has below = absurd (omega (arith, has, bit_at-zero level))
    of (suc n) fits has below =
        let least = bit_at-trailing_zeros w32 (suc n) (omega arith) fits in
        elim (cases_order (trailing_zeros w32 (suc n)) level) [
          | inl same ↦ same
          | inr (inl lower) ↦ absurd (omega (arith, below (trailing_zeros w32 (suc n)) lower, least.1))
          | inr (inr higher) ↦ absurd (omega (arith, has, least.2 level higher))
        ]

-- and the levels are as before once it is no longer
and_of_or : (level levels : ℕ) → IsBelow level levels → bit_and (or_level level levels) (bit_not w32 (2 ^ level)) ≡ levels
and_of_or level levels h =
    same_from_bits_below 32 (bit_and (or_level level levels) (bit_not w32 (2 ^ level))) levels
    (omega (arith, and_le_l (or_level level levels) (bit_not w32 (2 ^ level)), or_level_fits level levels h))
    h.fits each
  where
    each : (i : ℕ) → i < 32 → bit_at (bit_and (or_level level levels) (bit_not w32 (2 ^ level))) i ≡ bit_at levels i
    each i k =
        rw (bit_at_and (or_level level levels) (bit_not w32 (2 ^ level)) i, bit_at_or levels (2 ^ level) i, bit_at_not w32 (2 ^ level) i (pow_below level 32 h.small) k)
        (at_bit (cases_order i level))
      where
        at_bit : (i ≡ level) ⊎ ((i < level) ⊎ (level < i)) → min (max (bit_at levels i) (bit_at (2 ^ level) i)) (1 - bit_at (2 ^ level) i) ≡ bit_at levels i
        at_bit (inl same) = rw (same, h.zeros level (omega arith), bit_at-pow_same level) refl
        at_bit (inr other) =
            let apart : i ≢ level = elim other [ inl lower ↦ omega arith | inr higher ↦ omega arith ] in
            rw (bit_at-pow_other level i apart) (grind (arith, common_steps, bit_at-lt levels i))

-- the same of the sets: a level below all is the least once it is active, and the levels are as before once it is no longer
pub least_with : (level levels : ℕ) → IsBelow level levels → least_in (with_level level levels) ≡ level
least_with level levels h = rw (with_level_is level levels h.small h.fits, least_is (or_level level levels) (or_level_fits level levels h)) (least_of_or level levels h)

pub without_least : (level levels : ℕ) → IsBelow level levels → without_level level (with_level level levels) ≡ levels
without_least level levels h =
    rw (with_level_is level levels h.small h.fits, without_level_is level (or_level level levels) h.small (or_level_fits level levels h)) (and_of_or level levels h)

-- an interrupt that is signalled has a level below each active one
abbrev pub level_below : ℕ → ℕ → ℕ → ℕ → Type 0
level_below kept m n level = (level < least_in m) × (level < least_in n)

pub level_of_signalled : (kept m n : ℕ) → m < 2 ^ 32 → n < 2 ^ 32 → kept < running m n → level_below kept m n (kept / 8)
level_of_signalled kept m n fits fits' h = of (least_in m) (least_in n) (least_small m fits) (least_small n fits') h
  where
    of : (a b : ℕ) → a ≤ 32 → b ≤ 32 → kept < priority_of (min a b) → (kept / 8 < a) × (kept / 8 < b)
    of a b g h k = let whole = div-add-mod' kept 8 in (grind (arith, common_steps, whole), grind (arith, common_steps, whole))
