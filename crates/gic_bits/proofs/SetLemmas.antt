-- A set of numbers as bits.
use Rattle.std.proofs.Common.{◌≡◌, ◌≤◌, ◌<◌, ◌+◌, ◌-◌, ◌*◌, ◌^◌, ◌==◌, ◌&&◌, ◌⊎◌, ℕ, zero, suc, Bool, true, false, nat_lt, if◌then◌else◌, refl, sym, ap, ◌∙◌, inl, inr, lit<, arith}
use Rattle.std.proofs.Math.Nat.{pow-suc}
use Rattle.std.proofs.lemmas.Bool.Decides.{nat_tests}
use Rattle.std.proofs.lemmas.Nat.Bits.{bit_at-zero, bit_at_cat_low, bit_at_cat_high, bit_at_above}
use Rattle.std.specs.Int.{bit_at}
use Rattle.gic_bits.specs.Bits.{has_bit}
use Rattle.gic_bits.specs.Sets.{set_of}

-- the weight that a number adds
abbrev added : (ℕ → Bool) → ℕ → ℕ
added is_so n = if is_so n then 2 ^ n else 0

twice : (n : ℕ) → 2 ^ suc n ≡ 2 ^ n * 2
twice n = pow-suc 2 n

below : (x p : ℕ) (so : Bool) → x < p → x + (if so then p else 0) < p * 2
below x p true h = omega arith
below x p false h = omega arith

pub set_of-below : (is_so : ℕ → Bool) (n : ℕ) → set_of is_so n < 2 ^ n
set_of-below is_so zero = omega arith
set_of-below is_so (suc n) = rw (twice n) (below (set_of is_so n) (2 ^ n) (is_so n) (set_of-below is_so n))

-- a number is put beside a greatest one
one_high : (x n : ℕ) → x < 2 ^ n → bit_at (x + 2 ^ n) n ≡ 1
one_high x n h =
    let order : x + 2 ^ n ≡ 1 * 2 ^ n + x = omega arith in
    let none : n - n ≡ 0 = omega arith in
    rw order (bit_at_cat_high 1 n x n h (omega arith) ∙ ap (λ i. bit_at 1 i) none)

none_higher : (x n t : ℕ) → x < 2 ^ n → n < t → bit_at (x + 2 ^ n) t ≡ 0
none_higher x n t h above =
    let order : x + 2 ^ n ≡ 1 * 2 ^ n + x = omega arith in
    rw order (bit_at_cat_high 1 n x t h (omega arith) ∙ bit_at_above 1 1 (t - n) (lit< tt) (omega arith))

same_lower : (x n t : ℕ) → t < n → bit_at (x + 2 ^ n) t ≡ bit_at x t
same_lower x n t within =
    let order : x + 2 ^ n ≡ 1 * 2 ^ n + x = omega arith in
    rw order (bit_at_cat_low 1 n x t within)

less : (a b : ℕ) → a < b → nat_lt a b ≡ true
less a b h = grind (arith, nat_tests)

not_less : (a b : ℕ) → b ≤ a → nat_lt a b ≡ false
not_less a b h = grind (arith, nat_tests)

order_of : (t n : ℕ) → (t < n) ⊎ ((t ≡ n) ⊎ (n < t))
order_of t n = grind arith

and_false : (b : Bool) → (b && false) ≡ false
and_false true = refl
and_false false = refl

-- a bit says whether its number is in the set
pub has_bit-set_of : (is_so : ℕ → Bool) (n t : ℕ) → has_bit (set_of is_so n) t ≡ (nat_lt t n && is_so t)
has_bit-set_of is_so zero t = rw (bit_at-zero t, not_less t 0 (omega arith)) refl
has_bit-set_of is_so (suc n) t = by_order (has_bit-set_of is_so n t) (order_of t n) (is_so n) refl
  where
    by_order : has_bit (set_of is_so n) t ≡ (nat_lt t n && is_so t) → (t < n) ⊎ ((t ≡ n) ⊎ (n < t)) → (so : Bool) → is_so n ≡ so → has_bit (set_of is_so n + (if so then 2 ^ n else 0)) t ≡ (nat_lt t (suc n) && is_so t)
    by_order before (inl lower) true e =
        ap (λ bit. bit == 1) (same_lower (set_of is_so n) n t lower) ∙ before ∙ ap (λ is_below. is_below && is_so t) (less t n lower ∙ sym (less t (suc n) (omega arith)))
    by_order before (inl lower) false e =
        let same : set_of is_so n + 0 ≡ set_of is_so n = omega arith in
        rw same (before ∙ ap (λ is_below. is_below && is_so t) (less t n lower ∙ sym (less t (suc n) (omega arith))))
    by_order before (inr (inl is)) true e = rw (is, less n (suc n) (omega arith), e) (ap (λ bit. bit == 1) (one_high (set_of is_so n) n (set_of-below is_so n)))
    by_order before (inr (inl is)) false e =
        let same : set_of is_so n + 0 ≡ set_of is_so n = omega arith in
        let out : is_so t ≡ false = ap is_so is ∙ e in
        rw same (before ∙ rw out (and_false (nat_lt t n) ∙ sym (and_false (nat_lt t (suc n)))))
    by_order before (inr (inr higher)) true e = rw (not_less t (suc n) (omega arith)) (ap (λ bit. bit == 1) (none_higher (set_of is_so n) n t (set_of-below is_so n) higher))
    by_order before (inr (inr higher)) false e =
        let same : set_of is_so n + 0 ≡ set_of is_so n = omega arith in
        rw same (before ∙ ap (λ is_below. is_below && is_so t) (not_less t n (omega arith) ∙ sym (not_less t (suc n) (omega arith))))
