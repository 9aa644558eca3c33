-- The first of some bits.
use Rattle.std.proofs.Common.{◌≡◌, ℕ, zero, suc, ◌+◌, ◌-◌, ◌*◌, ◌/◌, ◌%◌, ◌^◌, ◌<◌, ◌≤◌, ◌⊎◌, inl, inr, Bool, true, false, cond, nat_eq, Some, None, slice_index_or, refl, sym, ap, ◌∙◌, arith}
use Rattle.std.specs.Int.{w64, trailing_zeros}
use Rattle.std.specs.List.{find, range_with_len}
use Rattle.std.proofs.lemmas.Bool.{cases_lt}
use Rattle.std.proofs.Math.Nat.{div-le_self}
use Rattle.std.proofs.lemmas.Nat.{shr-shr}
use Rattle.port_call.specs.Core.{Cands, is_cand}
use Rattle.std.proofs.lemmas.Nat.Bits.{bit_at-zero, bit_at_above, bit_at-trailing_zeros}
use Rattle.port_call.specs.Words.{has_bit}
use Rattle.pe_loop.specs.Candidates.{IsFirstFrom, IsFirstBelow, EndsBefore, NoneBefore}

-- Lists.

-- what a search over numbers finds is the first of them
pub found_first : (test : ℕ → Bool) (from n : ℕ) (bit : ℕ) → bit < from + n → IsFirstFrom test from bit → find test (range_with_len from n) ≡ Some bit
found_first test from zero bit below first = absurd (let above = first.above in omega (arith, below, above))
found_first test from (suc n) bit below first = of (test from) refl (λ l. found_first test (from + 1) n bit (omega (arith, below)) (record { above = l; passes = first.passes; before = λ i above less. first.before i (omega (arith, above)) less }))
  where
    differ : (b : Bool) → b ≡ true → b ≡ false → ⊥
    differ b t f = cc

    of : (b : Bool) → test from ≡ b → (from + 1 ≤ bit → find test (range_with_len (from + 1) n) ≡ Some bit) → cond b (Some from) (find test (range_with_len (from + 1) n)) ≡ Some bit
    of true e later = let above = first.above in elim (cases_lt from bit) [ inl less ↦ absurd (differ (test from) e (first.before from (omega arith) less)) | inr same ↦ ap Some (omega (arith, above, same)) ]
    of false e later =
        let above = first.above in
        elim (cases_lt from bit) [ inl less ↦ later (omega (arith, less)) | inr same ↦ (let is : from ≡ bit = omega (arith, above, same) in absurd (differ (test bit) first.passes (ap test (sym is) ∙ e))) ]

pub found_none : (test : ℕ → Bool) (from n : ℕ) → ((i : ℕ) → from ≤ i → i < from + n → test i ≡ false) → find test (range_with_len from n) ≡ None
found_none test from zero none = refl
found_none test from (suc n) none =
    ap (λ b. cond b (Some from) (find test (range_with_len (from + 1) n))) (none from (omega arith) (omega arith)) ∙ found_none test (from + 1) n (λ i above below. none i (omega arith) (omega arith))

-- Words.

shifted : (word low i : ℕ) → has_bit (word / 2 ^ low) i ≡ has_bit word (low + i)
shifted word low i = ap (λ n. nat_eq (n % 2) 1) (shr-shr word low i)

-- no bit of a word that is 0
none_shifted : (word low : ℕ) → word / 2 ^ low ≡ 0 → (i : ℕ) → low ≤ i → has_bit word i ≡ false
none_shifted word low e i l =
    let split : low + (i - low) ≡ i = omega (arith, l) in
    ap (has_bit word) (sym split) ∙ sym (shifted word low (i - low)) ∙ ap (λ rest. has_bit rest (i - low)) e ∙ ap (λ n. nat_eq n 1) (bit_at-zero (i - low))

pub first_none : (word low : ℕ) → word / 2 ^ low ≡ 0 → IsFirstBelow (has_bit word) low 64 None
first_none word low e i above below = none_shifted word low e i above

-- the first of the bits of the rest
pub first_some : (word low : ℕ) → word < 2 ^ 64 → low < 64 → (word / 2 ^ low ≡ 0 → ⊥) → IsFirstBelow (has_bit word) low 64 (Some (low + trailing_zeros w64 (word / 2 ^ low)))
first_some word low fits small some =
    let rest = word / 2 ^ low in
    let t = trailing_zeros w64 rest in
    let least = bit_at-trailing_zeros w64 rest (positive rest some) (less_shifted word low fits) in
    let is : has_bit word (low + t) ≡ true = sym (shifted word low t) ∙ ap (λ n. nat_eq n 1) least.1 in (
      within (low + t) is,
      record {
        above = omega arith;
        passes = is;
        before = λ i above less.
            let split : low + (i - low) ≡ i = omega (arith, above) in
            ap (has_bit word) (sym split) ∙ sym (shifted word low (i - low)) ∙ ap (λ n. nat_eq n 1) (least.2 (i - low) (omega (arith, above, less)));
      },
    )
  where
    positive : (n : ℕ) → (n ≡ 0 → ⊥) → 0 < n
    positive zero h = absurd (h refl)
    positive (suc n) h = omega arith

    less_shifted : (word low : ℕ) → word < 2 ^ 64 → word / 2 ^ low < 2 ^ 64
    less_shifted word low h = let few = div-le_self word (2 ^ low) in omega (arith, few, h)

    within : (i : ℕ) → has_bit word i ≡ true → i < 64
    within i h = elim (cases_lt i 64) [ inl less ↦ less | inr past ↦ absurd (differ (has_bit word i) h (ap (λ n. nat_eq n 1) (bit_at_above word 64 i fits past))) ]
      where
        differ : (b : Bool) → b ≡ true → b ≡ false → ⊥
        differ b t f = cc

-- Candidates, a word after the other.

-- a bit of a word is that of a candidate
cand_in : (cands : Cands) (word i : ℕ) → i < 64 → is_cand cands (64 * word + i) ≡ has_bit (slice_index_or cands.words word 0) i
cand_in cands word i l =
    let quotient : (64 * word + i) / 64 ≡ word = omega (arith, l) in
    let rest : (64 * word + i) % 64 ≡ i = omega (arith, l) in
    ap (λ n. has_bit (slice_index_or cands.words n 0) ((64 * word + i) % 64)) quotient ∙ ap (has_bit (slice_index_or cands.words word 0)) rest

pub none_yet : (cands : Cands) (from : ℕ) → NoneBefore cands from (from / 64) (from % 64)
none_yet cands from = record { start = omega arith; small = omega arith; none = λ i above below. absurd (omega (arith, above, below)) }

pub none_in_word : (cands : Cands) (from word low : ℕ) → NoneBefore cands from word low → IsFirstBelow (has_bit (slice_index_or cands.words word 0)) low 64 None → NoneBefore cands from (word + 1) 0
none_in_word cands from word low so none =
    let start = so.start in
    let small = so.small in
    record {
      start = omega (arith, start, small);
      small = omega arith;
      none = λ i above below. of i above below (cases_lt i (64 * word + low));
    }
  where
    of : (i : ℕ) → from ≤ i → i < 64 * (word + 1) + 0 → (i < 64 * word + low) ⊎ (64 * word + low ≤ i) → is_cand cands i ≡ false
    of i above below (inl less) = so.none i above less
    of i above below (inr more) =
        let split : 64 * word + (i - 64 * word) ≡ i = omega (arith, more) in
        ap (is_cand cands) (sym split) ∙ cand_in cands word (i - 64 * word) (omega (arith, below, more)) ∙ none (i - 64 * word) (omega (arith, more)) (omega (arith, below, more))

pub found_in_word : (cands : Cands) (from word low end bit : ℕ) → word < 96 → EndsBefore end cands → NoneBefore cands from word low → IsFirstBelow (has_bit (slice_index_or cands.words word 0)) low 64 (Some bit)
    → find (is_cand cands) (range_with_len from (end - from)) ≡ Some (64 * word + bit)
found_in_word cands from word low end bit within used so (small, first) =
    let above = first.above in
    let start = so.start in
    let is : is_cand cands (64 * word + bit) ≡ true = cand_in cands word bit small ∙ first.passes in
    let below : 64 * word + bit < end = less_end is in
    found_first (is_cand cands) from (end - from) (64 * word + bit) (omega (arith, below))
    (record { above = omega (arith, start, above); passes = is; before = λ i from_i less. of i from_i less (cases_lt i (64 * word + low)) })
  where
    differ : (b : Bool) → b ≡ true → b ≡ false → ⊥
    differ b t f = cc

    less_end : is_cand cands (64 * word + bit) ≡ true → 64 * word + bit < end
    less_end is =
        elim (cases_lt (64 * word + bit) end) [ inl less ↦ less | inr past ↦ absurd (differ (is_cand cands (64 * word + bit)) is (used (64 * word + bit) past (omega (arith, within, small)))) ]

    of : (i : ℕ) → from ≤ i → i < 64 * word + bit → (i < 64 * word + low) ⊎ (64 * word + low ≤ i) → is_cand cands i ≡ false
    of i from_i less (inl before) = so.none i from_i before
    of i from_i less (inr more) =
        let split : 64 * word + (i - 64 * word) ≡ i = omega (arith, more) in
        ap (is_cand cands) (sym split) ∙ cand_in cands word (i - 64 * word) (omega (arith, less, small, more)) ∙ first.before (i - 64 * word) (omega (arith, more)) (omega (arith, less, more))

pub found_nowhere : (cands : Cands) (from word low end : ℕ) → 96 ≤ word → end ≤ 6144 → NoneBefore cands from word low → find (is_cand cands) (range_with_len from (end - from)) ≡ None
found_nowhere cands from word low end past few so = found_none (is_cand cands) from (end - from) (λ i above below. so.none i above (omega (arith, past, few, above, below)))
