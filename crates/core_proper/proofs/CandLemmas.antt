-- Candidates without one.
use Rattle.std.proofs.Common.{◌≡◌, ◌≢◌, ℕ, min, ◌-◌, ◌/◌, ◌%◌, ◌^◌, ◌<◌, inl, inr, nat_eq, length, slice_index_or, slice_set, bit_and, sym, ap, ◌∙◌, arith}
use Rattle.std.specs.Int.{bit_at, bit_not, w64}
use Rattle.std.proofs.lemmas.Bool.{cases_eq}
use Rattle.std.proofs.lemmas.List.{get_or-set_same, get_or-set_other}
use Rattle.std.proofs.lemmas.Nat.{pow_below}
use Rattle.std.proofs.lemmas.Nat.Bits.{bit_at-lt, bit_at_and, bit_at_not, bit_at-pow_other}
use Rattle.floor_histories.specs.Words.{has_bit}
use Rattle.port_core.specs.declared.owed.Cands.{Cands}
use Rattle.port_core.specs.Local.{is_cand, without_cand}

word_without : (word bit i : ℕ) → bit < 64 → i < 64 → i ≢ bit → has_bit (bit_and word (bit_not w64 (2 ^ bit))) i ≡ has_bit word i
word_without word bit i h l differ =
    let out : bit_at (bit_not w64 (2 ^ bit)) i ≡ 1 - bit_at (2 ^ bit) i = bit_at_not w64 (2 ^ bit) i (pow_below bit 64 h) l in
    let zero_there = bit_at-pow_other bit i differ in
    let both = bit_at_and word (bit_not w64 (2 ^ bit)) i in
    let few = bit_at-lt word i in
    ap (λ b. nat_eq b 1) (same (bit_at word i) (bit_at (bit_not w64 (2 ^ bit)) i) (bit_at (bit_and word (bit_not w64 (2 ^ bit))) i) both few (omega (arith, out, zero_there)))
  where
    same : (a b m : ℕ) → m ≡ min a b → a < 2 → b ≡ 1 → m ≡ a
    same a b m e s one = omega (arith, e, s, one)

-- the others stay as they are
pub cand_same : (cands : Cands) (bit i : ℕ) → bit / 64 < length cands.words → i ≢ bit → is_cand (without_cand cands bit) i ≡ is_cand cands i
cand_same cands bit i within differ = elim (cases_eq (i / 64) (bit / 64)) [ inl same ↦ here same | inr apart ↦ there apart ]
  where
    word : ℕ
    word = slice_index_or cands.words (bit / 64) 0

    less : ℕ
    less = bit_and word (bit_not w64 (2 ^ (bit % 64)))

    here : i / 64 ≡ bit / 64 → is_cand (without_cand cands bit) i ≡ is_cand cands i
    here same =
        ap (λ q. has_bit (slice_index_or (slice_set cands.words (bit / 64) less) q 0) (i % 64)) same
        ∙ ap (λ word. has_bit word (i % 64)) (get_or-set_same cands.words (bit / 64) less 0 within)
        ∙ word_without word (bit % 64) (i % 64) (omega arith) (omega arith) (λ e. differ (omega (arith, same, e)))
        ∙ ap (λ q. has_bit (slice_index_or cands.words q 0) (i % 64)) (sym same)

    there : i / 64 ≢ bit / 64 → is_cand (without_cand cands bit) i ≡ is_cand cands i
    there apart = ap (λ word. has_bit word (i % 64)) (get_or-set_other cands.words (bit / 64) (i / 64) less 0 apart)
