-- A word of a candidate index, bit by bit.
use Rattle.std.proofs.Common.{◌≡◌, ℕ, zero, suc, ◌+◌, ◌*◌, ◌^◌, ◌%◌, ◌<◌, Bool, true, false, fold, bit_or, if◌then◌else◌, sym, ap, ◌∙◌, arith}
use Rattle.std.specs.List.{range_with_len}
use Rattle.std.proofs.Math.Nat.{mod-eq_of_lt}
use Rattle.std.proofs.lemmas.Nat.{pow_below}
use Rattle.port_core.specs.IdealGuests.declared.guest.IdealGuest.{IdealGuest}
use Rattle.port_core.specs.Run.{is_asked, opening_index}

-- what a range leaves, with one number more
pub fold_one_more : {B : Type 0} (f : B → ℕ → B) (n from : ℕ) (b : B) → fold f b (range_with_len from (suc n)) ≡ f (fold f b (range_with_len from n)) (from + n)
fold_one_more f zero from b = let same : from ≡ from + 0 = omega arith in ap (f b) same
fold_one_more f (suc n) from b =
    let same : from + 1 + n ≡ from + suc n = omega arith in
    fold_one_more f n (from + 1) (f b from) ∙ ap (f (fold f (f b from) (range_with_len (from + 1) n))) same

-- a bit that is asked for is put into a word
abbrev pub put : (ℕ → Bool) → ℕ → ℕ → ℕ
put asks word bit = if asks bit then bit_or word (2 ^ bit) else word

pub put_asked : (asks : ℕ → Bool) (word bit next : ℕ) → bit < 64 → asks bit ≡ true → next ≡ bit_or word (1 * 2 ^ bit % 18446744073709551616) → next ≡ put asks word bit
put_asked asks word bit next few asked is =
    let one : 1 * 2 ^ bit ≡ 2 ^ bit = omega arith in
    is ∙ ap (λ n. bit_or word (n % 18446744073709551616)) one ∙ ap (bit_or word) (mod-eq_of_lt (pow_below bit 64 few)) ∙ sym (ap (λ b. if b then bit_or word (2 ^ bit) else word) asked)

pub put_unasked : (asks : ℕ → Bool) (word bit next : ℕ) → asks bit ≡ false → next ≡ word → next ≡ put asks word bit
put_unasked asks word bit next unasked is = is ∙ sym (ap (λ b. if b then bit_or word (2 ^ bit) else word) unasked)

-- the bits so far, with one more
pub put_one_more : (asks : ℕ → Bool) (bit word next : ℕ) → word ≡ fold (put asks) 0 (range_with_len 0 bit) → next ≡ put asks word bit → next ≡ fold (put asks) 0 (range_with_len 0 (bit + 1))
put_one_more asks bit word next so_far is =
    let same : bit + 1 ≡ suc bit = omega arith in
    let at : 0 + bit ≡ bit = omega arith in
    is ∙ ap (λ w. put asks w bit) so_far ∙ ap (put asks (fold (put asks) 0 (range_with_len 0 bit))) (sym at) ∙ sym (fold_one_more (put asks) bit 0 0)
    ∙ ap (λ n. fold (put asks) 0 (range_with_len 0 n)) (sym same)

-- all bits are the word of the index
pub all_put : (guest : IdealGuest) (vcpu number bit word : ℕ) → bit ≡ 64 → word ≡ fold (put (λ bit. is_asked guest vcpu (64 * number + bit))) 0 (range_with_len 0 bit) → word ≡ opening_index guest vcpu number
all_put guest vcpu number bit word last so_far = so_far ∙ ap (λ n. fold (put (λ bit. is_asked guest vcpu (64 * number + bit))) 0 (range_with_len 0 n)) last
