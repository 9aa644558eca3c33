-- The candidate indices of a guest that opens: their bits are those of the interrupts that concern the vCPU, and no others.
use Rattle.std.proofs.Common.{◌≡◌, ℕ, zero, suc, ◌+◌, ◌*◌, ◌^◌, ◌<◌, ◌≤◌, ◌⊎◌, inl, inr, max, Bool, true, false, nat_lt, IsTrue, fold, if◌then◌else◌, bit_or, lit<, refl, sym, ap, subst, ◌∙◌, arith}
use Rattle.std.specs.Int.{bit_at}
use Rattle.std.specs.List.{range_with_len}
use Rattle.std.proofs.lemmas.Bool.{and_parts, eqb-true, eq-eqb, ltb-true, cases_eq}
use Rattle.std.proofs.lemmas.Nat.{or_lt, pow_below}
use Rattle.std.proofs.lemmas.Nat.Bits.{bit_at_or, bit_at-lt, bit_at-pow_same}
use Rattle.core_words.specs.Words.{has_bit}
use Rattle.core_words.specs.IdealGuests.Ideal.{irq_at}
use Rattle.core_words.specs.IdealGuests.declared.guest.IdealGuest.{IdealGuest}
use Rattle.core_words.specs.Place.{index_bits, key_of_bit}
use Rattle.port_core.specs.Run.{concerns, is_asked, opening_index}
use Rattle.port_core.specs.Valid.{IsIndexWord}
use Rattle.port_core.proofs.StepLocals.{or_bit, pow_bit, no_bit}

-- Bits of sets.

pub or_left : (a b i : ℕ) → IsTrue (has_bit a i) → IsTrue (has_bit (bit_or a b) i)
or_left a b i h =
    let here = eqb-true (bit_at a i) 1 h in
    let few = bit_at-lt b i in
    let both = bit_at_or a b i in
    eq-eqb (bit_at (bit_or a b) i) 1 (most (bit_at a i) (bit_at b i) (bit_at (bit_or a b) i) both here few)
  where
    most : (x y m : ℕ) → m ≡ max x y → x ≡ 1 → y < 2 → m ≡ 1
    most x y m e one few = omega (arith, e, one, few)

pub or_right : (a b i : ℕ) → IsTrue (has_bit b i) → IsTrue (has_bit (bit_or a b) i)
or_right a b i h =
    let here = eqb-true (bit_at b i) 1 h in
    let few = bit_at-lt a i in
    let both = bit_at_or a b i in
    eq-eqb (bit_at (bit_or a b) i) 1 (most (bit_at a i) (bit_at b i) (bit_at (bit_or a b) i) both here few)
  where
    most : (x y m : ℕ) → m ≡ max x y → y ≡ 1 → x < 2 → m ≡ 1
    most x y m e one few = omega (arith, e, one, few)

pub pow_self : (k : ℕ) → IsTrue (has_bit (2 ^ k) k)
pow_self k = eq-eqb (bit_at (2 ^ k) k) 1 (bit_at-pow_same k)

-- The bits that are asked for, put one after the other into a word.

module _ (asks : ℕ → Bool) where
  abbrev pub put : ℕ → ℕ → ℕ
  put word bit = if asks bit then bit_or word (2 ^ bit) else word

  puts_asked : (word bit i : ℕ) → IsTrue (has_bit (put word bit) i) → IsTrue (has_bit word i) ⊎ IsTrue (asks i)
  puts_asked word bit i = of (asks bit) refl
    where
      of : (b : Bool) → asks bit ≡ b → IsTrue (has_bit (if b then bit_or word (2 ^ bit) else word) i) → IsTrue (has_bit word i) ⊎ IsTrue (asks i)
      of false e h = inl h
      of true e h = elim (or_bit word (2 ^ bit) i h) [ inl before ↦ inl before | inr new ↦ inr (subst (λ n. IsTrue (asks n)) (sym (pow_bit bit i new)) e) ]

  keeps : (word bit i : ℕ) → IsTrue (has_bit word i) → IsTrue (has_bit (put word bit) i)
  keeps word bit i h = of (asks bit)
    where
      of : (b : Bool) → IsTrue (has_bit (if b then bit_or word (2 ^ bit) else word) i)
      of true = or_left word (2 ^ bit) i h
      of false = h

  put_fits : (word bit : ℕ) → word < 2 ^ 64 → bit < 64 → put word bit < 2 ^ 64
  put_fits word bit small few = of (asks bit)
    where
      of : (b : Bool) → (if b then bit_or word (2 ^ bit) else word) < 2 ^ 64
      of true = or_lt 64 word (2 ^ bit) small (pow_below bit 64 few)
      of false = small

  pub only_asked : (n from word i : ℕ) → IsTrue (has_bit (fold put word (range_with_len from n)) i) → IsTrue (has_bit word i) ⊎ IsTrue (asks i)
  only_asked zero from word i h = inl h
  only_asked (suc n) from word i h = elim (only_asked n (from + 1) (put word from) i h) [ inl one ↦ puts_asked word from i one | inr asked ↦ inr asked ]

  all_kept : (n from word i : ℕ) → IsTrue (has_bit word i) → IsTrue (has_bit (fold put word (range_with_len from n)) i)
  all_kept zero from word i h = h
  all_kept (suc n) from word i h = all_kept n (from + 1) (put word from) i (keeps word from i h)

  pub all_asked : (n from word i : ℕ) → from ≤ i → i < from + n → IsTrue (asks i) → IsTrue (has_bit (fold put word (range_with_len from n)) i)
  all_asked zero from word i le lt h = absurd (omega (arith, le, lt))
  all_asked (suc n) from word i le lt h =
      elim (cases_eq from i) [
        | inl same ↦ all_kept n (from + 1) (put word from) i (subst (λ b. IsTrue (has_bit (if b then bit_or word (2 ^ from) else word) i)) (sym (ap asks same ∙ h)) (or_right word (2 ^ from) i (subst (λ k. IsTrue (has_bit (2 ^ k) i)) (sym same) (pow_self i))))
        | inr differ ↦ all_asked n (from + 1) (put word from) i (omega (arith, le, differ)) (omega (arith, lt)) h
      ]

  pub all_fit : (n from word : ℕ) → word < 2 ^ 64 → from + n ≤ 64 → fold put word (range_with_len from n) < 2 ^ 64
  all_fit zero from word small few = small
  all_fit (suc n) from word small few = all_fit n (from + 1) (put word from) (put_fits word from small (omega (arith, few))) (omega (arith, few))

-- The word of an index as a guest opens.

module _ (guest : IdealGuest) (vcpu number : ℕ) where
  abbrev asks_here : ℕ → Bool
  asks_here bit = is_asked guest vcpu (64 * number + bit)

  -- a bit of it is asked for, and each that is asked for is there
  pub index_asked : (bit : ℕ) → IsTrue (has_bit (opening_index guest vcpu number) bit) → IsTrue (is_asked guest vcpu (64 * number + bit))
  index_asked bit h = elim (only_asked asks_here 64 0 0 bit h) [ inl none ↦ absurd (no_bit bit none) | inr asked ↦ asked ]

  pub asked_indexed : (bit : ℕ) → bit < 64 → IsTrue (is_asked guest vcpu (64 * number + bit)) → IsTrue (has_bit (opening_index guest vcpu number) bit)
  asked_indexed bit few h = all_asked asks_here 64 0 0 bit (omega arith) few h

  pub index_opens : IsIndexWord guest.shape number (opening_index guest vcpu number)
  index_opens = record {
    fits = all_fit asks_here 64 0 0 (lit< tt) (omega arith);
    bits = λ bit few h.
        let bit_is = 64 * number + bit in
        ltb-true bit_is (index_bits guest.shape) (and_parts (nat_lt bit_is (index_bits guest.shape)) (concerns guest.shape vcpu (irq_at guest (key_of_bit guest.shape vcpu bit_is))) (index_asked bit h)).0;
  }
