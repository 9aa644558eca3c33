-- The bits of the causes in a word.
use Rattle.std.proofs.Common.{◌≡◌, ◌<◌, ◌≤◌, ◌+◌, ◌-◌, ◌*◌, ◌/◌, ◌%◌, ◌^◌, ℕ, zero, suc, Bool, true, false, if◌then◌else◌, nat_eq, bit_and, bit_or, w64, refl, sym, ap, ◌∙◌, subst, arith}
use Rattle.std.specs.Int.{bit_not}
use Rattle.std.specs.Int.Bits.{or_zero_r}
use Rattle.std.proofs.lemmas.Nat.{or_block, and_block, or_lt, and_le_l, and_mask}
use Rattle.gic_word.specs.declared.record.Group.TheVariants.{G0, G1}
use Rattle.gic_word.specs.declared.record.Route.TheVariants.{Affinity, Target}
use Rattle.gic_base.specs.Shape.{max_vcpus}
use Rattle.gic_word.specs.Word.{IsWord, seat_at, irq_of}
use Rattle.gic_word.specs.CauseBits.{OrChanges, AndChanges}
use Rattle.gic_word.proofs.WordLemmas.{same_irq, is_one}

-- three flags, as the lowest bits of a number have them
pub record LowFlags : Type 0 where
  pub soft : Bool
  pub line : Bool
  pub rise : Bool

abbrev pub low_flags : ℕ → LowFlags
low_flags n = record { soft = nat_eq (n / 1 % 2) 1; line = nat_eq (n / 2 % 2) 1; rise = nat_eq (n / 4 % 2) 1 }

-- a word that differs from another in its three lowest bits alone
pub record DiffersLow (before low after : ℕ) : Type 0 where
  pub small : low < 8
  pub is : after ≡ before / 8 * 8 + low

-- such a word is well formed, and its record has these causes and all else as before
pub record HasCauses (before after : ℕ) (flags : LowFlags) : Type 0 where
  pub word : IsWord after
  pub irq : irq_of after ≡ record (irq_of before) { soft = flags.soft; line = flags.line; rise = flags.rise }

pub has_causes : (before low after : ℕ) → IsWord before → DiffersLow before low after → HasCauses before after (low_flags low)
has_causes before low after is differs =
    let high : after / 8 ≡ before / 8 = omega (arith, differs.small, differs.is) in
    let low_is : after % 8 ≡ low = omega (arith, differs.small, differs.is) in
    let kind : after / 67108864 % 2 ≡ before / 67108864 % 2 = omega (arith, high) in
    let field : after / 134217728 % 4294967296 ≡ before / 134217728 % 4294967296 = omega (arith, high) in
    record {
      word =
          record {
            active = omega (arith, high, is.active);
            holder = omega (arith, high, is.holder);
            target = λ e. subst (λ n. n ≤ max_vcpus) (sym field) (is.target (sym (is_one kind) ∙ e));
            end = omega (arith, high, is.end);
          };
      irq =
          same_irq (irq_of after)
          (record (irq_of before) { soft = (low_flags low).soft; line = (low_flags low).line; rise = (low_flags low).rise })
          (omega (arith, high))
          (is_one (omega (arith, high)))
          (ap (λ n. if nat_eq n 1 then G1 else G0) (omega (arith, high)))
          (is_one (omega (arith, high)))
          (is_one (omega (arith, low_is)))
          (is_one (omega (arith, low_is)))
          (is_one (omega (arith, low_is)))
          (ap seat_at (omega (arith, high)))
          (ap seat_at (omega (arith, high)))
          (is_one (omega (arith, high)))
          (is_one (omega (arith, high)))
          (is_one (omega (arith, high)))
          (routed (after / 67108864 % 2) (before / 67108864 % 2) (after / 134217728 % 4294967296) (before / 134217728 % 4294967296) kind field);
    }
  where
    routed : (k kind f field : ℕ) → k ≡ kind → f ≡ field → (if nat_eq k 1 then Affinity f else Target (seat_at f)) ≡ (if nat_eq kind 1 then Affinity field else Target (seat_at field))
    routed k kind f field e g = cc

-- what holds of the numbers below 8
pub eight : (P : ℕ → Type 0) → P 0 → P 1 → P 2 → P 3 → P 4 → P 5 → P 6 → P 7 → (n : ℕ) → n < 8 → P n
eight P a b c d e f g h zero small = a
eight P a b c d e f g h (suc zero) small = b
eight P a b c d e f g h (suc (suc zero)) small = c
eight P a b c d e f g h (suc (suc (suc zero))) small = d
eight P a b c d e f g h (suc (suc (suc (suc zero)))) small = e
eight P a b c d e f g h (suc (suc (suc (suc (suc zero))))) small = f
eight P a b c d e f g h (suc (suc (suc (suc (suc (suc zero)))))) small = g
eight P a b c d e f g h (suc (suc (suc (suc (suc (suc (suc zero))))))) small = h
eight P a b c d e f g h (suc (suc (suc (suc (suc (suc (suc (suc n)))))))) small = absurd (omega (arith, small))

-- setting some of the three bits
or_low : (word bits : ℕ) → bits < 8 → DiffersLow word (bit_or (word % 8) bits) (bit_or word bits)
or_low word bits small =
    let low_small : word % 8 < 2 ^ 3 = omega arith in
    let split : word ≡ word / 8 * 2 ^ 3 + word % 8 = omega arith in
    let block : bit_or (word / 8 * 2 ^ 3 + word % 8) (0 * 2 ^ 3 + bits) ≡ bit_or (word / 8) 0 * 2 ^ 3 + bit_or (word % 8) bits = or_block 3 (word / 8) 0 (word % 8) bits low_small small in
    record {
      small = or_lt 3 (word % 8) bits low_small small;
      is = ap (λ n. bit_or n bits) split ∙ ap (λ n. bit_or (word / 8 * 2 ^ 3 + word % 8) n) (omega arith) ∙ block ∙ ap (λ n. n * 8 + bit_or (word % 8) bits) (or_zero_r (word / 8));
    }

-- clearing all but some of them
and_low : (word bits : ℕ) → word < 2 ^ 64 → bits < 8 → DiffersLow word (bit_and (word % 8) bits) (bit_and word ((2 ^ 61 - 1) * 2 ^ 3 + bits))
and_low word bits fits small =
    let low_small : word % 8 < 2 ^ 3 = omega arith in
    let split : word ≡ word / 8 * 2 ^ 3 + word % 8 = omega arith in
    let block : bit_and (word / 8 * 2 ^ 3 + word % 8) ((2 ^ 61 - 1) * 2 ^ 3 + bits) ≡ bit_and (word / 8) (2 ^ 61 - 1) * 2 ^ 3 + bit_and (word % 8) bits = and_block 3 (word / 8) (2 ^ 61 - 1) (word % 8) bits low_small small in
    let kept : bit_and (word / 8) (2 ^ 61 - 1) ≡ word / 8 = and_mask (word / 8) 61 ∙ omega (arith, fits) in
    let less : bit_and (word % 8) bits ≤ word % 8 = and_le_l (word % 8) bits in
    record {
      small = omega (arith, less);
      is = ap (λ n. bit_and n ((2 ^ 61 - 1) * 2 ^ 3 + bits)) split ∙ block ∙ ap (λ n. n * 8 + bit_and (word % 8) bits) kept;
    }

-- the three lowest bits have the flags of the whole
same_low : (word : ℕ) → low_flags (word % 8) ≡ low_flags word
same_low word =
    ap (λ b. record { soft = b; line = nat_eq (word % 8 / 2 % 2) 1; rise = nat_eq (word % 8 / 4 % 2) 1 }) (is_one (omega arith))
    ∙ ap (λ b. record { soft = nat_eq (word / 1 % 2) 1; line = b; rise = nat_eq (word % 8 / 4 % 2) 1 }) (is_one (omega arith))
    ∙ ap (λ b. record { soft = nat_eq (word / 1 % 2) 1; line = nat_eq (word / 2 % 2) 1; rise = b }) (is_one (omega arith))

-- bits that are set change the flags of each word as they change those of the numbers below 8
pub bits_set :
    (bits : ℕ) (change : LowFlags → LowFlags) → bits < 8 → ((low : ℕ) → low < 8 → low_flags (bit_or low bits) ≡ change (low_flags low)) → (word : ℕ) → IsWord word → HasCauses word (bit_or word bits) (change (low_flags word))
bits_set bits change small table word is =
    subst (HasCauses word (bit_or word bits))
    (table (word % 8) (omega arith) ∙ ap change (same_low word))
    (has_causes word (bit_or (word % 8) bits) (bit_or word bits) is (or_low word bits small))

-- and so do bits that are kept while the others of the three are cleared
pub bits_kept :
    (bits mask : ℕ) (change : LowFlags → LowFlags) → bits < 8 → mask ≡ (2 ^ 61 - 1) * 2 ^ 3 + bits → ((low : ℕ) → low < 8 → low_flags (bit_and low bits) ≡ change (low_flags low)) → (word : ℕ) → IsWord word → HasCauses word (bit_and word mask) (change (low_flags word))
bits_kept bits mask change small mask_is table word is =
    let fits : word < 2 ^ 64 = omega (arith, is.end) in
    subst (λ m. HasCauses word (bit_and word m) (change (low_flags word))) (sym mask_is)
    (
    subst (HasCauses word (bit_and word ((2 ^ 61 - 1) * 2 ^ 3 + bits)))
    (table (word % 8) (omega arith) ∙ ap change (same_low word))
    (has_causes word (bit_and (word % 8) bits) (bit_and word ((2 ^ 61 - 1) * 2 ^ 3 + bits)) is (and_low word bits fits small))
    )

-- each bit set, and both that a wire up sets
pub soft_set : OrChanges 1 (λ irq. record irq { soft = true })
soft_set word is =
    let h = bits_set 1 (λ f. record f { soft = true }) (omega arith) (eight (λ low. low_flags (bit_or low 1) ≡ record (low_flags low) { soft = true }) refl refl refl refl refl refl refl refl) word is in
    record { word = h.word; irq = h.irq }

pub line_set : OrChanges 2 (λ irq. record irq { line = true })
line_set word is =
    let h = bits_set 2 (λ f. record f { line = true }) (omega arith) (eight (λ low. low_flags (bit_or low 2) ≡ record (low_flags low) { line = true }) refl refl refl refl refl refl refl refl) word is in
    record { word = h.word; irq = h.irq }

pub rise_set : OrChanges 4 (λ irq. record irq { rise = true })
rise_set word is =
    let h = bits_set 4 (λ f. record f { rise = true }) (omega arith) (eight (λ low. low_flags (bit_or low 4) ≡ record (low_flags low) { rise = true }) refl refl refl refl refl refl refl refl) word is in
    record { word = h.word; irq = h.irq }

pub wire_raised : OrChanges 6 (λ irq. record irq { line = true; rise = true })
wire_raised word is =
    let h = bits_set 6 (λ f. record f { line = true; rise = true }) (omega arith) (eight (λ low. low_flags (bit_or low 6) ≡ record (low_flags low) { line = true; rise = true }) refl refl refl refl refl refl refl refl) word is in
    record { word = h.word; irq = h.irq }

-- each bit cleared
pub soft_cleared : AndChanges (bit_not w64 1) (λ irq. record irq { soft = false })
soft_cleared word is =
    let h = bits_kept 6 (bit_not w64 1) (λ f. record f { soft = false }) (omega arith) refl (eight (λ low. low_flags (bit_and low 6) ≡ record (low_flags low) { soft = false }) refl refl refl refl refl refl refl refl) word is in
    record { word = h.word; irq = h.irq }

pub line_cleared : AndChanges (bit_not w64 2) (λ irq. record irq { line = false })
line_cleared word is =
    let h = bits_kept 5 (bit_not w64 2) (λ f. record f { line = false }) (omega arith) refl (eight (λ low. low_flags (bit_and low 5) ≡ record (low_flags low) { line = false }) refl refl refl refl refl refl refl refl) word is in
    record { word = h.word; irq = h.irq }

pub rise_cleared : AndChanges (bit_not w64 4) (λ irq. record irq { rise = false })
rise_cleared word is =
    let h = bits_kept 3 (bit_not w64 4) (λ f. record f { rise = false }) (omega arith) refl (eight (λ low. low_flags (bit_and low 3) ≡ record (low_flags low) { rise = false }) refl refl refl refl refl refl refl refl) word is in
    record { word = h.word; irq = h.irq }
