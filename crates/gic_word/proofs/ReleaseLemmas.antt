-- What giving back and releasing do to a word.
use Rattle.std.proofs.Common.{◌≡◌, ◌<◌, ◌≤◌, ◌+◌, ◌-◌, ◌*◌, ◌/◌, ◌%◌, ◌^◌, ◌||◌, ℕ, Bool, true, false, if◌then◌else◌, nat_eq, bit_and, bit_or, Some, None, refl, sym, ap, ◌∙◌, subst, arith}
use Rattle.std.specs.Int.Bits.{or_zero_r, or_zero_l}
use Rattle.std.proofs.lemmas.Nat.{or_block, and_block, and_mask}
use Rattle.std.proofs.lemmas.Option.{none-some}
use Rattle.gic_word.specs.declared.record.Group.TheVariants.{G0, G1}
use Rattle.gic_word.specs.declared.record.Route.TheVariants.{Affinity, Target}
use Rattle.gic_word.specs.declared.places.TheConstants.{HELD_BY_NONE, ACTIVE_BY_NONE}
use Rattle.gic_base.specs.Shape.{max_vcpus}
use Rattle.gic_word.specs.Word.{IsWord, seat_at, irq_of}
use Rattle.gic_word.specs.CauseBits.{IsChange, OrChanges, AndChanges}
use Rattle.gic_word.specs.ReleaseBits.{cause_bits_of, active_bits_of}
use Rattle.gic_word.proofs.WordLemmas.{same_irq, is_one, seat_back}
use Rattle.gic_word.proofs.CauseLemmas.{low_flags, bits_set, eight}

-- the route of a word whose upper bits are those of another
routed : (k kind f field : ℕ) → k ≡ kind → f ≡ field → (if nat_eq k 1 then Affinity f else Target (seat_at f)) ≡ (if nat_eq kind 1 then Affinity field else Target (seat_at field))
routed k kind f field e g = cc

-- a word with another field of active-by
active_set : (before field after : ℕ) → IsWord before → field ≤ max_vcpus → after ≡ before / 2 ^ 20 * 2 ^ 20 + field * 2 ^ 14 + before % 2 ^ 14 → IsChange (λ irq. record irq { act_by = seat_at field }) before after
active_set before field after is small e =
    let high : after / 1048576 ≡ before / 1048576 = omega (arith, small, e) in
    let low : after % 16384 ≡ before % 16384 = omega (arith, small, e) in
    let middle : after / 16384 % 64 ≡ field = omega (arith, small, e) in
    let kind : after / 67108864 % 2 ≡ before / 67108864 % 2 = omega (arith, high) in
    let route : after / 134217728 % 4294967296 ≡ before / 134217728 % 4294967296 = omega (arith, high) in
    record {
      word =
          record {
            active = omega (arith, middle, small);
            holder = omega (arith, high, is.holder);
            target = λ f. subst (λ n. n ≤ max_vcpus) (sym route) (is.target (sym (is_one kind) ∙ f));
            end = omega (arith, high, is.end);
          };
      irq =
          same_irq (irq_of after) (record (irq_of before) { act_by = seat_at field })
          (omega (arith, low))
          (is_one (omega (arith, low)))
          (ap (λ n. if nat_eq n 1 then G1 else G0) (omega (arith, low)))
          (is_one (omega (arith, low)))
          (is_one (omega (arith, low)))
          (is_one (omega (arith, low)))
          (is_one (omega (arith, low)))
          (ap seat_at middle)
          (ap seat_at (omega (arith, high)))
          (is_one (omega (arith, low)))
          (is_one (omega (arith, low)))
          (is_one (omega (arith, low)))
          (routed (after / 67108864 % 2) (before / 67108864 % 2) (after / 134217728 % 4294967296) (before / 134217728 % 4294967296) kind route);
    }

-- a word with no holder
holder_cleared : (before after : ℕ) → IsWord before → after ≡ before / 2 ^ 26 * 2 ^ 26 + before % 2 ^ 20 → IsChange (λ irq. record irq { holder = None }) before after
holder_cleared before after is e =
    let high : after / 67108864 ≡ before / 67108864 = omega (arith, e) in
    let low : after % 1048576 ≡ before % 1048576 = omega (arith, e) in
    let middle : after / 1048576 % 64 ≡ 0 = omega (arith, e) in
    let kind : after / 67108864 % 2 ≡ before / 67108864 % 2 = omega (arith, high) in
    let route : after / 134217728 % 4294967296 ≡ before / 134217728 % 4294967296 = omega (arith, high) in
    record {
      word =
          record {
            active = omega (arith, low, is.active);
            holder = omega (arith, middle);
            target = λ f. subst (λ n. n ≤ max_vcpus) (sym route) (is.target (sym (is_one kind) ∙ f));
            end = omega (arith, high, is.end);
          };
      irq =
          same_irq (irq_of after) (record (irq_of before) { holder = None })
          (omega (arith, low))
          (is_one (omega (arith, low)))
          (ap (λ n. if nat_eq n 1 then G1 else G0) (omega (arith, low)))
          (is_one (omega (arith, low)))
          (is_one (omega (arith, low)))
          (is_one (omega (arith, low)))
          (is_one (omega (arith, low)))
          (ap seat_at (omega (arith, low)))
          (ap seat_at middle)
          (is_one (omega (arith, low)))
          (is_one (omega (arith, low)))
          (is_one (omega (arith, low)))
          (routed (after / 67108864 % 2) (before / 67108864 % 2) (after / 134217728 % 4294967296) (before / 134217728 % 4294967296) kind route);
    }

-- a field is cleared, and one that is 0 is set
pub deactivates : AndChanges ACTIVE_BY_NONE (λ irq. record irq { act_by = None })
deactivates word is =
    let low_small : word % 2 ^ 20 < 2 ^ 20 = omega arith in
    let split : word ≡ word / 2 ^ 20 * 2 ^ 20 + word % 2 ^ 20 = omega arith in
    let block : bit_and (word / 2 ^ 20 * 2 ^ 20 + word % 2 ^ 20) ((2 ^ 44 - 1) * 2 ^ 20 + (2 ^ 14 - 1)) ≡ bit_and (word / 2 ^ 20) (2 ^ 44 - 1) * 2 ^ 20 + bit_and (word % 2 ^ 20) (2 ^ 14 - 1) =
    and_block 20 (word / 2 ^ 20) (2 ^ 44 - 1) (word % 2 ^ 20) (2 ^ 14 - 1) low_small (omega arith) in
    let high : bit_and (word / 2 ^ 20) (2 ^ 44 - 1) ≡ word / 2 ^ 20 = and_mask (word / 2 ^ 20) 44 ∙ omega (arith, is.end) in
    let low : bit_and (word % 2 ^ 20) (2 ^ 14 - 1) ≡ word % 2 ^ 14 = and_mask (word % 2 ^ 20) 14 ∙ omega arith in
    active_set word 0 (bit_and word ACTIVE_BY_NONE) is (omega arith)
    (ap (λ n. bit_and n ACTIVE_BY_NONE) split ∙ block ∙ ap (λ n. n * 2 ^ 20 + bit_and (word % 2 ^ 20) (2 ^ 14 - 1)) high ∙ ap (λ n. word / 2 ^ 20 * 2 ^ 20 + n) low ∙ omega arith)

pub releases : AndChanges HELD_BY_NONE (λ irq. record irq { holder = None })
releases word is =
    let low_small : word % 2 ^ 26 < 2 ^ 26 = omega arith in
    let split : word ≡ word / 2 ^ 26 * 2 ^ 26 + word % 2 ^ 26 = omega arith in
    let block : bit_and (word / 2 ^ 26 * 2 ^ 26 + word % 2 ^ 26) ((2 ^ 38 - 1) * 2 ^ 26 + (2 ^ 20 - 1)) ≡ bit_and (word / 2 ^ 26) (2 ^ 38 - 1) * 2 ^ 26 + bit_and (word % 2 ^ 26) (2 ^ 20 - 1) =
    and_block 26 (word / 2 ^ 26) (2 ^ 38 - 1) (word % 2 ^ 26) (2 ^ 20 - 1) low_small (omega arith) in
    let high : bit_and (word / 2 ^ 26) (2 ^ 38 - 1) ≡ word / 2 ^ 26 = and_mask (word / 2 ^ 26) 38 ∙ omega (arith, is.end) in
    let low : bit_and (word % 2 ^ 26) (2 ^ 20 - 1) ≡ word % 2 ^ 20 = and_mask (word % 2 ^ 26) 20 ∙ omega arith in
    holder_cleared word (bit_and word HELD_BY_NONE) is
    (ap (λ n. bit_and n HELD_BY_NONE) split ∙ block ∙ ap (λ n. n * 2 ^ 26 + bit_and (word % 2 ^ 26) (2 ^ 20 - 1)) high ∙ ap (λ n. word / 2 ^ 26 * 2 ^ 26 + n) low)

pub activates : (vcpu word : ℕ) → vcpu < max_vcpus → IsWord word → (irq_of word).act_by ≡ None → IsChange (λ irq. record irq { act_by = Some vcpu }) word (bit_or word (active_bits_of vcpu))
activates vcpu word few is none =
    let free : word / 16384 % 64 ≡ 0 = no_seat (word / 16384 % 64) none in
    let high = word / 2 ^ 20 in
    let low = word % 2 ^ 14 in
    let field = vcpu + 1 in
    let split : word ≡ high * 2 ^ 20 + (0 * 2 ^ 14 + low) = omega (arith, free) in
    let bits : active_bits_of vcpu ≡ 0 * 2 ^ 20 + (field * 2 ^ 14 + 0) = omega arith in
    let outer : bit_or (high * 2 ^ 20 + (0 * 2 ^ 14 + low)) (0 * 2 ^ 20 + (field * 2 ^ 14 + 0)) ≡ bit_or high 0 * 2 ^ 20 + bit_or (0 * 2 ^ 14 + low) (field * 2 ^ 14 + 0) =
    or_block 20 high 0 (0 * 2 ^ 14 + low) (field * 2 ^ 14 + 0) (omega arith) (omega (arith, few)) in
    let inner : bit_or (0 * 2 ^ 14 + low) (field * 2 ^ 14 + 0) ≡ bit_or 0 field * 2 ^ 14 + bit_or low 0 = or_block 14 0 field low 0 (omega arith) (omega arith) in
    subst (λ seat. IsChange (λ irq. record irq { act_by = seat }) word (bit_or word (active_bits_of vcpu))) (seat_back (Some vcpu))
    (active_set word field (bit_or word (active_bits_of vcpu)) is (omega (arith, few))
    (ap (λ n. bit_or n (active_bits_of vcpu)) split
    ∙ ap (λ n. bit_or (high * 2 ^ 20 + (0 * 2 ^ 14 + low)) n) bits
    ∙ outer
    ∙ ap (λ n. n * 2 ^ 20 + bit_or (0 * 2 ^ 14 + low) (field * 2 ^ 14 + 0)) (or_zero_r high)
    ∙ ap (λ n. high * 2 ^ 20 + n) (inner ∙ ap (λ n. n * 2 ^ 14 + bit_or low 0) (or_zero_l field) ∙ ap (λ n. field * 2 ^ 14 + n) (or_zero_r low))
    ∙ omega arith))
  where
    no_seat : (field : ℕ) → seat_at field ≡ None → field ≡ 0
    no_seat field e = by_test (nat_eq field 0) refl e
      where
        by_test : (b : Bool) → nat_eq field 0 ≡ b → (if b then None else Some (field - 1)) ≡ None → field ≡ 0
        by_test true f e = grind arith
        by_test false f e = absurd (none-some (field - 1) (sym e))

-- causes that come back
pub gives_back : (rise soft : Bool) → OrChanges (cause_bits_of rise soft) (λ irq. record irq { rise = irq.rise || rise; soft = irq.soft || soft })
gives_back true true word is =
    let h = bits_set 5 (λ f. record f { rise = f.rise || true; soft = f.soft || true }) (omega arith) (eight (λ low. low_flags (bit_or low 5) ≡ record (low_flags low) { rise = (low_flags low).rise || true; soft = (low_flags low).soft || true }) refl refl refl refl refl refl refl refl) word is in
    record { word = h.word; irq = h.irq }
gives_back true false word is =
    let h = bits_set 4 (λ f. record f { rise = f.rise || true; soft = f.soft || false }) (omega arith) (eight (λ low. low_flags (bit_or low 4) ≡ record (low_flags low) { rise = (low_flags low).rise || true; soft = (low_flags low).soft || false }) refl refl refl refl refl refl refl refl) word is in
    record { word = h.word; irq = h.irq }
gives_back false true word is =
    let h = bits_set 1 (λ f. record f { rise = f.rise || false; soft = f.soft || true }) (omega arith) (eight (λ low. low_flags (bit_or low 1) ≡ record (low_flags low) { rise = (low_flags low).rise || false; soft = (low_flags low).soft || true }) refl refl refl refl refl refl refl refl) word is in
    record { word = h.word; irq = h.irq }
gives_back false false word is =
    let h = bits_set 0 (λ f. record f { rise = f.rise || false; soft = f.soft || false }) (omega arith) (eight (λ low. low_flags (bit_or low 0) ≡ record (low_flags low) { rise = (low_flags low).rise || false; soft = (low_flags low).soft || false }) refl refl refl refl refl refl refl refl) word is in
    record { word = h.word; irq = h.irq }
