-- The bit of a wanted interrupt.
use Rattle.std.proofs.Common.{◌≡◌, ◌<◌, ◌≤◌, ◌+◌, ◌*◌, ◌/◌, ◌%◌, ◌^◌, ℕ, true, if◌then◌else◌, nat_eq, zero, suc, bit_or, refl, sym, ap, ◌∙◌, subst, arith}
use Rattle.std.specs.Int.Bits.{or_zero_r}
use Rattle.std.proofs.lemmas.Nat.{or_block}
use Rattle.gic_word.specs.declared.record.Group.TheVariants.{G0, G1}
use Rattle.gic_word.specs.declared.record.Route.TheVariants.{Affinity, Target}
use Rattle.gic_base.specs.Shape.{max_vcpus}
use Rattle.gic_word.specs.Word.{IsWord, seat_at, irq_of}
use Rattle.gic_word.specs.CauseBits.{IsChange, OrChanges}
use Rattle.gic_word.proofs.WordLemmas.{same_irq, is_one}

-- the route of a word whose upper bits are those of another
routed : (k kind f field : ℕ) → k ≡ kind → f ≡ field → (if nat_eq k 1 then Affinity f else Target (seat_at f)) ≡ (if nat_eq kind 1 then Affinity field else Target (seat_at field))
routed k kind f field e g = cc

-- a word whose bit of a waiting access is 1
want_set : (before after : ℕ) → IsWord before → after ≡ before / 512 * 512 + 256 + before % 256 → IsChange (λ irq. record irq { want = true }) before after
want_set before after is e =
    let high : after / 512 ≡ before / 512 = omega (arith, e) in
    let low : after % 256 ≡ before % 256 = omega (arith, e) in
    let middle : after / 256 % 2 ≡ 1 = omega (arith, e) in
    let kind : after / 67108864 % 2 ≡ before / 67108864 % 2 = omega (arith, high) in
    let route : after / 134217728 % 4294967296 ≡ before / 134217728 % 4294967296 = omega (arith, high) in
    record {
      word =
          record {
            active = omega (arith, high, is.active);
            holder = omega (arith, high, is.holder);
            target = λ f. subst (λ n. n ≤ max_vcpus) (sym route) (is.target (sym (is_one kind) ∙ f));
            end = omega (arith, high, is.end);
          };
      irq =
          same_irq (irq_of after) (record (irq_of before) { want = true })
          (omega (arith, high))
          (is_one (omega (arith, low)))
          (ap (λ n. if nat_eq n 1 then G1 else G0) (omega (arith, low)))
          (is_one (omega (arith, low)))
          (is_one (omega (arith, low)))
          (is_one (omega (arith, low)))
          (is_one (omega (arith, low)))
          (ap seat_at (omega (arith, high)))
          (ap seat_at (omega (arith, high)))
          (is_one middle)
          (is_one (omega (arith, low)))
          (is_one (omega (arith, low)))
          (routed (after / 67108864 % 2) (before / 67108864 % 2) (after / 134217728 % 4294967296) (before / 134217728 % 4294967296) kind route);
    }

-- a bit or 1
or_one : (bit : ℕ) → bit < 2 → bit_or bit 1 ≡ 1
or_one zero small = refl
or_one (suc zero) small = refl
or_one (suc (suc n)) small = absurd (omega (arith, small))

-- a fetch-or of the bit
pub wanted : OrChanges 256 (λ irq. record irq { want = true })
wanted word is =
    let high = word / 512 in
    let bit = word / 256 % 2 in
    let low = word % 256 in
    let split : word ≡ high * 2 ^ 9 + (bit * 2 ^ 8 + low) = omega arith in
    let outer : bit_or (high * 2 ^ 9 + (bit * 2 ^ 8 + low)) (0 * 2 ^ 9 + (1 * 2 ^ 8 + 0)) ≡ bit_or high 0 * 2 ^ 9 + bit_or (bit * 2 ^ 8 + low) (1 * 2 ^ 8 + 0) =
    or_block 9 high 0 (bit * 2 ^ 8 + low) (1 * 2 ^ 8 + 0) (omega arith) (omega arith) in
    let inner : bit_or (bit * 2 ^ 8 + low) (1 * 2 ^ 8 + 0) ≡ bit_or bit 1 * 2 ^ 8 + bit_or low 0 = or_block 8 bit 1 low 0 (omega arith) (omega arith) in
    want_set word (bit_or word 256) is
    (ap (λ n. bit_or n 256) split
    ∙ outer
    ∙ ap (λ n. n * 2 ^ 9 + bit_or (bit * 2 ^ 8 + low) (1 * 2 ^ 8 + 0)) (or_zero_r high)
    ∙ ap (λ n. high * 2 ^ 9 + n) (inner ∙ ap (λ n. n * 2 ^ 8 + bit_or low 0) (or_one bit (omega arith)) ∙ ap (λ n. 1 * 2 ^ 8 + n) (or_zero_r low))
    ∙ omega arith)
