-- The words of translation lines: what they say, and what the steps of devices and of the ITS make of them.
use Rattle.std.proofs.Common.{◌≡◌, ◌≢◌, ℕ, zero, suc, ◌+◌, ◌-◌, ◌*◌, ◌/◌, ◌%◌, ◌^◌, ◌<◌, ◌≤◌, ◌==◌, ◌&&◌, not, Bool, true, false, cond, nat_eq, nat_lt, IsTrue, bit_and, bit_or, Option, Some, None, is_none, is_some, lit<, inl, inr, min, max, refl, sym, ap, subst, ◌∙◌, arith}
use Rattle.std.specs.Int.{bit_at, bit_not, w64}
use Rattle.std.specs.Option.{ForSome}
use Rattle.std.proofs.lemmas.Bool.{and_parts, eqb-true, eq-eqb, ne_eqb, lt-ltb, ltb-true, ltb-false, cases_lt}
use Rattle.std.proofs.lemmas.Option.{same_Some}
use Rattle.std.proofs.Math.Nat.{div-eq_of_lt, pow-le-pow_right}
use Rattle.std.proofs.lemmas.Nat.{and_le_l, and_block, and_mask, or_lt, pow_below}
use Rattle.std.proofs.lemmas.Nat.Bits.{bit_at_and, bit_at_or, bit_at_not, bit_at-lt, bit_at-pow_same, bit_at-pow_other, bit_at-zero}
use Rattle.core_words.specs.Words.{has_bit, field_at, GuestShape, IsShape}
use Rattle.core_words.proofs.GicWord.WordLemmas.{is_one}
use Rattle.port_core.specs.declared.atomic.Atomic.TheVariants.{And, Exchange}
use Rattle.core_words.specs.declared.line.Line.{Line}
use Rattle.port_core.specs.declared.local.Local.{Local}
use Rattle.port_core.specs.declared.step.CoreStep.TheVariants.{LineEnter, LineLeave, LineFill, LineClose}
use Rattle.port_core.specs.Actor.{actor_count}
use Rattle.port_core.specs.Atomic.{Makes, exchange_by}
use Rattle.core_words.specs.Forms.{is_empty_line, packed_line, line_of, IsLine, is_line_word}
use Rattle.port_core.specs.Local.{is_vcpu, is_inside, with_inside, without_inside}
use Rattle.port_core.proofs.AtomicLemmas.{by_seen}

-- A line's word reads as it was packed, and is well formed.

same_line : (a b : Line) → a.pair ≡ b.pair → a.lpi ≡ b.lpi → a.inside ≡ b.inside → a ≡ b
same_line a b pair lpi inside =
    ap (λ p. record { pair = p; lpi = a.lpi; inside = a.inside }) pair
    ∙ ap (λ l. record { pair = b.pair; lpi = l; inside = a.inside }) lpi
    ∙ ap (λ i. record { pair = b.pair; lpi = b.lpi; inside = i }) inside

pub line_back : (line : Line) → IsLine line → line_of (packed_line line) ≡ line
line_back line is = by_pair line.pair is.pair is.none
  where
    by_pair : (pair : Option (ℕ × ℕ)) → ForSome pair (λ pair. (pair.0 < 65536) × (pair.1 < 65536)) → (pair ≡ None → line.lpi ≡ 8192) → line_of (packed_line (record line { pair = pair })) ≡ record line { pair = pair }
    by_pair None small none =
        let word = line.inside + (line.lpi - 8192) * 32 + 0 in
        let lpi : line.lpi ≡ 8192 = none refl in
        same_line (line_of word) (record line { pair = None }) (ap (λ b. cond b (Some (field_at word 34 16, field_at word 18 16)) None) (is_one {m = word / 16 % 2} {n = 0} (omega (arith, lpi, is.inside)))) (omega (arith, lpi, is.inside)) (omega (arith, lpi, is.inside))
    by_pair (Some pair) small none =
        let both = small pair refl in
        let device = both.0 in
        let event = both.1 in
        let word = line.inside + (line.lpi - 8192) * 32 + (16 + pair.1 * 262144 + pair.0 * 17179869184) in
        same_line (line_of word) (record line { pair = Some pair })
        (ap (λ b. cond b (Some (field_at word 34 16, field_at word 18 16)) None) (is_one {m = word / 16 % 2} {n = 1} (omega (arith, is.from, is.lpi, is.inside)))
        ∙ ap (λ d. Some (d, field_at word 18 16)) (omega (arith, is.from, is.lpi, is.inside, device, event))
        ∙ ap (λ e. Some (pair.0, e)) (omega (arith, is.from, is.lpi, is.inside, device, event)))
        (omega (arith, is.from, is.lpi, is.inside)) (omega (arith, is.from, is.lpi, is.inside))

pub line_word : (line : Line) → IsLine line → IsTrue (is_line_word (packed_line line))
line_word line is = by_pair line.pair is.pair is.none
  where
    by_pair : (pair : Option (ℕ × ℕ)) → ForSome pair (λ pair. (pair.0 < 65536) × (pair.1 < 65536)) → (pair ≡ None → line.lpi ≡ 8192) → IsTrue (is_line_word (packed_line (record line { pair = pair })))
    by_pair None small none =
        let word = line.inside + (line.lpi - 8192) * 32 + 0 in
        let lpi : line.lpi ≡ 8192 = none refl in
        ap (λ b. cond b (nat_lt word 1125899906842624) (nat_lt word 16)) (is_one {m = word / 16 % 2} {n = 0} (omega (arith, lpi, is.inside))) ∙ lt-ltb word 16 (omega (arith, lpi, is.inside))
    by_pair (Some pair) small none =
        let both = small pair refl in
        let device = both.0 in
        let event = both.1 in
        let word = line.inside + (line.lpi - 8192) * 32 + (16 + pair.1 * 262144 + pair.0 * 17179869184) in
        ap (λ b. cond b (nat_lt word 1125899906842624) (nat_lt word 16)) (is_one {m = word / 16 % 2} {n = 1} (omega (arith, is.from, is.lpi, is.inside))) ∙ lt-ltb word 1125899906842624 (omega (arith, is.lpi, is.inside, device, event))

-- what any well-formed word of a line says can be
pub line_fits : (word : ℕ) → IsTrue (is_line_word word) → IsLine (line_of word)
line_fits word h = by_bit (has_bit word 4) h
  where
    by_bit : (b : Bool) → IsTrue (cond b (nat_lt word 1125899906842624) (nat_lt word 16)) → IsLine (record (line_of word) { pair = cond b (Some (field_at word 34 16, field_at word 18 16)) None })
    by_bit true h =
        record {
          pair = λ pair e.
              let same : (field_at word 34 16, field_at word 18 16) ≡ pair = same_Some (field_at word 34 16, field_at word 18 16) pair e in
              let device : field_at word 34 16 ≡ pair.0 = ap (λ p. p.0) same in
              let event : field_at word 18 16 ≡ pair.1 = ap (λ p. p.1) same in
              (omega (arith, device), omega (arith, event));
          from = omega arith;
          lpi = omega arith;
          none = λ e. absurd (cc);
          inside = omega arith;
        }
    by_bit false h = let small = ltb-true word 16 h in record { pair = λ pair e. absurd (cc); from = omega arith; lpi = omega arith; none = λ e. omega (arith, small); inside = omega arith }

-- and it is the word of that
pub line_packed : (word : ℕ) → IsTrue (is_line_word word) → packed_line (line_of word) ≡ word
line_packed word h = by_bit (has_bit word 4) refl h
  where
    by_bit : (b : Bool) → has_bit word 4 ≡ b → IsTrue (cond b (nat_lt word 1125899906842624) (nat_lt word 16)) → packed_line (record (line_of word) { pair = cond b (Some (field_at word 34 16, field_at word 18 16)) None }) ≡ word
    by_bit true e h =
        let bit : word / 16 % 2 ≡ 1 = eqb-true (word / 16 % 2) 1 e in
        let end = ltb-true word 1125899906842624 h in
        omega (arith, bit, end)
    by_bit false e h = let small = ltb-true word 16 h in omega (arith, small)

pub line_end : (word : ℕ) → IsTrue (is_line_word word) → word < 2 ^ 50
line_end word h = by_bit (has_bit word 4) h
  where
    by_bit : (b : Bool) → IsTrue (cond b (nat_lt word 1125899906842624) (nat_lt word 16)) → word < 1125899906842624
    by_bit true h = ltb-true word 1125899906842624 h
    by_bit false h = let small = ltb-true word 16 h in omega (arith, small)

-- The devices in a line, a bit each.

-- no number has a bit past its end
none_past : (n i : ℕ) → n < 2 ^ i → bit_at n i ≡ 0
none_past n i h = ap (λ q. q % 2) (div-eq_of_lt h)

-- the set with a device has it, and each other device as before
pub with_self : (set d : ℕ) → has_bit (bit_or set (2 ^ d)) d ≡ true
with_self set d = eq-eqb (bit_at (bit_or set (2 ^ d)) d) 1 (most (bit_at set d) (bit_at (2 ^ d) d) (bit_at (bit_or set (2 ^ d)) d) (bit_at_or set (2 ^ d) d) (bit_at-pow_same d) (bit_at-lt set d))
  where
    most : (x y z : ℕ) → z ≡ max x y → y ≡ 1 → x < 2 → z ≡ 1
    most x y z e one few = omega arith

pub with_other : (set d i : ℕ) → i ≢ d → has_bit (bit_or set (2 ^ d)) i ≡ has_bit set i
with_other set d i differ = ap (λ n. nat_eq n 1) (same (bit_at set i) (bit_at (2 ^ d) i) (bit_at (bit_or set (2 ^ d)) i) (bit_at_or set (2 ^ d) i) (bit_at-pow_other d i differ))
  where
    same : (x y z : ℕ) → z ≡ max x y → y ≡ 0 → z ≡ x
    same x y z e none = omega arith

-- the set without a device has it not, and each other device as before
pub without_self : (set d : ℕ) → d < 64 → has_bit (bit_and set (bit_not w64 (2 ^ d))) d ≡ false
without_self set d few =
    ne_eqb (bit_at (bit_and set (bit_not w64 (2 ^ d))) d) 1
    (λ e. least (bit_at set d) (bit_at (bit_not w64 (2 ^ d)) d) (bit_at (bit_and set (bit_not w64 (2 ^ d))) d) (bit_at_and set (bit_not w64 (2 ^ d)) d) (bit_at_not w64 (2 ^ d) d (pow_below d 64 few) few) (bit_at-pow_same d) e)
  where
    least : (x y z : ℕ) → z ≡ min x y → y ≡ 1 - bit_at (2 ^ d) d → bit_at (2 ^ d) d ≡ 1 → z ≡ 1 → ⊥
    least x y z e out one h = omega (arith, e, out, one, h)

pub without_other : (set d i : ℕ) → set < 2 ^ 64 → d < 64 → i ≢ d → has_bit (bit_and set (bit_not w64 (2 ^ d))) i ≡ has_bit set i
without_other set d i fits few differ =
    elim (cases_lt i 64) [
      | inl low ↦
          ap (λ n. nat_eq n 1)
          (same (bit_at set i) (bit_at (bit_not w64 (2 ^ d)) i) (bit_at (bit_and set (bit_not w64 (2 ^ d))) i) (bit_at_and set (bit_not w64 (2 ^ d)) i) (bit_at_not w64 (2 ^ d) i (pow_below d 64 few) low) (bit_at-pow_other d i differ)
          (bit_at-lt set i))
      | inr high ↦
          (let past : 2 ^ 64 ≤ 2 ^ i = pow-le-pow_right (lit< tt) high in
          let less = and_le_l set (bit_not w64 (2 ^ d)) in
          ap (λ n. nat_eq n 1) (none_past (bit_and set (bit_not w64 (2 ^ d))) i (omega (arith, past, less, fits)) ∙ sym (none_past set i (omega (arith, past, fits)))))
    ]
  where
    same : (x y z : ℕ) → z ≡ min x y → y ≡ 1 - bit_at (2 ^ d) i → bit_at (2 ^ d) i ≡ 0 → x < 2 → z ≡ x
    same x y z e out none few = omega (arith, e, out, none, few)

-- What a line says of an actor after another actor, or the same one, gets into it or leaves it.

-- a device's place among the devices
pub few_devices : (shape : GuestShape) (actor : ℕ) → IsShape shape → actor < actor_count shape → is_vcpu shape actor ≡ false → (actor - shape.vcpus < shape.devices) × (actor - shape.vcpus < 4)
few_devices shape actor good there device =
    let past : shape.vcpus ≤ actor = ltb-false actor shape.vcpus device in
    (omega (arith, there, past), omega (arith, there, past, good.devices))

-- what a line's word can say, with a device more
pub entered_fits : (shape : GuestShape) (actor : ℕ) (line : Line) → IsShape shape → actor < actor_count shape → is_vcpu shape actor ≡ false → IsLine line → IsLine (with_inside shape actor line)
entered_fits shape actor line good there device is =
    let few = (few_devices shape actor good there device).1 in
    record { pair = is.pair; from = is.from; lpi = is.lpi; none = is.none; inside = or_lt 4 line.inside (2 ^ (actor - shape.vcpus)) is.inside (pow_below (actor - shape.vcpus) 4 few) }

-- with a device less
pub left_fits : (shape : GuestShape) (actor : ℕ) (line : Line) → IsLine line → IsLine (without_inside shape actor line)
left_fits shape actor line is =
    let less = and_le_l line.inside (bit_not w64 (2 ^ (actor - shape.vcpus))) in
    record { pair = is.pair; from = is.from; lpi = is.lpi; none = is.none; inside = omega (arith, less, is.inside) }

pub inside_self : (shape : GuestShape) (actor : ℕ) (line : Line) → is_vcpu shape actor ≡ false → is_inside shape actor (with_inside shape actor line) ≡ true
inside_self shape actor line device = ap (λ b. not b && has_bit (bit_or line.inside (2 ^ (actor - shape.vcpus))) (actor - shape.vcpus)) device ∙ with_self line.inside (actor - shape.vcpus)

pub outside_self : (shape : GuestShape) (actor : ℕ) (line : Line) → IsShape shape → actor < actor_count shape → is_vcpu shape actor ≡ false → is_inside shape actor (without_inside shape actor line) ≡ false
outside_self shape actor line good there device =
    let few = (few_devices shape actor good there device).1 in
    ap (λ b. not b && has_bit (bit_and line.inside (bit_not w64 (2 ^ (actor - shape.vcpus)))) (actor - shape.vcpus)) device ∙ without_self line.inside (actor - shape.vcpus) (omega (arith, few))

-- each other actor is in the line where it was
other_device : (shape : GuestShape) (actor other : ℕ) → other ≢ actor → is_vcpu shape actor ≡ false → is_vcpu shape other ≡ false → other - shape.vcpus ≢ actor - shape.vcpus
other_device shape actor other differ device one e =
    let past : shape.vcpus ≤ actor = ltb-false actor shape.vcpus device in
    let past_too : shape.vcpus ≤ other = ltb-false other shape.vcpus one in
    differ (omega (arith, past, past_too, e))

pub inside_other : (shape : GuestShape) (actor other : ℕ) (line : Line) → other ≢ actor → is_vcpu shape actor ≡ false → is_inside shape other (with_inside shape actor line) ≡ is_inside shape other line
inside_other shape actor other line differ device = of (is_vcpu shape other) refl
  where
    of : (b : Bool) → is_vcpu shape other ≡ b → (not b && has_bit (bit_or line.inside (2 ^ (actor - shape.vcpus))) (other - shape.vcpus)) ≡ (not b && has_bit line.inside (other - shape.vcpus))
    of true e = refl
    of false e = with_other line.inside (actor - shape.vcpus) (other - shape.vcpus) (other_device shape actor other differ device e)

pub outside_other :
    (shape : GuestShape) (actor other : ℕ) (line : Line) → IsShape shape → actor < actor_count shape → IsLine line → other ≢ actor → is_vcpu shape actor ≡ false → is_inside shape other (without_inside shape actor line) ≡ is_inside shape other line
outside_other shape actor other line good there is differ device = of (is_vcpu shape other) refl
  where
    few : actor - shape.vcpus < 64
    few = let small = (few_devices shape actor good there device).1 in omega (arith, small)

    of : (b : Bool) → is_vcpu shape other ≡ b → (not b && has_bit (bit_and line.inside (bit_not w64 (2 ^ (actor - shape.vcpus)))) (other - shape.vcpus)) ≡ (not b && has_bit line.inside (other - shape.vcpus))
    of true e = refl
    of false e = without_other line.inside (actor - shape.vcpus) (other - shape.vcpus) (omega (arith, is.inside)) few (other_device shape actor other differ device e)

-- an empty line has nobody, and no message
pub none_inside : (shape : GuestShape) (actor : ℕ) (line : Line) → line.inside ≡ 0 → is_inside shape actor line ≡ false
none_inside shape actor line none = of (is_vcpu shape actor)
  where
    of : (b : Bool) → (not b && has_bit line.inside (actor - shape.vcpus)) ≡ false
    of true = refl
    of false = ap (λ n. nat_eq n 1) (ap (λ set. bit_at set (actor - shape.vcpus)) none ∙ bit_at-zero (actor - shape.vcpus))

pub empty_is : (line : Line) → IsTrue (is_empty_line line) → (line.pair ≡ None) × (line.inside ≡ 0)
empty_is line h =
    let parts = and_parts (is_none line.pair) (line.inside == 0) h in
    (no_pair line.pair parts.0, eqb-true line.inside 0 parts.1)
  where
    no_pair : (pair : Option (ℕ × ℕ)) → IsTrue (is_none pair) → pair ≡ None
    no_pair None e = refl
    no_pair (Some one) e = absurd (cc)

-- only one word is that of an empty line
pub empty_word : (word : ℕ) → IsTrue (is_line_word word) → (word == 0) ≡ is_empty_line (line_of word)
empty_word word h = by_bit (has_bit word 4) refl h
  where
    by_bit : (b : Bool) → has_bit word 4 ≡ b → IsTrue (cond b (nat_lt word 1125899906842624) (nat_lt word 16)) → (word == 0) ≡ (is_none {T = ℕ × ℕ} (cond b (Some (field_at word 34 16, field_at word 18 16)) None) && field_at word 0 4 == 0)
    by_bit true e h = let bit : word / 16 % 2 ≡ 1 = eqb-true (word / 16 % 2) 1 e in ne_eqb word 0 (λ z. omega (arith, bit, z))
    by_bit false e h = let small = ltb-true word 16 h in ap (λ n. nat_eq n 0) (omega (arith, small))

-- Each atomic operation makes its step.

-- a line with the same message and LPI, and another set of devices
same_but_inside : (line : Line) (inside : ℕ) → packed_line (record line { inside = inside }) + line.inside ≡ packed_line line + inside
same_but_inside line inside = omega arith

pub makes_line_enter :
    (shape : GuestShape) (actor : ℕ) (local : Local) (line seen : ℕ) → Makes shape actor local (LineEnter line seen) (exchange_by (is_some (line_of seen).pair) seen (packed_line (with_inside shape actor (line_of seen))))
makes_line_enter shape actor local line seen found can = by_seen found seen (λ n. is_some (line_of n).pair) (λ n. packed_line (with_inside shape actor (line_of n)))

pub makes_line_fill : (shape : GuestShape) (actor : ℕ) (local : Local) (line device event lpi : ℕ) → Makes shape actor local (LineFill line device event lpi) (Exchange 0 (packed_line (record { pair = Some (device, event); lpi = lpi; inside = 0 })))
makes_line_fill shape actor local line device event lpi found can = ap (λ b. cond b (packed_line (record { pair = Some (device, event); lpi = lpi; inside = 0 })) found) (empty_word found can.valid.word_is)

pub makes_line_close : (shape : GuestShape) (actor : ℕ) (local : Local) (line : ℕ) → Makes shape actor local (LineClose line) (And 15)
makes_line_close shape actor local line found can = and_mask found 4 ∙ omega arith

-- the bits above the set stay
kept_high : (word mask : ℕ) → word < 2 ^ 50 → mask < 16 → bit_and word ((2 ^ 60 - 1) * 2 ^ 4 + mask) ≡ word / 16 * 16 + bit_and (word % 16) mask
kept_high word mask end small =
    let split : word ≡ word / 16 * 2 ^ 4 + word % 16 = omega arith in
    let block : bit_and (word / 16 * 2 ^ 4 + word % 16) ((2 ^ 60 - 1) * 2 ^ 4 + mask) ≡ bit_and (word / 16) (2 ^ 60 - 1) * 2 ^ 4 + bit_and (word % 16) mask = and_block 4 (word / 16) (2 ^ 60 - 1) (word % 16) mask (omega arith) small in
    let high : bit_and (word / 16) (2 ^ 60 - 1) ≡ word / 16 = and_mask (word / 16) 60 ∙ omega (arith, end) in
    ap (λ n. bit_and n ((2 ^ 60 - 1) * 2 ^ 4 + mask)) split ∙ block ∙ ap (λ n. n * 16 + bit_and (word % 16) mask) high

-- and those of a small number are those of the set
kept_low : (set mask : ℕ) → set < 16 → mask < 16 → bit_and set ((2 ^ 60 - 1) * 2 ^ 4 + mask) ≡ bit_and set mask
kept_low set mask few small =
    let high : set / 16 ≡ 0 = omega (arith, few) in
    let low : set % 16 ≡ set = omega (arith, few) in
    let whole = kept_high set mask (omega (arith, few)) small in
    let same : bit_and (set % 16) mask ≡ bit_and set mask = ap (λ n. bit_and n mask) low in
    omega (arith, whole, high, same)

-- a line's word without some devices
masked_line : (word mask : ℕ) → IsTrue (is_line_word word) → mask < 16 → bit_and word ((2 ^ 60 - 1) * 2 ^ 4 + mask) ≡ packed_line (record (line_of word) { inside = bit_and (line_of word).inside ((2 ^ 60 - 1) * 2 ^ 4 + mask) })
masked_line word mask h small =
    let line = line_of word in
    let whole : packed_line line ≡ word = line_packed word h in
    let low = kept_low line.inside mask (omega arith) small in
    let all = kept_high word mask (line_end word h) small in
    let inside : bit_and (word % 16) mask ≡ bit_and line.inside mask = ap (λ n. bit_and n mask) (omega arith) in
    let parts = same_but_inside line (bit_and line.inside ((2 ^ 60 - 1) * 2 ^ 4 + mask)) in
    omega (arith, whole, low, all, inside, parts)

-- the mask of a device
device_mask : (d : ℕ) → d < 4 → (bit_not w64 (2 ^ d) ≡ (2 ^ 60 - 1) * 2 ^ 4 + (15 - 2 ^ d)) × (15 - 2 ^ d < 16)
device_mask zero h = (refl, omega arith)
device_mask (suc zero) h = (refl, omega arith)
device_mask (suc (suc zero)) h = (refl, omega arith)
device_mask (suc (suc (suc zero))) h = (refl, omega arith)
device_mask (suc (suc (suc (suc d)))) h = absurd (omega (arith, h))

pub makes_line_leave : (shape : GuestShape) (actor : ℕ) (local : Local) (line : ℕ) → actor - shape.vcpus < 4 → Makes shape actor local (LineLeave line) (And (bit_not w64 (2 ^ (actor - shape.vcpus))))
makes_line_leave shape actor local line few found can =
    let d = actor - shape.vcpus in
    let mask = device_mask d few in
    subst (λ m. bit_and found m ≡ packed_line (record (line_of found) { inside = bit_and (line_of found).inside m })) (sym mask.0) (masked_line found (15 - 2 ^ d) can.valid.word_is mask.1)
