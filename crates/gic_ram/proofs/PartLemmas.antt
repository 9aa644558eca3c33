-- A part of a word: the mask that extracts it, and the word in which it is replaced.
use Rattle.std.proofs.Common.{◌≡◌, ℕ, ◌<◌, ◌≤◌, ◌+◌, ◌-◌, ◌*◌, ◌/◌, ◌%◌, ◌^◌, bit_and, sym, ap, ◌∙◌, subst, arith}
use Rattle.std.proofs.Math.Pow.{ones_split}
use Rattle.std.proofs.lemmas.Nat.{pow_pos, pow-add, shr-shr, shr_split, mod-pow-add, and_mask, mod_below, shr_below, shr_high, mod_low, mul-add-lt, shl_whole}

-- all bits set, shifted down to the lowest ones
mask : (bits rest : ℕ) → bits + rest ≡ 64 → 18446744073709551615 / 2 ^ rest ≡ 2 ^ bits - 1
mask bits rest e =
    let all : 18446744073709551615 ≡ (2 ^ bits - 1) * 2 ^ rest + (2 ^ rest - 1) = ap (λ (n : ℕ). 2 ^ n - 1) (sym e) ∙ ones_split bits rest in
    let below : 2 ^ rest - 1 < 2 ^ rest = omega (arith, pow_pos rest) in
    ap (λ (n : ℕ). n / 2 ^ rest) all ∙ shr_high (2 ^ bits - 1) rest (2 ^ rest - 1) below

pub masked : (number bits : ℕ) → bits ≤ 64 → bit_and number (18446744073709551615 / 2 ^ (64 - bits)) ≡ number % 2 ^ bits
masked number bits h = ap (bit_and number) (mask bits (64 - bits) (omega arith)) ∙ and_mask number bits

-- a word in which the field of `bits` bits at `shift` is replaced
pub record Replaced (word shift bits put new : ℕ) : Type 0 where
  pub value : new ≡ word % 2 ^ shift + put * 2 ^ shift + word / 2 ^ (shift + bits) * 2 ^ (shift + bits)
  pub back : new / 2 ^ shift % 2 ^ bits ≡ put
  pub below : new % 2 ^ shift ≡ word % 2 ^ shift
  pub above : new / 2 ^ (shift + bits) ≡ word / 2 ^ (shift + bits)

-- it is what stands above the field, the field, and what stands below
pub joined_replaces : (word shift bits value : ℕ) → value < 2 ^ bits → Replaced word shift bits value ((word / 2 ^ (shift + bits) * 2 ^ bits + value) * 2 ^ shift + word % 2 ^ shift)
joined_replaces word shift bits value v =
    let high = word / 2 ^ (shift + bits) in
    let low : word % 2 ^ shift < 2 ^ shift = mod_below word (2 ^ shift) (pow_pos shift) in
    let new = (high * 2 ^ bits + value) * 2 ^ shift + word % 2 ^ shift in
    let upper : new / 2 ^ shift ≡ high * 2 ^ bits + value = shr_high (high * 2 ^ bits + value) shift (word % 2 ^ shift) low in
    record {
      value = omega (arith, ap (λ (n : ℕ). high * n) (pow-add 2 shift bits));
      back = ap (λ (n : ℕ). n % 2 ^ bits) upper ∙ mod_low high bits value v;
      below = mod_low (high * 2 ^ bits + value) shift (word % 2 ^ shift) low;
      above = sym (shr-shr new shift bits) ∙ ap (λ (n : ℕ). n / 2 ^ bits) upper ∙ shr_high high bits value v;
    }

-- as a sum of the three
pub sum_replaces : (word shift bits value : ℕ) → value < 2 ^ bits → Replaced word shift bits value (word % 2 ^ shift + value * 2 ^ shift + word / 2 ^ (shift + bits) * 2 ^ (shift + bits))
sum_replaces word shift bits value v = let joined = joined_replaces word shift bits value v in subst (Replaced word shift bits value) joined.value joined

-- it fits in a word
joined_fits : (word shift bits value rest : ℕ) → word < 2 ^ 64 → rest + (shift + bits) ≡ 64 → value < 2 ^ bits → (word / 2 ^ (shift + bits) * 2 ^ bits + value) * 2 ^ shift + word % 2 ^ shift < 2 ^ 64
joined_fits word shift bits value rest w e v =
    let high = word / 2 ^ (shift + bits) in
    let low : word % 2 ^ shift < 2 ^ shift = mod_below word (2 ^ shift) (pow_pos shift) in
    let high_below : high < 2 ^ rest = shr_below word rest (shift + bits) (subst (λ (n : ℕ). word < 2 ^ n) (sym e) w) in
    let upper : high * 2 ^ bits + value < 2 ^ bits * 2 ^ rest = mul-add-lt high (2 ^ bits) value (2 ^ rest) high_below v in
    let whole : (high * 2 ^ bits + value) * 2 ^ shift + word % 2 ^ shift < 2 ^ shift * (2 ^ bits * 2 ^ rest) = mul-add-lt (high * 2 ^ bits + value) (2 ^ shift) (word % 2 ^ shift) (2 ^ bits * 2 ^ rest) upper low in
    let all : 2 ^ shift * (2 ^ bits * 2 ^ rest) ≡ 2 ^ 64 =
    sym (pow-add 2 shift (bits + rest) ∙ ap (λ (n : ℕ). 2 ^ shift * n) (pow-add 2 bits rest)) ∙ ap (λ (n : ℕ). 2 ^ n) {y = 64} (omega arith) in
    omega arith

-- the field is taken out and the value put in, in shifts of 64 bits
pub put : (word shift bits value old : ℕ) → shift + bits ≤ 64 → value < 2 ^ bits → old < 2 ^ bits → old ≡ word / 2 ^ shift % 2 ^ bits → word - old * 2 ^ shift % 18446744073709551616 + value * 2 ^ shift % 18446744073709551616 ≡ (word / 2 ^ (shift + bits) * 2 ^ bits + value) * 2 ^ shift + word % 2 ^ shift
put word shift bits value old h v o e =
    let old_whole : old * 2 ^ shift % 18446744073709551616 ≡ old * 2 ^ shift = shl_whole old bits shift 64 o (omega arith) in
    let value_whole : value * 2 ^ shift % 18446744073709551616 ≡ value * 2 ^ shift = shl_whole value bits shift 64 v (omega arith) in
    let parts : word % 2 ^ (bits + shift) ≡ old * 2 ^ shift + word % 2 ^ shift = mod-pow-add word bits shift ∙ ap (λ (n : ℕ). n * 2 ^ shift + word % 2 ^ shift) (sym e) in
    let whole : word / 2 ^ (shift + bits) * 2 ^ (shift + bits) + word % 2 ^ (shift + bits) ≡ word = shr_split word (shift + bits) in
    let same : word % 2 ^ (bits + shift) ≡ word % 2 ^ (shift + bits) = ap (λ (n : ℕ). word % 2 ^ n) (omega arith) in
    omega (arith, ap (λ (n : ℕ). word / 2 ^ (shift + bits) * n) (pow-add 2 shift bits))

pub put_fits : (word shift bits value old : ℕ) → word < 2 ^ 64 → shift + bits ≤ 64 → value < 2 ^ bits → old < 2 ^ bits → old ≡ word / 2 ^ shift % 2 ^ bits → word - old * 2 ^ shift % 18446744073709551616 + value * 2 ^ shift % 18446744073709551616 < 2 ^ 64
put_fits word shift bits value old w h v o e =
    subst (λ (n : ℕ). n < 2 ^ 64) (sym (put word shift bits value old h v o e)) (joined_fits word shift bits value (64 - (shift + bits)) w (omega arith) v)

pub put_replaces : (word shift bits value old : ℕ) → shift + bits ≤ 64 → value < 2 ^ bits → old < 2 ^ bits → old ≡ word / 2 ^ shift % 2 ^ bits → Replaced word shift bits value (word - old * 2 ^ shift % 18446744073709551616 + value * 2 ^ shift % 18446744073709551616)
put_replaces word shift bits value old h v o e = subst (Replaced word shift bits value) (sym (put word shift bits value old h v o e)) (joined_replaces word shift bits value v)
