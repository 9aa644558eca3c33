-- Masks and shifts of fields.
use Rattle.std.proofs.Common.{ℕ, ◌≡◌, ◌≤◌, ◌<◌, ◌+◌, ◌-◌, ◌*◌, ◌/◌, ◌^◌, bit_and, ap, ◌∙◌, arith}
use Rattle.std.proofs.Math.Nat.{mul-lt-mul_of_pos_right}
use Rattle.std.proofs.Math.Pow.{pow_mono}
use Rattle.std.proofs.lemmas.Nat.{and_mask, pow_pos, pow-add}
use Rattle.std.proofs.lemmas.Nat.Bits.{ones_shr}
use Rattle.gic_bits.specs.Bits.{field_at}

-- the low bits of a word of 64 bits
low_ones : (width : ℕ) → width ≤ 64 → 18446744073709551615 / 2 ^ (64 - width) ≡ 2 ^ width - 1
low_ones width h =
    let back : 64 - (64 - width) ≡ width = omega arith in
    ones_shr 64 (64 - width) (omega arith) ∙ ap (λ n. 2 ^ n - 1) back

pub masked : (word place width : ℕ) → width ≤ 64 → bit_and (word / 2 ^ place) (18446744073709551615 / 2 ^ (64 - width)) ≡ field_at word place width
masked word place width h = ap (λ mask. bit_and (word / 2 ^ place) mask) (low_ones width h) ∙ and_mask (word / 2 ^ place) width

-- a field's value that is put at its place fits the word
pub put_fits : (value place width : ℕ) → place + width ≤ 64 → value < 2 ^ width → value * 2 ^ place < 2 ^ 64
put_fits value place width within fits =
    let above : value * 2 ^ place < 2 ^ width * 2 ^ place = mul-lt-mul_of_pos_right fits (pow_pos place) in
    let top : 2 ^ (width + place) ≤ 2 ^ 64 = pow_mono {j = 64} (omega arith) in
    let joined : 2 ^ (width + place) ≡ 2 ^ width * 2 ^ place = pow-add 2 width place in
    omega arith

pub masked_bound : (word place width : ℕ) → width ≤ 64 → bit_and (word / 2 ^ place) (18446744073709551615 / 2 ^ (64 - width)) < 2 ^ width
masked_bound word place width h =
    let values : 0 < 2 ^ width = pow_pos width in
    rw (masked word place width h) (omega arith)
