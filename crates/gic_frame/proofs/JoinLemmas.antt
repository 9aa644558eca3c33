-- Joining and cutting parts.
use Rattle.std.proofs.Common.{◌≡◌, ◌≤◌, ◌<◌, ◌+◌, ◌-◌, ◌*◌, ◌/◌, ◌%◌, ◌^◌, ◌⊎◌, ℕ, zero, suc, sym, ◌∙◌, ap, inl, inr, add_comm, arith}
use Rattle.std.proofs.Math.Nat.{suc-mul, zero-mul, mod-one, add-mul-mod_self_right, mul-le-mul_right, mul_assoc, mod-eq_of_lt}
use Rattle.std.proofs.Math.Pow.{field, pow_mono}
use Rattle.std.proofs.lemmas.Nat.{mod-pow-add, pow_pos, pow-add, mul-add-lt, div-mul-add}
use Rattle.floor_words.specs.Words.{Kind}
use Rattle.gic_frame.specs.Part.{part_bits}
use Rattle.gic_frame.specs.Parts.{part_in, part_at, joined, JoiningUndoesCutting}

next : (count bits : ℕ) → suc count * bits ≡ bits + count * bits
next count bits = suc-mul count bits ∙ add_comm (count * bits) bits

-- the parts into which a value is cut give its low bits
joined-part_in : (kind : Kind) (value count : ℕ) → joined kind (part_in kind value) count ≡ value % 2 ^ (count * part_bits kind)
joined-part_in kind value zero = sym (ap (λ bits. value % 2 ^ bits) (zero-mul (part_bits kind)) ∙ mod-one value)
joined-part_in kind value (suc count) =
    ap (λ low. low + part_at kind (part_in kind value count) count) (joined-part_in kind value count)
    ∙ add_comm (value % 2 ^ (count * part_bits kind)) (part_at kind (part_in kind value count) count)
    ∙ sym (ap (λ bits. value % 2 ^ bits) (next count (part_bits kind)) ∙ mod-pow-add value (part_bits kind) (count * part_bits kind))

-- a part that fits, put above a value below its place
pub with_part_below : (bits value part number : ℕ) → value < 2 ^ (number * bits) → part < 2 ^ bits → value + part * 2 ^ (number * bits) < 2 ^ (suc number * bits)
with_part_below bits value part number low small =
    let row : part * 2 ^ (number * bits) + value < 2 ^ (number * bits) * 2 ^ bits = mul-add-lt part (2 ^ (number * bits)) value (2 ^ bits) small low in
    let top : 2 ^ (suc number * bits) ≡ 2 ^ (number * bits) * 2 ^ bits = ap (λ n. 2 ^ n) (suc-mul number bits) ∙ pow-add 2 (number * bits) bits in
    omega arith

-- parts that fit give a value below their bits
joined_below : (kind : Kind) (part : ℕ → ℕ) (count : ℕ) → ((n : ℕ) → n < count → part n < 2 ^ part_bits kind) → joined kind part count < 2 ^ (count * part_bits kind)
joined_below kind part zero small = pow_pos (0 * part_bits kind)
joined_below kind part (suc count) small =
    with_part_below (part_bits kind) (joined kind part count) (part count) count (joined_below kind part count (λ n h. small n (omega arith))) (small count (omega arith))

-- a field below what is put above
field_below : (low high place width above : ℕ) → width + place ≤ above → (low + high * 2 ^ above) / 2 ^ place % 2 ^ width ≡ low / 2 ^ place % 2 ^ width
field_below low high place width above within =
    let split : 2 ^ above ≡ 2 ^ (above - (width + place)) * 2 ^ (width + place) =
    ap (λ bits. 2 ^ bits) (parted) ∙ pow-add 2 (above - (width + place)) (width + place) in
    let put : high * 2 ^ above ≡ high * 2 ^ (above - (width + place)) * 2 ^ (width + place) =
    ap (λ n. high * n) split ∙ sym (mul_assoc high (2 ^ (above - (width + place))) (2 ^ (width + place))) in
    let same : (low + high * 2 ^ above) % 2 ^ (width + place) ≡ low % 2 ^ (width + place) =
    ap (λ n. (low + n) % 2 ^ (width + place)) put ∙ add-mul-mod_self_right low (high * 2 ^ (above - (width + place))) (2 ^ (width + place)) in
    sym (field (low + high * 2 ^ above) width place) ∙ ap (λ n. n / 2 ^ place) same ∙ field low width place
  where
    parted : above ≡ above - (width + place) + (width + place)
    parted = omega arith

-- the field that is put highest
field_above : (low high above width : ℕ) → low < 2 ^ above → high < 2 ^ width → (low + high * 2 ^ above) / 2 ^ above % 2 ^ width ≡ high
field_above low high above width below fits =
    ap (λ n. n / 2 ^ above % 2 ^ width) (add_comm low (high * 2 ^ above))
    ∙ ap (λ n. n % 2 ^ width) (div-mul-add high (2 ^ above) low below)
    ∙ mod-eq_of_lt fits

-- what is put highest in a value is its part
pub part_in_put : (bits value part number : ℕ) → value < 2 ^ (number * bits) → part < 2 ^ bits → (value + part * 2 ^ (number * bits)) / 2 ^ (number * bits) % 2 ^ bits ≡ part
part_in_put bits value part number below fits = field_above value part (number * bits) bits below fits

-- a value below so many bits fits a word
pub fits_word : (value number bits : ℕ) → value < 2 ^ (suc number * bits) → number * bits + bits ≤ 64 → value < 2 ^ 64
fits_word value number bits below within =
    let end : suc number * bits ≤ 64 = rw (suc-mul number bits) within in
    let top : 2 ^ (suc number * bits) ≤ 2 ^ 64 = pow_mono {j = 64} end in
    omega arith

less_or_same : (a b : ℕ) → a < suc b → (a < b) ⊎ (a ≡ b)
less_or_same a b h = grind arith

-- a value that is joined is cut into its parts
part_in-joined : (kind : Kind) (part : ℕ → ℕ) (count number : ℕ) → ((n : ℕ) → n < count → part n < 2 ^ part_bits kind) → number < count → part_in kind (joined kind part count) number ≡ part number
part_in-joined kind part zero number small within = absurd (omega arith)
part_in-joined kind part (suc count) number small within = by_order (part_in-joined kind part count number (λ n h. small n (omega arith))) (less_or_same number count within)
  where
    by_order : (number < count → part_in kind (joined kind part count) number ≡ part number) → (number < count) ⊎ (number ≡ count) → part_in kind (joined kind part (suc count)) number ≡ part number
    by_order before (inl lower) =
        let rows : suc number * part_bits kind ≤ count * part_bits kind = mul-le-mul_right (part_bits kind) lower in
        let below : part_bits kind + number * part_bits kind ≤ count * part_bits kind = rw (next number (part_bits kind)) at rows in
        field_below (joined kind part count) (part count) (number * part_bits kind) (part_bits kind) (count * part_bits kind) below ∙ before lower
    by_order before (inr is) =
        rw is (field_above (joined kind part count) (part count) (count * part_bits kind) (part_bits kind) (joined_below kind part count (λ n h. small n (omega arith))) (small count (omega arith)))

joined_back : (kind : Kind) (value count : ℕ) → value < 2 ^ (count * part_bits kind) → joined kind (part_in kind value) count ≡ value
joined_back kind value count fits = joined-part_in kind value count ∙ mod-eq_of_lt fits

pub joining_undoes_cutting : JoiningUndoesCutting
joining_undoes_cutting = record { joined_back = joined_back; cut_back = part_in-joined }
