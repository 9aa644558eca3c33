-- The interrupts whose parts are in the registers of a line.
use Rattle.std.proofs.Common.{◌≡◌, ◌≤◌, ◌<◌, ◌+◌, ◌-◌, ◌*◌, ◌/◌, ◌%◌, ◌==◌, ◌&&◌, ◌||◌, ◌⊎◌, ℕ, Bool, true, false, nat_le, nat_lt, IsTrue, Some, None, if◌then◌else◌, refl, inl, inr, arith}
use Rattle.floor_words.specs.Words.{Kind, SetEnable, ClearEnable, SetPending, ClearPending, SetActive, ClearActive, Priority, Config, Routing}
use Rattle.floor_words.specs.GicBase.declared.operation.Kind.TheVariants.{Group}
use Rattle.gic_frame.specs.declared.bank.Half.{Half}
use Rattle.gic_frame.specs.declared.bank.Half.TheVariants.{Low, High, Whole}
use Rattle.gic_frame.specs.Bank.{width_of, contains, half_at}
use Rattle.gic_frame.specs.Part.{part_bits, parts_in, access_of, parts_bank, AreWithin}
use Rattle.gic_frame.proofs.TestLemmas.{left, right, either, same, at_most, under, is_same, chosen}

-- the bytes of a register of a kind
abbrev pub width : Kind → ℕ
width kind = width_of (access_of kind)

-- the parts of so many interrupts fill their registers, which begin at a multiple of their width
abbrev pub is_full : Kind → ℕ → ℕ → Bool
is_full kind start count = start % width kind == 0 && count * part_bits kind % (8 * width kind) == 0

-- words of one or two bits a part, or of bytes
in_words : (bits first count start offset size : ℕ) → (bits ≡ 1) ⊎ ((bits ≡ 2) ⊎ (bits ≡ 8)) → size ≡ 4 → start % 4 ≡ 0 → start ≤ offset → offset < start + count * bits / 8 / 4 * 4 → offset % size ≡ 0 → AreWithin first (first + count) (first + (offset - start) * 8 / bits) (size * 8 / bits)
in_words bits first count start offset size (inl b) s aligned from to whole = rw (b, s) (one b)
  where
    one : bits ≡ 1 → AreWithin first (first + count) (first + (offset - start) * 8 / 1) (4 * 8 / 1)
    one b = let below : offset < start + count * 1 / 8 / 4 * 4 = rw b at to in let word : offset % 4 ≡ 0 = rw s at whole in record { some = omega arith; few = omega arith; from = omega arith; below = omega arith }
in_words bits first count start offset size (inr (inl b)) s aligned from to whole = rw (b, s) (two b)
  where
    two : bits ≡ 2 → AreWithin first (first + count) (first + (offset - start) * 8 / 2) (4 * 8 / 2)
    two b = let below : offset < start + count * 2 / 8 / 4 * 4 = rw b at to in let word : offset % 4 ≡ 0 = rw s at whole in record { some = omega arith; few = omega arith; from = omega arith; below = omega arith }
in_words bits first count start offset size (inr (inr b)) s aligned from to whole = rw (b, s) (four b)
  where
    four : bits ≡ 8 → AreWithin first (first + count) (first + (offset - start) * 8 / 8) (4 * 8 / 8)
    four b = let below : offset < start + count * 8 / 8 / 4 * 4 = rw b at to in let word : offset % 4 ≡ 0 = rw s at whole in record { some = omega arith; few = omega arith; from = omega arith; below = omega arith }

in_byte : (first count start offset size : ℕ) → size ≡ 1 → start ≤ offset → offset < start + count * 8 / 8 / 4 * 4 → AreWithin first (first + count) (first + (offset - start) * 8 / 8) (size * 8 / 8)
in_byte first count start offset size s from to = rw s (record { some = omega arith; few = omega arith; from = omega arith; below = omega arith })

in_doubleword : (first count start offset size : ℕ) → size ≡ 8 → start ≤ offset → offset < start + count * 64 / 8 / 8 * 8 → AreWithin first (first + count) (first + (offset - start) * 8 / 64) (size * 8 / 64)
in_doubleword first count start offset size s from to = rw s (record { some = omega arith; few = omega arith; from = omega arith; below = omega arith })

-- an access to a whole IROUTER has size 8
whole_size : (aligned : Bool) (byte size : ℕ) → (if aligned && (size == 8 || size == 4) then Some (if size == 4 then (if byte == 0 then Low else High) else Whole) else None) ≡ Some Whole → size ≡ 8
whole_size aligned byte size h = by_four (size == 4) refl
  where
    by_byte : (zero : Bool) → (if zero then Low else High) ≡ Whole → ⊥
    by_byte true e = cc
    by_byte false e = cc

    by_taken : (taken : Bool) → (if taken then Some (if byte == 0 then Low else High) else None) ≡ Some Whole → ⊥
    by_taken true e = by_byte (byte == 0) (cc)
    by_taken false e = cc

    by_four : (four : Bool) → (size == 4) ≡ four → size ≡ 8
    by_four true e = absurd (by_taken (aligned && (size == 8 || true)) (rw e at h))
    by_four false e = eight (either size 8 4 (right _ _ (chosen _ _ _ h))) e
      where
        eight : (size ≡ 8) ⊎ (size ≡ 4) → (size == 4) ≡ false → size ≡ 8
        eight (inl s) e = s
        eight (inr s) e = absurd (not_four (is_same size 4 s) e)
          where
            not_four : (size == 4) ≡ true → (size == 4) ≡ false → ⊥
            not_four t f = cc

words : (bits first count start offset size : ℕ) → (bits ≡ 1) ⊎ ((bits ≡ 2) ⊎ (bits ≡ 8)) → IsTrue (start % 4 == 0) → IsTrue (nat_le start offset && nat_lt offset (start + count * bits / 8 / 4 * 4)) → IsTrue (offset % size == 0 && size == 4) → AreWithin first (first + count) (first + (offset - start) * 8 / bits) (size * 8 / bits)
words bits first count start offset size b aligned here taken =
    in_words bits first count start offset size b (same size 4 (right _ _ taken)) (same _ 0 aligned) (at_most _ _ (left _ _ here)) (under _ _ (right _ _ here)) (same _ 0 (left _ _ taken))

bytes : (first count start offset size : ℕ) → IsTrue (start % 4 == 0) → IsTrue (nat_le start offset && nat_lt offset (start + count * 8 / 8 / 4 * 4)) → IsTrue (offset % size == 0 && (size == 4 || size == 1)) → AreWithin first (first + count) (first + (offset - start) * 8 / 8) (size * 8 / 8)
bytes first count start offset size aligned here taken = by_size (either size 4 1 (right _ _ taken))
  where
    by_size : (size ≡ 4) ⊎ (size ≡ 1) → AreWithin first (first + count) (first + (offset - start) * 8 / 8) (size * 8 / 8)
    by_size (inl s) = in_words 8 first count start offset size (inr (inr refl)) s (same _ 0 aligned) (at_most _ _ (left _ _ here)) (under _ _ (right _ _ here)) (same _ 0 (left _ _ taken))
    by_size (inr s) = in_byte first count start offset size s (at_most _ _ (left _ _ here)) (under _ _ (right _ _ here))

-- an access that is to whole parts names interrupts of the line
pub whole_parts : (kind : Kind) (first count start offset size : ℕ) → IsTrue (is_full kind start count) → IsTrue (contains (parts_bank start kind count) offset) → half_at (parts_bank start kind count) offset size ≡ Some Whole → AreWithin first (first + count) (first + parts_in kind (offset - start)) (parts_in kind size)
whole_parts Group first count start offset size full here e = words 1 first count start offset size (inl refl) (left _ _ full) here (chosen _ _ _ e)
whole_parts SetEnable first count start offset size full here e = words 1 first count start offset size (inl refl) (left _ _ full) here (chosen _ _ _ e)
whole_parts ClearEnable first count start offset size full here e = words 1 first count start offset size (inl refl) (left _ _ full) here (chosen _ _ _ e)
whole_parts SetPending first count start offset size full here e = words 1 first count start offset size (inl refl) (left _ _ full) here (chosen _ _ _ e)
whole_parts ClearPending first count start offset size full here e = words 1 first count start offset size (inl refl) (left _ _ full) here (chosen _ _ _ e)
whole_parts SetActive first count start offset size full here e = words 1 first count start offset size (inl refl) (left _ _ full) here (chosen _ _ _ e)
whole_parts ClearActive first count start offset size full here e = words 1 first count start offset size (inl refl) (left _ _ full) here (chosen _ _ _ e)
whole_parts Config first count start offset size full here e = words 2 first count start offset size (inr (inl refl)) (left _ _ full) here (chosen _ _ _ e)
whole_parts Priority first count start offset size full here e = bytes first count start offset size (left _ _ full) here (chosen _ _ _ e)
whole_parts Routing first count start offset size full here e = in_doubleword first count start offset size (whole_size (offset % size == 0) ((offset - start) % 8) size e) (at_most _ _ (left _ _ here)) (under _ _ (right _ _ here))

one_within : (bits width first count start offset : ℕ) → (bits ≡ 1) × (width ≡ 4) ⊎ ((bits ≡ 2) × (width ≡ 4) ⊎ ((bits ≡ 8) × (width ≡ 4) ⊎ (bits ≡ 64) × (width ≡ 8))) → IsTrue (nat_le start offset && nat_lt offset (start + count * bits / 8 / width * width)) → AreWithin first (first + count) (first + (offset - start) * 8 / bits) 1
one_within bits width first count start offset b here = by_bits b (at_most _ _ (left _ _ here)) (under _ _ (right _ _ here))
  where
    by_bits : (bits ≡ 1) × (width ≡ 4) ⊎ ((bits ≡ 2) × (width ≡ 4) ⊎ ((bits ≡ 8) × (width ≡ 4) ⊎ (bits ≡ 64) × (width ≡ 8))) → start ≤ offset → offset < start + count * bits / 8 / width * width → AreWithin first (first + count) (first + (offset - start) * 8 / bits) 1
    by_bits (inl (b, w)) from to = rw b (let t : offset < start + count * 1 / 8 / 4 * 4 = rw (b, w) at to in record { some = omega arith; few = omega arith; from = omega arith; below = omega arith })
    by_bits (inr (inl (b, w))) from to = rw b (let t : offset < start + count * 2 / 8 / 4 * 4 = rw (b, w) at to in record { some = omega arith; few = omega arith; from = omega arith; below = omega arith })
    by_bits (inr (inr (inl (b, w)))) from to = rw b (let t : offset < start + count * 8 / 8 / 4 * 4 = rw (b, w) at to in record { some = omega arith; few = omega arith; from = omega arith; below = omega arith })
    by_bits (inr (inr (inr (b, w)))) from to = rw b (let t : offset < start + count * 64 / 8 / 8 * 8 = rw (b, w) at to in record { some = omega arith; few = omega arith; from = omega arith; below = omega arith })

only : (test : Bool) (half : Half) → (if test then Some Whole else None) ≡ Some half → half ≡ Whole
only true half e = cc
only false half e = absurd (cc)

-- only an IROUTER has halves
pub halves_of_routers : (kind : Kind) (start count offset size : ℕ) (half : Half) → half_at (parts_bank start kind count) offset size ≡ Some half → (half ≡ Whole) ⊎ (kind ≡ Routing)
halves_of_routers Group start count offset size half e = inl (only _ half e)
halves_of_routers SetEnable start count offset size half e = inl (only _ half e)
halves_of_routers ClearEnable start count offset size half e = inl (only _ half e)
halves_of_routers SetPending start count offset size half e = inl (only _ half e)
halves_of_routers ClearPending start count offset size half e = inl (only _ half e)
halves_of_routers SetActive start count offset size half e = inl (only _ half e)
halves_of_routers ClearActive start count offset size half e = inl (only _ half e)
halves_of_routers Priority start count offset size half e = inl (only _ half e)
halves_of_routers Config start count offset size half e = inl (only _ half e)
halves_of_routers Routing start count offset size half e = inr refl

-- how wide the parts of a kind and their registers are
pub widths : (kind : Kind) → (part_bits kind ≡ 1) × (width kind ≡ 4) ⊎ ((part_bits kind ≡ 2) × (width kind ≡ 4) ⊎ ((part_bits kind ≡ 8) × (width kind ≡ 4) ⊎ (part_bits kind ≡ 64) × (width kind ≡ 8)))
widths Group = inl (refl, refl)
widths SetEnable = inl (refl, refl)
widths ClearEnable = inl (refl, refl)
widths SetPending = inl (refl, refl)
widths ClearPending = inl (refl, refl)
widths SetActive = inl (refl, refl)
widths ClearActive = inl (refl, refl)
widths Config = inr (inl (refl, refl))
widths Priority = inr (inr (inl (refl, refl)))
widths Routing = inr (inr (inr (refl, refl)))

-- interrupts within a range are within a wider one
pub widened : (low end wider_low wider_end first count : ℕ) → wider_low ≤ low → end ≤ wider_end → AreWithin low end first count → AreWithin wider_low wider_end first count
widened low end wider_low wider_end first count from to within = record { some = within.some; few = within.few; from = omega (arith, within.from); below = omega (arith, within.below) }

-- an access to a half of a part names an interrupt of the line
pub half_part : (kind : Kind) (first count start offset : ℕ) → IsTrue (contains (parts_bank start kind count) offset) → AreWithin first (first + count) (first + parts_in kind (offset - start)) 1
half_part kind first count start offset here = one_within (part_bits kind) (width kind) first count start offset (widths kind) here
