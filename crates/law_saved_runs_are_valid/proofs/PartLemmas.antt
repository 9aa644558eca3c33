-- A write of a part of a word of memory leaves a word.
use Rattle.std.proofs.Common.{◌≡◌, ℕ, zero, suc, ◌+◌, ◌*◌, ◌/◌, ◌%◌, ◌^◌, ◌<◌, ◌≤◌, IsTrue, Some, arith}
use Rattle.std.proofs.lemmas.Grind.{common_steps}
use Rattle.eager_rest.specs.LawSavesGoOn.RunsSplit.GicIdeal.IdealGuests.Registers.{Part, is_size, part_of, inserted}
use Rattle.law_saved_runs_are_valid.proofs.RangeLemmas.{IsDoubleword}

-- the word with bytes replaced, from a byte of it on
new_word : ℕ → ℕ → ℕ → ℕ → ℕ
new_word word at size value = word % 2 ^ (8 * at) + value * 2 ^ (8 * at) + word / 2 ^ (8 * at + 8 * size) * 2 ^ (8 * at + 8 * size)

record IsAccess (address size : ℕ) (part : Part) : Type 0 where
  shift : part.shift ≡ 8 * (address % 8)
  bits : part.bits ≡ 8 * size
  in_word : address % 8 + size ≤ 8

access : (address size ram : ℕ) (part : Part) → IsTrue (is_size size) → part_of address size ram ≡ Some part → IsAccess address size part
access address size ram part s e = grind (arith, common_steps)

module _ (word value : ℕ) (fits : word < 2 ^ 64) where
  byte_fits : (at : ℕ) → at + 1 ≤ 8 → value < 2 ^ (8 * 1) → IsDoubleword (new_word word at 1 value)
  unfolding new_word
  byte_fits zero in_word small = omega (arith, fits, small)
  byte_fits (suc zero) in_word small = omega (arith, fits, small)
  byte_fits (suc (suc zero)) in_word small = omega (arith, fits, small)
  byte_fits (suc (suc (suc zero))) in_word small = omega (arith, fits, small)
  byte_fits (suc (suc (suc (suc zero)))) in_word small = omega (arith, fits, small)
  byte_fits (suc (suc (suc (suc (suc zero))))) in_word small = omega (arith, fits, small)
  byte_fits (suc (suc (suc (suc (suc (suc zero)))))) in_word small = omega (arith, fits, small)
  byte_fits (suc (suc (suc (suc (suc (suc (suc zero))))))) in_word small = omega (arith, fits, small)
  byte_fits (suc (suc (suc (suc (suc (suc (suc (suc at)))))))) in_word small = absurd (omega (arith, in_word))

  half_fits : (at : ℕ) → at + 2 ≤ 8 → value < 2 ^ (8 * 2) → IsDoubleword (new_word word at 2 value)
  unfolding new_word
  half_fits zero in_word small = omega (arith, fits, small)
  half_fits (suc zero) in_word small = omega (arith, fits, small)
  half_fits (suc (suc zero)) in_word small = omega (arith, fits, small)
  half_fits (suc (suc (suc zero))) in_word small = omega (arith, fits, small)
  half_fits (suc (suc (suc (suc zero)))) in_word small = omega (arith, fits, small)
  half_fits (suc (suc (suc (suc (suc zero))))) in_word small = omega (arith, fits, small)
  half_fits (suc (suc (suc (suc (suc (suc zero)))))) in_word small = omega (arith, fits, small)
  half_fits (suc (suc (suc (suc (suc (suc (suc at))))))) in_word small = absurd (omega (arith, in_word))

  single_fits : (at : ℕ) → at + 4 ≤ 8 → value < 2 ^ (8 * 4) → IsDoubleword (new_word word at 4 value)
  unfolding new_word
  single_fits zero in_word small = omega (arith, fits, small)
  single_fits (suc zero) in_word small = omega (arith, fits, small)
  single_fits (suc (suc zero)) in_word small = omega (arith, fits, small)
  single_fits (suc (suc (suc zero))) in_word small = omega (arith, fits, small)
  single_fits (suc (suc (suc (suc zero)))) in_word small = omega (arith, fits, small)
  single_fits (suc (suc (suc (suc (suc at))))) in_word small = absurd (omega (arith, in_word))

  whole_fits : (at : ℕ) → at + 8 ≤ 8 → value < 2 ^ (8 * 8) → IsDoubleword (new_word word at 8 value)
  unfolding new_word
  whole_fits zero in_word small = omega (arith, fits, small)
  whole_fits (suc at) in_word small = absurd (omega (arith, in_word))

  word_fits : (at size : ℕ) → IsTrue (is_size size) → at + size ≤ 8 → value < 2 ^ (8 * size) → IsDoubleword (new_word word at size value)
  word_fits at (suc zero) sized in_word small = byte_fits at in_word small
  word_fits at (suc (suc zero)) sized in_word small = half_fits at in_word small
  word_fits at (suc (suc (suc (suc zero)))) sized in_word small = single_fits at in_word small
  word_fits at (suc (suc (suc (suc (suc (suc (suc (suc zero)))))))) sized in_word small = whole_fits at in_word small
  word_fits at (suc (suc (suc (suc (suc (suc (suc (suc (suc more))))))))) sized in_word small = absurd (omega (arith, in_word))
  word_fits at size sized in_word small = absurd (cc)

  -- the part of an access
  pub inserted_fits : (address size ram : ℕ) (part : Part) → IsTrue (is_size size) → value < 2 ^ (8 * size) → part_of address size ram ≡ Some part → IsDoubleword (inserted word part value)
  unfolding new_word
  inserted_fits address size ram part sized small is =
      let at = access address size ram part sized is in
      rw (at.shift, at.bits) (word_fits (address % 8) size sized at.in_word small)
