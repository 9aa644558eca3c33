-- The value of an access to registers that have a part for each interrupt, as the parts of its interrupts: the first one's is in
-- the lowest bits (IHI 0069, "The Distributor register map").
use Rattle.std.specs.Prelude.{◌≡◌, ℕ, zero, suc, ◌+◌, ◌*◌, ◌^◌, ◌<◌}
use Rattle.floor_words.specs.Words.{field_at, Kind}
use Rattle.gic_frame.specs.Part.{part_bits}

-- the part of an interrupt of the access, by its number from 0
abbrev pub part_in : Kind → ℕ → ℕ → ℕ
part_in kind value number = field_at value (number * part_bits kind) (part_bits kind)

-- the value that has this part of an interrupt, and 0 for all others
abbrev pub part_at : Kind → ℕ → ℕ → ℕ
part_at kind part number = part * 2 ^ (number * part_bits kind)

-- the value that is joined from the parts of so many interrupts
abbrev pub joined : Kind → (ℕ → ℕ) → ℕ → ℕ
joined kind part zero = 0
joined kind part (suc count) = joined kind part count + part_at kind (part count) count

-- joining undoes cutting, and cutting undoes joining
pub record JoiningUndoesCutting : Type 0 where
  pub joined_back : (kind : Kind) (value count : ℕ) → value < 2 ^ (count * part_bits kind) → joined kind (part_in kind value) count ≡ value
  pub cut_back : (kind : Kind) (part : ℕ → ℕ) (count number : ℕ) → ((n : ℕ) → n < count → part n < 2 ^ part_bits kind) → number < count → part_in kind (joined kind part count) number ≡ part number
