-- Bits and fields of numbers, by the number of the lowest bit.
use Rattle.std.specs.Prelude.{ℕ, ◌/◌, ◌%◌, ◌^◌, ◌==◌, Bool, true, false}
use Rattle.std.specs.Int.{bit_at}

-- a flag as a bit
abbrev pub bit_of : Bool → ℕ
bit_of false = 0
bit_of true = 1

-- the bit at this place of a value is 1
abbrev pub has_bit : ℕ → ℕ → Bool
has_bit value place = bit_at value place == 1

-- the field of a value from this place on, of so many bits
abbrev pub field_at : ℕ → ℕ → ℕ → ℕ
field_at value place width = value / 2 ^ place % 2 ^ width
