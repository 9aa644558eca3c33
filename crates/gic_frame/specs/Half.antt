-- The halves of a 64-bit register (IHI 0069, "GIC memory-mapped register access").
use Rattle.std.specs.Prelude.{ℕ, ◌+◌, ◌*◌, ◌/◌, ◌%◌, ◌^◌}
use Rattle.gic_frame.specs.declared.bank.Half.{Half}
use Rattle.gic_frame.specs.declared.bank.Half.TheVariants.{Low, High, Whole}

-- what an access to a half reads of the register's value
abbrev pub half_read : Half → ℕ → ℕ
half_read Low value = value % 2 ^ 32
half_read High value = value / 2 ^ 32
half_read Whole value = value

-- the whole value that a write of a half writes: the other half is as stored
abbrev pub half_written : Half → ℕ → ℕ → ℕ
half_written Low stored value = stored / 2 ^ 32 * 2 ^ 32 + value
half_written High stored value = value * 2 ^ 32 + stored % 2 ^ 32
half_written Whole stored value = value

-- the half beside one
abbrev pub other_half : Half → Half
other_half Low = High
other_half High = Low
other_half Whole = Whole

-- a value below this fits an access to the half
abbrev pub half_limit : Half → ℕ
half_limit Low = 2 ^ 32
half_limit High = 2 ^ 32
half_limit Whole = 2 ^ 64
