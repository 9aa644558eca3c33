-- Registers that follow one another, and the accesses that they take (IHI 0069, "GIC memory-mapped register access").
use Rattle.std.specs.Prelude.{ℕ, ◌+◌, ◌-◌, ◌*◌, ◌%◌, ◌==◌, ◌&&◌, ◌||◌, Bool, nat_le, nat_lt, if◌then◌else◌, Option, Some, None}
use Rattle.gic_frame.specs.declared.bank.Access.{Access}
use Rattle.gic_frame.specs.declared.bank.Access.TheVariants.{Word, WordOrLowHalf, WordOrByte, Doubleword}
use Rattle.gic_frame.specs.declared.bank.Half.{Half}
use Rattle.gic_frame.specs.declared.bank.Half.TheVariants.{Low, High, Whole}
use Rattle.gic_frame.specs.declared.bank.Bank.{Bank}

-- the bytes of a register
abbrev pub width_of : Access → ℕ
width_of Word = 4
width_of WordOrLowHalf = 4
width_of WordOrByte = 4
width_of Doubleword = 8

-- a register takes an access of this size at this byte of it, if the access is aligned: a 32-bit register the size 4,
-- some also each byte or the lower two bytes; a 64-bit register the sizes 8 and 4
abbrev pub takes : Access → ℕ → ℕ → Bool
takes Word byte size = size == 4
takes WordOrLowHalf byte size = size == 4 || (size == 2 && byte == 0)
takes WordOrByte byte size = size == 4 || size == 1
takes Doubleword byte size = size == 8 || size == 4

-- the half that such an access is to: of a 64-bit register by size 4 the low or the high one, else the whole
abbrev pub half_of : Access → ℕ → ℕ → Half
half_of Doubleword byte size = if size == 4 then (if byte == 0 then Low else High) else Whole
half_of access byte size = Whole

-- the offset is in one of the registers
abbrev pub contains : Bank → ℕ → Bool
contains bank offset = nat_le bank.start offset && nat_lt offset (bank.start + bank.count * width_of bank.access)

-- the byte of its register that the offset is
abbrev pub byte_of : Bank → ℕ → ℕ
byte_of bank offset = (offset - bank.start) % width_of bank.access

-- the half that an access is to; none where it is not aligned to its size, or the register takes no such access
abbrev pub half_at : Bank → ℕ → ℕ → Option Half
half_at bank offset size =
    let byte = byte_of bank offset in
    if offset % size == 0 && takes bank.access byte size then Some (half_of bank.access byte size) else None
