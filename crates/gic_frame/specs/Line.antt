-- The lines of a register map, and what an access is to.
use Rattle.std.specs.Prelude.{ℕ, ◌+◌, ◌-◌, ◌*◌, ◌%◌, ◌==◌, ◌&&◌, Bool, nat_le, List, [], ◌∷◌, find, Option, Some, None}
use Rattle.gic_frame.specs.declared.bank.Bank.{Bank}
use Rattle.gic_frame.specs.declared.bank.Half.{Half}
use Rattle.gic_frame.specs.declared.line.Line.{Line}
use Rattle.gic_frame.specs.declared.line.Line.TheVariants.{Register, Interrupts}
use Rattle.gic_frame.specs.declared.line.Found.{Found}
use Rattle.gic_frame.specs.declared.line.Found.TheVariants.{InRegister, InParts}
use Rattle.gic_frame.specs.Bank.{width_of, contains, half_at}
use Rattle.gic_frame.specs.Part.{parts_in, parts_bank}

-- the registers of a line: one, or as many as the parts of its interrupts fill
abbrev pub bank_of : {R : Type 0} → Line R → Bank
bank_of (Register start access reg) = record { start = start; count = 1; access = access }
bank_of (Interrupts start kind first count) = parts_bank start kind count

-- the line that has a register at an offset
abbrev pub line_at : {R : Type 0} → List (Line R) → ℕ → Option (Line R)
line_at lines offset = find (λ line. contains (bank_of line) offset) lines

-- what an access is to, so many bytes after the start of a line: the register, or the parts in its bytes
abbrev pub found_in : {R : Type 0} → Line R → ℕ → ℕ → Half → Found R
found_in (Register start access reg) byte size half = InRegister reg half
found_in (Interrupts start kind first count) byte size half = InParts kind (first + parts_in kind byte) (parts_in kind size) half

-- what an access to the registers of a line is to; none where they take no such access
abbrev pub access_at : {R : Type 0} → Line R → ℕ → ℕ → Option (Found R)
access_at {R} line offset size = of_half (half_at (bank_of line) offset size)
  where
    of_half : Option Half → Option (Found R)
    of_half (Some half) = Some (found_in line (offset - (bank_of line).start) size half)
    of_half None = None

-- what an access is to in a register map; none where no line has a register at the offset, or it takes no such access
abbrev pub found_at : {R : Type 0} → List (Line R) → ℕ → ℕ → Option (Found R)
found_at {R} lines offset size = of_line (line_at lines offset)
  where
    of_line : Option (Line R) → Option (Found R)
    of_line (Some line) = access_at line offset size
    of_line None = None

-- from an offset to the end of a frame: each line begins where the one before it has ended or later, its registers at
-- multiples of their width
abbrev pub is_in_order : {R : Type 0} → ℕ → ℕ → List (Line R) → Bool
is_in_order offset end [] = nat_le offset end
is_in_order offset end (line ∷ lines) =
    let bank = bank_of line in
    let width = width_of bank.access in
    nat_le offset bank.start && bank.start % width == 0 && is_in_order (bank.start + bank.count * width) end lines
