-- What the list registers tell together (IHI 0069, ICH_ELRSR_EL2 and ICH_EISR_EL2).
use Rattle.std.specs.Prelude.{ℕ, ◌+◌, ◌*◌, ◌&&◌, ◌||◌, not, is_some, List, [], ◌∷◌, Bool, true, false}
use Rattle.floor_words.specs.Words.{bit_of}
use Rattle.gic_lr.specs.declared.entry.LrState.{LrState}
use Rattle.gic_lr.specs.declared.entry.LrState.TheVariants.{Invalid}
use Rattle.gic_lr.specs.Entry.{unpacked}

-- a PE has at most so many list registers (IHI 0069, ICH_VTR_EL2.ListRegs)
abbrev pub max_list_registers : ℕ
max_list_registers = 16

-- the number whose bit n is 1 where the register of number n is so
abbrev pub bits_where : (ℕ → Bool) → List ℕ → ℕ
bits_where is_so [] = 0
bits_where is_so (word ∷ words) = bit_of (is_so word) + 2 * bits_where is_so words

-- State is 0
abbrev pub is_invalid : LrState → Bool
is_invalid Invalid = true
is_invalid state = false

-- a register is free: State 0, and HW 1 or EOI 0
abbrev pub is_empty : ℕ → Bool
is_empty word = is_invalid (unpacked word).state && (is_some (unpacked word).hw || not (unpacked word).eoi)

-- a register asks for an end of interrupt to be seen: State 0, HW 0 and EOI 1
abbrev pub has_ended : ℕ → Bool
has_ended word = is_invalid (unpacked word).state && not (is_some (unpacked word).hw) && (unpacked word).eoi
