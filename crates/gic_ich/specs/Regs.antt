-- How a PE's virtual CPU interface is built (IHI 0069, ICH_VTR_EL2).
use Rattle.std.specs.Prelude.{ℕ, ◌+◌, ◌-◌, ◌*◌, ◌^◌, List, take}
use Rattle.gic_ich.specs.declared.regs.IchRegs.{IchRegs}

-- the list registers that the PE has
abbrev pub listed_of : IchRegs → List ℕ
listed_of regs = take regs.n regs.lr

-- ICH_VTR of a PE with this many list registers: ListRegs [4:0] is one less, TDS at bit 19 and nV4 at bit 20 are 1, IDbits [25:23]
-- is 0, PREbits [28:26] and PRIbits [31:29] are 4
abbrev pub vtr_of : ℕ → ℕ
vtr_of n = (n - 1) + 2 ^ 19 + 2 ^ 20 + 4 * 2 ^ 26 + 4 * 2 ^ 29
