-- The record of a CPU interface as registers hold it (IHI 0069, ICH_VMCR_EL2, ICH_AP0R0_EL2 and ICH_AP1R0_EL2).
use Rattle.std.specs.Prelude.{ℕ, ◌≡◌, ◌+◌, ◌*◌, ◌/◌, ◌^◌, Bool}
use Rattle.gic_lr.specs.Words.{bit_of, has_bit, field_at}
use Rattle.gic_prio.specs.declared.cpu.CpuRec.{CpuRec}
use Rattle.gic_ich.specs.declared.regs.IchRegs.{IchRegs}

-- VENG0 and VENG1, the two group enables, by the numbers of their bits
abbrev pub veng0 : ℕ
veng0 = 0

abbrev pub veng1 : ℕ
veng1 = 1

-- the fields of a CPU record in ICH_VMCR: VENG0 at bit 0, VENG1 at 1, VCBPR at 4, VEOIM at 9, VBPR1 [20:18], VBPR0 [23:21]
-- and VPMR [31:24]
abbrev pub vmcr_fields : CpuRec → ℕ
vmcr_fields cpu = bit_of cpu.en0 + bit_of cpu.en1 * 2 ^ 1 + bit_of cpu.cbpr * 2 ^ 4 + bit_of cpu.eoimode * 2 ^ 9 + cpu.bpr1 * 2 ^ 18 + cpu.bpr0 * 2 ^ 21 + cpu.pmr * 2 ^ 24

-- VFIQEn, which is always 1
abbrev pub vfiqen : ℕ
vfiqen = 2 ^ 3

-- a CPU record as ICH_VMCR holds it
abbrev pub vmcr_of : CpuRec → ℕ
vmcr_of cpu = vmcr_fields cpu + vfiqen

-- the bits of ICH_VMCR that belong to no field of a CPU record: [3:2], [8:5] and [17:10]
abbrev pub other_bits : ℕ → ℕ
other_bits vmcr = field_at vmcr 2 2 * 2 ^ 2 + field_at vmcr 5 4 * 2 ^ 5 + field_at vmcr 10 8 * 2 ^ 10

-- ICH_VMCR with the fields of another record, and all other bits as they are
abbrev pub vmcr_with : ℕ → CpuRec → ℕ
vmcr_with vmcr cpu = vmcr_fields cpu + other_bits vmcr

-- the CPU record that the registers hold, with EnableLPIs as given
abbrev pub cpu_of : IchRegs → Bool → CpuRec
cpu_of regs lpis =
    record {
      pmr = regs.vmcr / 2 ^ 24;
      bpr0 = field_at regs.vmcr 21 3;
      bpr1 = field_at regs.vmcr 18 3;
      cbpr = has_bit regs.vmcr 4;
      eoimode = has_bit regs.vmcr 9;
      en0 = has_bit regs.vmcr veng0;
      en1 = has_bit regs.vmcr veng1;
      lpis = lpis;
      ap0 = regs.ap0r;
      ap1 = regs.ap1r;
    }

-- registers with this ICH_VMCR, and with the active levels of a CPU record, hold that record
abbrev pub GivesBack : CpuRec → ℕ → Type 0
GivesBack cpu vmcr = (regs : IchRegs) → regs.vmcr ≡ vmcr → regs.ap0r ≡ cpu.ap0 → regs.ap1r ≡ cpu.ap1 → cpu_of regs cpu.lpis ≡ cpu
