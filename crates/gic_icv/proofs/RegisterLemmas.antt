-- The registers and the record that they hold.
use Rattle.std.proofs.Common.{◌≡◌, ◌<◌, ◌/◌, ◌%◌, ◌^◌, refl, sym, ap, List, Some, None, unwrap_or, IsTrue, arith}
use Rattle.gic_ich.specs.Words.{bit_of, has_bit, IccReg, Iar0, Iar1, Hppir0, Hppir1, Eoir0, Eoir1, Dir, Sgi1r, is_readable}
use Rattle.gic_ich.specs.GicPrio.declared.cpu.CpuRec.{CpuRec}
use Rattle.gic_ich.specs.declared.regs.IchRegs.{IchRegs}
use Rattle.gic_ich.specs.Vmcr.{vmcr_with}
use Rattle.gic_ich.specs.GicPrio.declared.candidate.Candidate.{Candidate}
use Rattle.gic_ich.specs.GicPrio.Registers.{plain_read}
use Rattle.gic_ich.specs.GicPrio.Access.{answer_of}
use Rattle.gic_icv.specs.Registers.{cpu_in, with_cpu, registers_after}
use Rattle.gic_ich.proofs.GicBits.BitLemmas.{bit_back}

-- the record that ICH_VMCR holds, put there again, leaves it as it is
same_vmcr : (regs : IchRegs) → regs.vmcr < 2 ^ 32 → vmcr_with regs.vmcr (cpu_in regs) ≡ regs.vmcr
same_vmcr regs fits =
    let v = regs.vmcr in
    let en0 : bit_of (has_bit v 0) ≡ v / 2 ^ 0 % 2 = bit_back (v / 2 ^ 0 % 2) (omega arith) in
    let en1 : bit_of (has_bit v 1) ≡ v / 2 ^ 1 % 2 = bit_back (v / 2 ^ 1 % 2) (omega arith) in
    let cbpr : bit_of (has_bit v 4) ≡ v / 2 ^ 4 % 2 = bit_back (v / 2 ^ 4 % 2) (omega arith) in
    let eoim : bit_of (has_bit v 9) ≡ v / 2 ^ 9 % 2 = bit_back (v / 2 ^ 9 % 2) (omega arith) in
    omega (arith, fits, en0, en1, cbpr, eoim)

pub same_registers : (regs : IchRegs) → regs.vmcr < 2 ^ 32 → with_cpu (cpu_in regs) regs ≡ regs
same_registers regs fits = ap (λ v. record regs { vmcr = v }) (same_vmcr regs fits)

-- a read of a register that stands for the record alone reads it, and changes nothing
pub plain_answer : (reg : IccReg) (cpu : CpuRec) (among : List Candidate) → IsTrue (is_readable reg) → (reg ≡ Iar0 → ⊥) → (reg ≡ Iar1 → ⊥) → (reg ≡ Hppir0 → ⊥) → (reg ≡ Hppir1 → ⊥) → answer_of reg None cpu among ≡ Some (unwrap_or (plain_read reg cpu) 0)
plain_answer Iar0 cpu among h a b c d = absurd (a refl)
plain_answer Iar1 cpu among h a b c d = absurd (b refl)
plain_answer Hppir0 cpu among h a b c d = absurd (c refl)
plain_answer Hppir1 cpu among h a b c d = absurd (d refl)
plain_answer Eoir0 cpu among h a b c d = absurd (cc)
plain_answer Eoir1 cpu among h a b c d = absurd (cc)
plain_answer Dir cpu among h a b c d = absurd (cc)
plain_answer Sgi1r cpu among h a b c d = absurd (cc)
plain_answer reg cpu among h a b c d = refl

pub plain_kept : (reg : IccReg) (regs : IchRegs) → regs.vmcr < 2 ^ 32 → (reg ≡ Iar0 → ⊥) → (reg ≡ Iar1 → ⊥) → regs ≡ registers_after reg None regs
plain_kept Iar0 regs fits a b = absurd (a refl)
plain_kept Iar1 regs fits a b = absurd (b refl)
plain_kept reg regs fits a b = sym (same_registers regs fits)
