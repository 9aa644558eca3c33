-- The CPU record that registers hold, and what does not depend on whether LPIs are enabled.
use Rattle.std.proofs.Common.{◌≡◌, ◌+◌, ◌/◌, ◌%◌, ◌^◌, ℕ, false, nat_eq, refl, ap, ◌∙◌, arith}
use Rattle.gic_ich.specs.GicWord.declared.record.Group.{Group}
use Rattle.gic_ich.specs.Words.{G0, G1, bit_of}
use Rattle.gic_ich.specs.GicPrio.declared.cpu.CpuRec.{CpuRec}
use Rattle.gic_ich.specs.GicPrio.Priority.{HasBinaryPoints, is_signalled, level_activated}
use Rattle.gic_ich.specs.GicPrio.Delivery.{is_group_enabled}
use Rattle.gic_ich.specs.declared.regs.IchRegs.{IchRegs}
use Rattle.gic_ich.specs.Vmcr.{vmcr_of, vmcr_fields, other_bits, vmcr_with, vfiqen}
use Rattle.gic_icv.specs.Registers.{cpu_in}
use Rattle.gic_ich.proofs.GicBits.BitLemmas.{flag_back, flag_small}

-- a record without LPIs
abbrev pub deaf : CpuRec → CpuRec
deaf cpu = record cpu { lpis = false }

same_cpu : (a b : CpuRec) → a.pmr ≡ b.pmr → a.bpr0 ≡ b.bpr0 → a.bpr1 ≡ b.bpr1 → a.cbpr ≡ b.cbpr → a.eoimode ≡ b.eoimode → a.en0 ≡ b.en0 → a.en1 ≡ b.en1 → record { pmr = a.pmr; bpr0 = a.bpr0; bpr1 = a.bpr1; cbpr = a.cbpr; eoimode = a.eoimode; en0 = a.en0; en1 = a.en1; lpis = false; ap0 = b.ap0; ap1 = b.ap1 } ≡ deaf b
same_cpu a b pmr bpr0 bpr1 cbpr eoimode en0 en1 = rw (pmr, bpr0, bpr1, cbpr, eoimode, en0, en1) refl

-- registers that hold a record hold it without LPIs
pub holds : (regs : IchRegs) (cpu : CpuRec) → HasBinaryPoints cpu → regs.vmcr ≡ vmcr_of cpu → regs.ap0r ≡ cpu.ap0 → regs.ap1r ≡ cpu.ap1 → cpu_in regs ≡ deaf cpu
holds regs cpu points vmcr ap0 ap1 =
    let en0_small = flag_small cpu.en0 in
    let en1_small = flag_small cpu.en1 in
    let cbpr_small = flag_small cpu.cbpr in
    let eoi_small = flag_small cpu.eoimode in
    let v : ℕ = regs.vmcr in
    let pmr_is : regs.vmcr / 2 ^ 24 ≡ cpu.pmr = omega (arith, vmcr, en0_small, en1_small, cbpr_small, eoi_small, points.group_0, points.group_1) in
    let bpr0_is : regs.vmcr / 2 ^ 21 % 2 ^ 3 ≡ cpu.bpr0 = omega (arith, vmcr, en0_small, en1_small, cbpr_small, eoi_small, points.group_0, points.group_1) in
    let bpr1_is : regs.vmcr / 2 ^ 18 % 2 ^ 3 ≡ cpu.bpr1 = omega (arith, vmcr, en0_small, en1_small, cbpr_small, eoi_small, points.group_0, points.group_1) in
    let cbpr_is : regs.vmcr / 2 ^ 4 % 2 ≡ bit_of cpu.cbpr = omega (arith, vmcr, en0_small, en1_small, cbpr_small, eoi_small, points.group_0, points.group_1) in
    let eoi_is : regs.vmcr / 2 ^ 9 % 2 ≡ bit_of cpu.eoimode = omega (arith, vmcr, en0_small, en1_small, cbpr_small, eoi_small, points.group_0, points.group_1) in
    let en0_is : regs.vmcr / 2 ^ 0 % 2 ≡ bit_of cpu.en0 = omega (arith, vmcr, en0_small, en1_small, cbpr_small, eoi_small, points.group_0, points.group_1) in
    let en1_is : regs.vmcr / 2 ^ 1 % 2 ≡ bit_of cpu.en1 = omega (arith, vmcr, en0_small, en1_small, cbpr_small, eoi_small, points.group_0, points.group_1) in
    let levels : cpu_in regs ≡ record (cpu_in regs) { ap0 = cpu.ap0; ap1 = cpu.ap1 } = rw (ap0, ap1) refl in
    levels
    ∙ same_cpu (cpu_in regs) cpu pmr_is bpr0_is bpr1_is
    (ap (λ n. nat_eq n 1) cbpr_is ∙ flag_back cpu.cbpr)
    (ap (λ n. nat_eq n 1) eoi_is ∙ flag_back cpu.eoimode)
    (ap (λ n. nat_eq n 1) en0_is ∙ flag_back cpu.en0)
    (ap (λ n. nat_eq n 1) en1_is ∙ flag_back cpu.en1)

-- ICH_VMCR of a record has VFIQEn beside its fields
pub vmcr_replaced : (cpu after : CpuRec) → HasBinaryPoints cpu → vmcr_with (vmcr_of cpu) after ≡ vmcr_of after
vmcr_replaced cpu after points =
    let en0_small = flag_small cpu.en0 in
    let en1_small = flag_small cpu.en1 in
    let cbpr_small = flag_small cpu.cbpr in
    let eoi_small = flag_small cpu.eoimode in
    let others : other_bits (vmcr_of cpu) ≡ vfiqen = omega (arith, en0_small, en1_small, cbpr_small, eoi_small, points.group_0, points.group_1) in
    ap (λ n. vmcr_fields after + n) others

-- what a group asks of the record does not depend on LPIs
pub signalled_deaf : (prio : ℕ) (group : Group) (cpu : CpuRec) → is_signalled prio group (deaf cpu) ≡ is_signalled prio group cpu
signalled_deaf prio G0 cpu = refl
signalled_deaf prio G1 cpu = refl

pub enabled_deaf : (group : Group) (cpu : CpuRec) → is_group_enabled group (deaf cpu) ≡ is_group_enabled group cpu
enabled_deaf G0 cpu = refl
enabled_deaf G1 cpu = refl

pub level_deaf : (prio : ℕ) (group : Group) (cpu : CpuRec) → level_activated prio group (deaf cpu) ≡ deaf (level_activated prio group cpu)
level_deaf prio G0 cpu = refl
level_deaf prio G1 cpu = refl
