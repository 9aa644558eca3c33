-- The registers of a CPU interface, and what those read and write that stand for its record alone
-- (IHI 0069, "AArch64 System register descriptions").
use Rattle.std.specs.Prelude.{ℕ, ◌+◌, ◌*◌, ◌/◌, ◌%◌, ◌^◌, min, max, Option, Some, None, if◌then◌else◌}
use Rattle.floor_words.specs.Words.{bit_of, has_bit, IccReg, Rpr, Pmr, Bpr0, Bpr1, Ctlr, Igrpen0, Igrpen1, Ap0r0, Ap1r0, Sre}
use Rattle.gic_prio.specs.declared.cpu.CpuRec.{CpuRec}
use Rattle.gic_prio.specs.Priority.{running_of}

-- what BPR1 reads: its binary point, or with CBPR that of group 0 and one more, at most 7 (IHI 0069, ICC_BPR1)
abbrev pub bpr1_of : CpuRec → ℕ
bpr1_of cpu = if cpu.cbpr then min (cpu.bpr0 + 1) 7 else cpu.bpr1

-- what CTLR reads: CBPR at bit 0, EOImode at 1, PRIbits [10:8] 4, which is one less than the number of priority bits, RSS at 18 and
-- ExtRange at 19, both 1; IDbits [13:11] and A3V at 15 are 0 (IHI 0069, ICC_CTLR)
abbrev pub ctlr_of : CpuRec → ℕ
ctlr_of cpu = bit_of cpu.cbpr + bit_of cpu.eoimode * 2 ^ 1 + 4 * 2 ^ 8 + 2 ^ 18 + 2 ^ 19

-- what a plain register reads; SRE has SRE, DFB and DIB at the bits 0 to 2 (IHI 0069, ICC_SRE); none for the others, and for one that cannot be read
abbrev pub plain_read : IccReg → CpuRec → Option ℕ
plain_read Rpr cpu = Some (running_of cpu)
plain_read Pmr cpu = Some cpu.pmr
plain_read Bpr0 cpu = Some cpu.bpr0
plain_read Bpr1 cpu = Some (bpr1_of cpu)
plain_read Ctlr cpu = Some (ctlr_of cpu)
plain_read Igrpen0 cpu = Some (bit_of cpu.en0)
plain_read Igrpen1 cpu = Some (bit_of cpu.en1)
plain_read Ap0r0 cpu = Some cpu.ap0
plain_read Ap1r0 cpu = Some cpu.ap1
plain_read Sre cpu = Some 7
plain_read reg cpu = None

-- the priority mask that a write of PMR leaves: bits [7:3], the others 0 (IHI 0069, ICC_PMR)
abbrev pub pmr_written : ℕ → ℕ
pmr_written value = value % 2 ^ 8 / 8 * 8

-- the binary point that a write leaves: bits [2:0], or the least that there is (IHI 0069, ICC_BPR0 and ICC_BPR1)
abbrev pub binary_point_written : ℕ → ℕ → ℕ
binary_point_written least value = max least (value % 2 ^ 3)

-- the record after a write of a plain register; none for the others, and for one that cannot be written. Five priority bits leave
-- BPR0 at least 2 and BPR1 at least 3.
-- BPR1 ignores writes with CBPR (IHI 0069, ICC_BPR1); AP0R0, AP1R0 and SRE always do (own choice)
abbrev pub plain_write : IccReg → ℕ → CpuRec → Option CpuRec
plain_write Pmr value cpu = Some (record cpu { pmr = pmr_written value })
plain_write Bpr0 value cpu = Some (record cpu { bpr0 = binary_point_written 2 value })
plain_write Bpr1 value cpu = Some (if cpu.cbpr then cpu else record cpu { bpr1 = binary_point_written 3 value })
plain_write Ctlr value cpu = Some (record cpu { cbpr = has_bit value 0; eoimode = has_bit value 1 })
plain_write Igrpen0 value cpu = Some (record cpu { en0 = has_bit value 0 })
plain_write Igrpen1 value cpu = Some (record cpu { en1 = has_bit value 0 })
plain_write Ap0r0 value cpu = Some cpu
plain_write Ap1r0 value cpu = Some cpu
plain_write Sre value cpu = Some cpu
plain_write reg value cpu = None
