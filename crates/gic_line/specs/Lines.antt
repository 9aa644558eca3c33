-- The interrupt lines of a vCPU (IHI 0069, "Interrupt signaling": group 0 signals FIQ, group 1 IRQ).
use Rattle.std.specs.Prelude.{None, is_some, List}
use Rattle.floor_registers.specs.Words.{Iar0, Iar1}
use Rattle.floor_registers.specs.Registers.{Candidate, CpuRec, taken_by}
use Rattle.gic_line.specs.declared.lines.Lines.{Lines}

-- where these interrupts can be delivered to the vCPU, IRQ is asserted exactly where a read of IAR1 would acknowledge one of them now, and FIQ where one of IAR0 would
abbrev pub lines_by : CpuRec → List Candidate → Lines
lines_by cpu candidates = record { irq = is_some (taken_by Iar1 None cpu candidates); fiq = is_some (taken_by Iar0 None cpu candidates) }
