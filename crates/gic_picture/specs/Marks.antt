-- What a picture shows of an interrupt and of a CPU interface in one state of the guests (own choice, over the ideal controller).
use Rattle.std.specs.Prelude.{ℕ, ◌||◌, Bool, false, List, slice_get, is_some}
use Rattle.std.specs.Option.{option_map_or}
use Rattle.scn_base.specs.declared.pes.VcpuName.{VcpuName}
use Rattle.scn_base.specs.GicWord.declared.record.Group.{Group}
use Rattle.ideal_guest.specs.Words.{Irq, G0, G1, is_pending}
use Rattle.ideal_guest.specs.Registers.{acknowledged, running_of}
use Rattle.ideal_guest.specs.Calls.{opening_irq}
use Rattle.ideal_guest.specs.declared.guest.IdealGuest.{IdealGuest}
use Rattle.ideal_guest.specs.Ideal.{irq_at, cpu_at, candidates}
use Rattle.gic_ideal.specs.Laws.{is_level_up}
use Rattle.gic_picture.specs.declared.names.IrqName.{IrqName}
use Rattle.gic_picture.specs.declared.marks.Mark.{Mark}
use Rattle.gic_picture.specs.declared.marks.CpuMark.{CpuMark}

-- the record of an interrupt
abbrev pub irq_in : List IdealGuest → IrqName → Irq
irq_in guests name = option_map_or (λ guest. irq_at guest name.key) (slice_get guests name.guest) (opening_irq false name.key)

-- what is shown of an interrupt: pending, active and by whom, and the line of a level-sensitive one
abbrev pub mark_of : Irq → Mark
mark_of irq = record { pending = is_pending irq; active_by = irq.act_by; line = is_level_up irq }

abbrev pub mark_in : List IdealGuest → IrqName → Mark
mark_in guests name = mark_of (irq_in guests name)

-- there is something to show
abbrev pub is_marked : Mark → Bool
is_marked mark = mark.pending || is_some mark.active_by || mark.line

-- an interrupt of a group is signalled to a vCPU: a read of the group's IAR would acknowledge one. Of group 0 that is FIQ, of group 1 IRQ
-- (IHI 0069, "Interrupt grouping", with one security state)
abbrev pub is_signalled : Group → IdealGuest → ℕ → Bool
is_signalled group guest vcpu = is_some (acknowledged group (cpu_at guest vcpu) (candidates guest vcpu))

-- what is shown of a CPU interface: its mask, its running priority, and whether IRQ and FIQ are up
abbrev pub cpu_mark_of : IdealGuest → ℕ → CpuMark
cpu_mark_of guest vcpu =
    record {
      pmr = (cpu_at guest vcpu).pmr;
      running = running_of (cpu_at guest vcpu);
      irq = is_signalled G1 guest vcpu;
      fiq = is_signalled G0 guest vcpu;
    }

-- the same of a vCPU of one of the guests
abbrev pub cpu_mark_in : List IdealGuest → VcpuName → CpuMark
cpu_mark_in guests name =
    option_map_or (λ guest. cpu_mark_of guest name.vcpu) (slice_get guests name.guest) (record { pmr = 0; running = 0; irq = false; fiq = false })
