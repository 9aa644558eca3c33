-- The interrupt lines of a machine's vCPUs (IHI 0069, "Interrupt signaling").
use Rattle.std.specs.Prelude.{ℕ, ◌&&◌, Bool, not, false, List}
use Rattle.std.specs.List.{slice_index_or}
use Rattle.std.specs.Bool.{beq}
use Rattle.ideal_guest.specs.Words.{set_of}
use Rattle.ideal_guest.specs.declared.guest.IdealGuest.{IdealGuest}
use Rattle.ideal_guest.specs.Ideal.{cpu_at, candidates}
use Rattle.gic_line.specs.declared.lines.Lines.{Lines}
use Rattle.gic_line.specs.Lines.{lines_by}

-- the lines of a vCPU of a guest, by the interrupts that can be delivered to it
abbrev pub lines_of : IdealGuest → ℕ → Lines
lines_of guest vcpu = lines_by (cpu_at guest vcpu) (candidates guest vcpu)

-- the lines are alike
abbrev pub is_same_lines : Lines → Lines → Bool
is_same_lines one other = beq one.irq other.irq && beq one.fiq other.fiq

-- no line is asserted
abbrev pub down : Lines
down = record { irq = false; fiq = false }

-- the lines that a list has of a vCPU
abbrev pub lines_in : List Lines → ℕ → Lines
lines_in lines vcpu = slice_index_or lines vcpu down

-- the vCPUs, of so many, whose lines before and after differ, as bits: that of vCPU v is worth 2 ^ v
abbrev pub changed_of : (ℕ → Lines) → (ℕ → Lines) → ℕ → ℕ
changed_of before after vcpus = set_of (λ vcpu. not (is_same_lines (before vcpu) (after vcpu))) vcpus

-- the vCPUs whose lines differ between two states of a guest
abbrev pub changed_between : IdealGuest → IdealGuest → ℕ
changed_between before after = changed_of (lines_of before) (lines_of after) before.shape.vcpus
