-- Laws of what happens to one interrupt.
use Rattle.std.specs.Prelude.{◌≡◌, ℕ, IsTrue, Some}
use Rattle.floor_registers.specs.Words.{Key, GuestShape, intid_of, Irq, IsRecordOf}
use Rattle.floor_registers.specs.Registers.{CpuRec, is_deliverable, AtInterface, acknowledged_entry, deactivated_entry, candidate_of}
use Rattle.gic_call.specs.declared.touch.Touching.{Touching}
use Rattle.gic_call.specs.declared.moves.Moved.{Moved}
use Rattle.gic_call.specs.Touch.{CanTouch, is_shown}
use Rattle.gic_call.specs.Move.{may_reach, reached, may_take, taken, left, IsEntryOf, at_interface, entry_of}

-- what a touch of an interrupt reads is in its record
abbrev pub ReadsAreShown : Type 0
ReadsAreShown = (shape : GuestShape) (key : Key) (touch : Touching) (irq : Irq) → CanTouch shape key touch → IsRecordOf shape key irq → IsTrue (is_shown touch irq)

-- a leave right after a reach gives the record back
abbrev pub LeaveUndoesReach : Type 0
LeaveUndoesReach = (shape : GuestShape) (key : Key) (irq : Irq) (vcpu : ℕ) (cpu : CpuRec) → IsTrue (may_reach shape key irq vcpu cpu) → left vcpu (reached irq) ≡ irq

-- a leave right after a take gives the record that a leave before it gives
abbrev pub TakeLosesNothing : Type 0
TakeLosesNothing =
    (shape : GuestShape) (key : Key) (moved : Moved) (vcpu : ℕ) (cpu : CpuRec) → IsEntryOf key moved.entry → IsTrue (may_take shape key moved vcpu cpu) → left vcpu (taken moved) ≡ left vcpu moved

-- a leave after a reach and a take gives the record back
abbrev pub LeaveUndoesTake : Type 0
LeaveUndoesTake =
    (shape : GuestShape) (key : Key) (irq : Irq) (vcpu : ℕ) (cpu : CpuRec) → IsTrue (may_reach shape key irq vcpu cpu) → IsTrue (may_take shape key (reached irq) vcpu cpu) → left vcpu (taken (reached irq)) ≡ irq

-- what an acknowledge and a deactivation leave at an interface is what one can have of the interrupt
pub record AccessesKeepEntries : Type 0 where
  pub acknowledged : (at : AtInterface) → IsEntryOf at.key (entry_of at) → IsEntryOf at.key (entry_of (acknowledged_entry at))
  pub deactivated : (at : AtInterface) → IsEntryOf at.key (entry_of at) → IsEntryOf at.key (entry_of (deactivated_entry at))

-- an interrupt that is deliverable to a vCPU is a candidate for delivery once it is at the vCPU's interface
abbrev pub DeliveredIsCandidate : Type 0
DeliveredIsCandidate =
    (shape : GuestShape) (key : Key) (irq : Irq) (vcpu : ℕ) (cpu : CpuRec) → IsTrue (is_deliverable key irq vcpu cpu shape) →
    candidate_of cpu (at_interface key (reached irq)) ≡ Some (record { id = intid_of key; prio = irq.prio; group = irq.group })
