-- Laws of priorities and of the CPU interface, in the standard's words.
use Rattle.std.specs.Prelude.{◌≡◌, ◌≢◌, ℕ, ◌+◌, ◌%◌, ◌^◌, ◌<◌, ◌≤◌, ◌↔◌, ◌⊎◌, ◌==◌, IsTrue, false, Option, Some, IsSome, List, [], map, All, Contains}
use Rattle.std.specs.List.{list_any}
use Rattle.floor_words.specs.GicWord.declared.record.Group.{Group}
use Rattle.floor_words.specs.Words.{G0, G1, IccReg, Key}
use Rattle.gic_prio.specs.declared.cpu.CpuRec.{CpuRec}
use Rattle.gic_prio.specs.declared.candidate.Candidate.{Candidate}
use Rattle.gic_prio.specs.Priority.{dropped_bits, group_priority_of, running_of, is_signalled, level_activated}
use Rattle.gic_prio.specs.Delivery.{is_before, first_of}
use Rattle.gic_prio.specs.Signal.{is_special, ended, acknowledged, intid_read}
use Rattle.gic_prio.specs.Access.{taken_by}
use Rattle.gic_prio.specs.Interface.{InterfaceState, IsInterface, candidates_at, interface_after}

-- a number is a priority but for its low bits, which are 0
pub record IsPrefix (prio kept dropped : ℕ) : Type 0 where
  pub at_most : kept ≤ prio
  pub near : prio < kept + 2 ^ dropped
  pub zeros : kept % 2 ^ dropped ≡ 0

-- a group priority keeps the high bits of a priority, and never exceeds it (IHI 0069, "Priority grouping")
abbrev pub GroupPriorityIsPrefix : Type 0
GroupPriorityIsPrefix = (prio : ℕ) (group : Group) (cpu : CpuRec) → IsPrefix prio (group_priority_of prio group cpu) (dropped_bits group cpu)

-- each group that uses the binary point of group 0 has group priority 0
pub record HasNoGroupPriority (prio : ℕ) (cpu : CpuRec) : Type 0 where
  pub group_0 : group_priority_of prio G0 cpu ≡ 0
  pub group_1 : IsTrue cpu.cbpr → group_priority_of prio G1 cpu ≡ 0

-- the binary point 7 of group 0 keeps no bit of a priority (IHI 0069, "Priority grouping")
abbrev pub LastPointKeepsNoBit : Type 0
LastPointKeepsNoBit = (prio : ℕ) (cpu : CpuRec) → prio < 2 ^ 8 → cpu.bpr0 ≡ 7 → HasNoGroupPriority prio cpu

-- what is signalled is signalled under every greater mask too (IHI 0069, ICC_PMR)
abbrev pub MaskIsMonotone : Type 0
MaskIsMonotone =
    (prio : ℕ) (group : Group) (cpu : CpuRec) (pmr : ℕ) → cpu.pmr ≤ pmr → IsTrue (is_signalled prio group cpu) → IsTrue (is_signalled prio group (record cpu { pmr = pmr }))

-- the running priority is 0xFF exactly where no level is active (IHI 0069, ICC_RPR)
abbrev pub RunningWhenIdle : Type 0
RunningWhenIdle = (cpu : CpuRec) → cpu.ap0 < 2 ^ 32 → cpu.ap1 < 2 ^ 32 → (running_of cpu ≡ 0xFF) ↔ ((cpu.ap0 ≡ 0) × (cpu.ap1 ≡ 0))

-- one of some candidates, and none of them is before it
pub record IsFirst (candidates : List Candidate) (first : Candidate) : Type 0 where
  pub among : Contains candidates first
  pub least : All (λ other. is_before other first ≡ false) candidates

-- the first candidate is one of them, and none is before it (IHI 0069, "Interrupt prioritization")
abbrev pub FirstIsLeast : Type 0
FirstIsLeast = (candidates : List Candidate) (first : Candidate) → first_of candidates ≡ Some first → IsFirst candidates first

-- candidates have a first one
abbrev pub FirstIsThere : Type 0
FirstIsThere = (candidates : List Candidate) → candidates ≢ [] → IsSome (first_of candidates)

-- the end of an interrupt that was signalled and acknowledged gives the record back, whatever its INTID
-- (IHI 0069, "Priority drop")
abbrev pub EndUndoesAcknowledge : Type 0
EndUndoesAcknowledge =
    (prio : ℕ) (group : Group) (id : ℕ) (cpu : CpuRec) → cpu.ap0 < 2 ^ 32 → cpu.ap1 < 2 ^ 32 → IsTrue (is_signalled prio group cpu) → is_special id ≡ false → ended group id (level_activated prio group cpu) ≡ Some cpu

-- the candidate is not answered by a read of IAR of this group: it is of the other group, or not signalled
abbrev pub IsPassedOver : Group → CpuRec → Candidate → Type 0
IsPassedOver group cpu first = (first.group ≢ group) ⊎ (is_signalled first.prio first.group cpu ≡ false)

-- a read of IAR of this group answers none of the candidates: there is none, or the first is passed over
abbrev pub IsUnanswered : Group → CpuRec → List Candidate → Type 0
IsUnanswered group cpu candidates = (candidates ≡ []) ⊎ ((first : Candidate) × (first_of candidates ≡ Some first) × IsPassedOver group cpu first)

-- a read of IAR answers 1023 exactly where it answers none of the candidates (IHI 0069, ICC_IAR0 and ICC_IAR1)
abbrev pub SpuriousExactly : Type 0
SpuriousExactly =
    (group : Group) (cpu : CpuRec) (candidates : List Candidate) → All (λ one. one.id ≢ 1023) candidates →
    (intid_read (acknowledged group cpu candidates) ≡ 1023) ↔ IsUnanswered group cpu candidates

-- what an acknowledge of an interrupt of this priority and group leaves: the running priority is its group priority, and only
-- interrupts of a more urgent group priority are signalled
pub record Preempts (prio : ℕ) (group : Group) (cpu after : CpuRec) : Type 0 where
  pub running : running_of after ≡ group_priority_of prio group cpu
  pub others : (other : ℕ) (of : Group) → IsTrue (is_signalled other of after) → group_priority_of other of after < group_priority_of prio group cpu

-- an acknowledged interrupt preempts what ran, and all that is not more urgent waits for it (IHI 0069, "Preemption")
abbrev pub AcknowledgePreempts : Type 0
AcknowledgePreempts =
    (prio : ℕ) (group : Group) (cpu : CpuRec) → cpu.ap0 < 2 ^ 32 → cpu.ap1 < 2 ^ 32 → prio % 8 ≡ 0 → IsTrue (is_signalled prio group cpu) → Preempts prio group cpu (level_activated prio group cpu)

-- the interrupts at an interface, without their state
abbrev pub keys_at : InterfaceState → List Key
keys_at interface = map (λ entry. entry.key) interface.at

-- no access moves an interrupt to an interface or from it
abbrev pub InterruptsStay : Type 0
InterruptsStay = (reg : IccReg) (write : Option ℕ) (interface : InterfaceState) → keys_at (interface_after reg write interface) ≡ keys_at interface

-- what an access leaves of an interface is one
abbrev pub InterfaceStays : Type 0
InterfaceStays = (reg : IccReg) (write : Option ℕ) (interface : InterfaceState) → IsInterface interface → IsInterface (interface_after reg write interface)

-- an interrupt that an access acknowledged cannot be acknowledged again: no candidate has its INTID any more
-- (IHI 0069, "Interrupt handling state machine")
abbrev pub AcknowledgedOnce : Type 0
AcknowledgedOnce =
    (reg : IccReg) (write : Option ℕ) (interface : InterfaceState) (found : Candidate) → taken_by reg write interface.cpu (candidates_at interface) ≡ Some found → list_any (λ other. other.id == found.id) (candidates_at (interface_after reg write interface)) ≡ false
