-- When the registers of a PE's virtual CPU interface, with what is held at their places, stand for the interrupts at an interface
-- (own choice of the places; IHI 0069, "Usage model for the List registers").
use Rattle.std.specs.Prelude.{ℕ, ◌≡◌, ◌<◌, ◌≤◌, ◌&&◌, Bool, true, Option, Some, None, List, length, Contains}
use Rattle.std.specs.List.{slice_index_or}
use Rattle.gic_lr.specs.Words.{HeldIrq, Key, intid_of, has_bit}
use Rattle.gic_lr.specs.GicWord.declared.record.Group.{Group}
use Rattle.gic_lr.specs.Entry.{unpacked, state_has_pending, state_has_active}
use Rattle.gic_prio.specs.declared.cpu.CpuRec.{CpuRec}
use Rattle.gic_prio.specs.Interface.{AtInterface, InterfaceState}
use Rattle.gic_ich.specs.declared.regs.IchRegs.{IchRegs}
use Rattle.gic_ich.specs.Hcr.{hcr_en}
use Rattle.gic_ich.specs.Regs.{listed_of}
use Rattle.gic_ich.specs.Vmcr.{vmcr_of}

-- what there is to see of an interrupt at an interface
pub record Seen : Type 0 where
  pub id : ℕ
  pub prio : ℕ
  pub group : Group
  pub pending : Bool
  pub active : Bool

-- as a list register has it
abbrev pub seen_in : ℕ → Seen
seen_in word =
    let entry = unpacked word in
    record { id = entry.id; prio = entry.prio; group = entry.group; pending = state_has_pending entry.state; active = state_has_active entry.state }

-- as it stands at the interface
abbrev pub seen_of : AtInterface → Seen
seen_of entry = record { id = intid_of entry.key; prio = entry.prio; group = entry.group; pending = entry.pending; active = entry.active }

-- a list register has an interrupt of the interface, which is held at its place: with its INTID, priority, group and state, so with
-- State 0 where it is neither pending nor active; the causes that it brought are there until an acknowledge consumes them
pub record StandsAs (word : ℕ) (held : HeldIrq) (entry : AtInterface) : Type 0 where
  pub key : entry.key ≡ held.key
  pub seen : seen_in word ≡ seen_of entry
  pub rise : entry.rise ≡ (held.rise && entry.pending)
  pub soft : entry.soft ≡ (held.soft && entry.pending)

-- a list register has one of the interrupts
pub record HasOne (word : ℕ) (held : HeldIrq) (at : List AtInterface) : Type 0 where
  pub entry : AtInterface
  pub among : Contains at entry
  pub stands : StandsAs word held entry

-- an interrupt is held at some place
pub record IsHeld (held : List (Option HeldIrq)) (key : Key) : Type 0 where
  pub place : ℕ
  pub one : HeldIrq
  pub there : slice_index_or held place None ≡ Some one
  pub is : one.key ≡ key

-- list registers, with what is held at their places, stand for the interrupts at an interface: each of these stands at one place, and a
-- list register is 0 where nothing is held
pub record StandByPlace (words : List ℕ) (held : List (Option HeldIrq)) (at : List AtInterface) : Type 0 where
  pub filled : (place : ℕ) (one : HeldIrq) → place < length words → slice_index_or held place None ≡ Some one → HasOne (slice_index_or words place 0) one at
  pub free : (place : ℕ) → place < length words → slice_index_or held place None ≡ None → slice_index_or words place 0 ≡ 0
  pub past : (place : ℕ) → length words ≤ place → slice_index_or held place None ≡ None
  pub each : (entry : AtInterface) → Contains at entry → IsHeld held entry.key
  pub once : (j k : ℕ) (one other : HeldIrq) → slice_index_or held j None ≡ Some one → slice_index_or held k None ≡ Some other → one.key ≡ other.key → j ≡ k

-- the registers hold a CPU record: ICH_HCR.En is 1, and ICH_VMCR and the active levels are the record's
pub record HoldCpu (regs : IchRegs) (cpu : CpuRec) : Type 0 where
  pub enabled : has_bit regs.hcr hcr_en ≡ true
  pub vmcr : regs.vmcr ≡ vmcr_of cpu
  pub ap0 : regs.ap0r ≡ cpu.ap0
  pub ap1 : regs.ap1r ≡ cpu.ap1

-- the registers, with what is held, stand for an interface place by place
pub record StandFor (regs : IchRegs) (held : List (Option HeldIrq)) (interface : InterfaceState) : Type 0 where
  pub holds : HoldCpu regs interface.cpu
  pub places : StandByPlace (listed_of regs) held interface.at
