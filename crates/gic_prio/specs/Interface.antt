-- The interrupts at one CPU interface, as list registers hold them, and what an access does to them
-- (IHI 0069, "Virtual interrupt handling and prioritization").
use Rattle.std.specs.Prelude.{ℕ, ◌≡◌, ◌≤◌, ◌&&◌, ◌==◌, Bool, true, false, not, nat_lt, Option, Some, None, if◌then◌else◌, List, length, filter, map}
use Rattle.std.specs.List.{filter_map, list_all}
use Rattle.std.specs.Option.{option_map_or}
use Rattle.floor_words.specs.GicWord.declared.record.Group.{Group}
use Rattle.floor_words.specs.Words.{IccReg, Key, intid_of, has_active_state}
use Rattle.gic_prio.specs.declared.cpu.CpuRec.{CpuRec}
use Rattle.gic_prio.specs.declared.candidate.Candidate.{Candidate}
use Rattle.gic_prio.specs.Delivery.{is_group_enabled}
use Rattle.gic_prio.specs.Priority.{HasBinaryPoints}
use Rattle.gic_prio.specs.Access.{taken_by, deactivated_by, answer_of, cpu_after}

-- an interrupt at an interface, with its state there and the latched causes that it brought. Its priority and group are the copies that
-- the interface took as the interrupt got there; no register changes the record of an interrupt that is at an interface, so they are
-- the record's.
pub record AtInterface : Type 0 where
  pub key : Key
  pub prio : ℕ
  pub group : Group
  pub pending : Bool
  pub active : Bool
  pub rise : Bool
  pub soft : Bool

-- the record of a CPU interface with the interrupts that are there
pub record InterfaceState : Type 0 where
  pub cpu : CpuRec
  pub at : List AtInterface

-- an interrupt has an active state exactly where its INTID is below those of LPIs
abbrev pub has_its_kind : AtInterface → Bool
has_its_kind entry = if nat_lt (intid_of entry.key) 8192 then has_active_state entry.key else not (has_active_state entry.key)

-- an INTID names one interrupt of the interface at most, since none is there twice, nor a private one of another vCPU; LPIs are those
-- from 8192, and the binary points have three bits
pub record IsInterface (interface : InterfaceState) : Type 0 where
  pub points : HasBinaryPoints interface.cpu
  pub once : (id : ℕ) → length (filter (λ entry. intid_of entry.key == id) interface.at) ≤ 1
  pub kinds : list_all has_its_kind interface.at ≡ true

-- the interrupt as a candidate for delivery: pending there, not active, and of a group that the vCPU listens to
abbrev pub candidate_of : CpuRec → AtInterface → Option Candidate
candidate_of cpu entry =
    if entry.pending && not entry.active && is_group_enabled entry.group cpu then Some (record { id = intid_of entry.key; prio = entry.prio; group = entry.group }) else None

-- all candidates of an interface
abbrev pub candidates_at : InterfaceState → List Candidate
candidates_at interface = filter_map (candidate_of interface.cpu) interface.at

-- the interrupt after its acknowledge: no longer pending, its causes consumed, and active where it can be
-- (IHI 0069, "Interrupt handling state machine")
abbrev pub acknowledged_entry : AtInterface → AtInterface
acknowledged_entry entry = record entry { pending = false; active = has_active_state entry.key; rise = false; soft = false }

-- the interrupt after its deactivation
abbrev pub deactivated_entry : AtInterface → AtInterface
deactivated_entry entry = record entry { active = false }

-- the interrupts after a change of the one with this INTID
abbrev pub changed_at : (AtInterface → AtInterface) → ℕ → List AtInterface → List AtInterface
changed_at change id at = map (λ entry. if intid_of entry.key == id then change entry else entry) at

-- the interrupts after an acknowledge of one, or of none
abbrev pub acknowledged_at : Option Candidate → List AtInterface → List AtInterface
acknowledged_at taken at = option_map_or (λ found. changed_at acknowledged_entry found.id at) taken at

-- the interrupts after a deactivation by INTID, or of none
abbrev pub deactivated_at : Option ℕ → List AtInterface → List AtInterface
deactivated_at ended at = option_map_or (λ id. changed_at deactivated_entry id at) ended at

-- the interface after an access of a register
abbrev pub interface_after : IccReg → Option ℕ → InterfaceState → InterfaceState
interface_after reg write interface =
    record {
      cpu = cpu_after reg write interface.cpu (candidates_at interface);
      at = deactivated_at (deactivated_by reg write interface.cpu) (acknowledged_at (taken_by reg write interface.cpu (candidates_at interface)) interface.at);
    }

-- what the access reads
abbrev pub interface_answer : IccReg → Option ℕ → InterfaceState → Option ℕ
interface_answer reg write interface = answer_of reg write interface.cpu (candidates_at interface)
