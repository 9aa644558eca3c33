-- What the CPU interface finds in list registers, and what it does to one (IHI 0069, "Virtual interrupt handling and prioritization").
use Rattle.std.specs.Prelude.{ℕ, ◌&&◌, ◌==◌, Bool, nat_lt, if◌then◌else◌, Option, Some, None, List}
use Rattle.std.specs.List.{filter_map}
use Rattle.gic_ich.specs.GicLr.declared.entry.LrState.{LrState}
use Rattle.gic_ich.specs.GicLr.declared.entry.LrState.TheVariants.{Invalid, Pending, Active, Both}
use Rattle.gic_ich.specs.GicLr.Entry.{unpacked, with_state, state_has_active}
use Rattle.gic_ich.specs.GicPrio.declared.cpu.CpuRec.{CpuRec}
use Rattle.gic_ich.specs.GicPrio.declared.candidate.Candidate.{Candidate}
use Rattle.gic_ich.specs.GicPrio.Delivery.{is_group_enabled}
use Rattle.gic_ich.specs.GicPrio.Signal.{is_same_group}
use Rattle.gic_ich.specs.Status.{is_pending}

-- a list register as a candidate for delivery: State 1, and of a group that the vCPU listens to
abbrev pub candidate_in : CpuRec → ℕ → Option Candidate
candidate_in cpu word =
    let entry = unpacked word in
    if is_pending word && is_group_enabled entry.group cpu then Some (record { id = entry.id; prio = entry.prio; group = entry.group }) else None

-- all candidates of some list registers
abbrev pub candidates_in : CpuRec → List ℕ → List Candidate
candidates_in cpu words = filter_map (candidate_in cpu) words

-- the list register has this candidate: State 1, and its INTID, priority and group
abbrev pub has_candidate : Candidate → ℕ → Bool
has_candidate found word =
    let entry = unpacked word in
    is_pending word && entry.id == found.id && entry.prio == found.prio && is_same_group entry.group found.group

-- the list register has the active interrupt of this INTID
abbrev pub has_active : ℕ → ℕ → Bool
has_active id word = (unpacked word).id == id && state_has_active (unpacked word).state

-- an acknowledged list register: State 2, or 0 for an LPI, which has no active state
abbrev pub acknowledged_word : ℕ → ℕ
acknowledged_word word = with_state word (if nat_lt (unpacked word).id 8192 then Active else Invalid)

-- the state after a deactivation: pending or not, as it was
abbrev pub inactive_state : LrState → LrState
inactive_state Invalid = Invalid
inactive_state Pending = Pending
inactive_state Active = Invalid
inactive_state Both = Pending

-- a deactivated list register: State 0 from 2, and 1 from 3
abbrev pub deactivated_word : ℕ → ℕ
deactivated_word word = with_state word (inactive_state (unpacked word).state)
