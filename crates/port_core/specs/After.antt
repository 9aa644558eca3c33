-- What a step leaves of its actor's own state.
use Rattle.std.specs.Prelude.{ℕ, ◌+◌, ◌==◌, ◌&&◌, ◌||◌, not, Bool, true, false, List, [], ◌∷◌, ◌++◌, map, if◌then◌else◌, Option, Some, None, is_none}
use Rattle.std.specs.Option.{option_map_or}
use Rattle.core_words.specs.Words.{IccReg, Key, GuestShape, intid_of, Irq, has_active_state, is_ripe, is_number, target_in, irq_of}
use Rattle.core_words.specs.Registers.{Candidate, taken_by, deactivated_by, cpu_after, AtInterface, InterfaceState, candidates_at}
use Rattle.core_words.specs.Calls.{touched}
use Rattle.port_core.specs.declared.at_list.AtIrq.{AtIrq}
use Rattle.core_words.specs.declared.line.Line.{Line}
use Rattle.port_core.specs.declared.local.Local.{Local}
use Rattle.port_core.specs.declared.local.Phase.{Phase}
use Rattle.port_core.specs.declared.local.Phase.TheVariants.{Scanning, Claiming, Loaded, Folding}
use Rattle.port_core.specs.declared.step.CoreStep.{CoreStep}
use Rattle.port_core.specs.declared.step.CoreStep.TheVariants.{Look, Raise, Claim, GiveBack, Release, Poll, Kick, Touch, Want, WireUp, WireDown, EnableLpis, RamLook, RamPut, CtlrTake, CtlrEnd, TurnTake, CommandDone, TurnRelease, Mark, TakeIndex, LineEnter, LineLeave, LineFill, LineClose}
use Rattle.core_words.specs.declared.word_id.WordId.{WordId}
use Rattle.core_words.specs.declared.word_id.WordId.TheVariants.{Irq as IrqWord, Line as LineWord}
use Rattle.core_words.specs.declared.words.VcpuWord.{VcpuWord}
use Rattle.core_words.specs.Forms.{vcpu_of, line_of, is_empty_line}
use Rattle.core_words.specs.Place.{index_words}
use Rattle.port_core.specs.Local.{without_vcpu, without_mark, with_cand_word, is_vcpu, settled, is_at, changed_at, without_at, with_entry, arrived, owing, owing_both, with_shut, without_shut}
use Rattle.port_core.specs.Effect.{succeeds, moved_irq, is_active_at}

-- Whom a change of an interrupt concerns.

-- the vCPU that an interrupt is for
abbrev pub target_of : GuestShape → Irq → Option ℕ
target_of shape irq = target_in irq.route shape

-- the vCPU that holds it, or where nobody does the one by which it is active
abbrev pub holder_or_active : Irq → Option ℕ
holder_or_active irq = if is_none irq.holder then irq.act_by else irq.holder

-- a cause comes or goes: it concerns the target, and the holder or the vCPU by which it is active
abbrev pub concerned : GuestShape → Irq → List (Option ℕ)
concerned shape irq = target_of shape irq ∷ holder_or_active irq ∷ []

-- a touch concerns the targets before and after it, and the vCPUs by which the interrupt is active then
abbrev pub concerned_by : GuestShape → Irq → Irq → List (Option ℕ)
concerned_by shape before after = target_of shape before ∷ target_of shape after ∷ before.act_by ∷ after.act_by ∷ []

-- a release is to be told to the target if that is another vCPU, unless the interrupt is active
abbrev pub told_of_release : GuestShape → ℕ → Bool → Irq → List (Option ℕ)
told_of_release shape vcpu active irq = (if active || is_number vcpu (target_of shape irq) then None else target_of shape irq) ∷ []

-- it is to be marked for the target, and for the vCPU itself where the interrupt is active
abbrev pub marked_of_release : GuestShape → ℕ → Bool → Irq → List (Option ℕ)
marked_of_release shape vcpu active irq = target_of shape irq ∷ (if active then Some vcpu else None) ∷ []

-- Accesses of registers of the CPU interface.

-- the interrupt as accesses see it
abbrev pub shown : AtIrq → AtInterface
shown at = record { key = at.key; prio = at.entry_prio; group = at.group; pending = at.pending; active = at.active; rise = at.rise; soft = at.soft }

-- the interface as accesses see it
abbrev pub interface_of : Local → InterfaceState
interface_of local = record { cpu = local.cpu; at = map shown local.at }

-- an acknowledge makes an interrupt active, where it can be, and consumes what came with it
abbrev pub acknowledged_entry : AtIrq → AtIrq
acknowledged_entry at = record at { pending = false; active = has_active_state at.key; rise = false; soft = false; consumed = true }

abbrev pub deactivated_entry : AtIrq → AtIrq
deactivated_entry at = record at { active = false }

-- the interrupts with a change of the one that has an INTID, or of none
abbrev pub changed_id : (AtIrq → AtIrq) → Option ℕ → List AtIrq → List AtIrq
changed_id change id at = map (λ entry. if is_number (intid_of entry.key) id then change entry else entry) at

-- the INTID of a candidate
abbrev pub id_of : Option Candidate → Option ℕ
id_of candidate = option_map_or (λ one. Some one.id) candidate None

-- an actor after an access of a register of its CPU interface
abbrev pub accessed : IccReg → Option ℕ → Local → Local
accessed reg write local =
    let candidates = candidates_at (interface_of local) in
    record local {
      cpu = cpu_after reg write local.cpu candidates;
      at = changed_id deactivated_entry (deactivated_by reg write local.cpu) (changed_id acknowledged_entry (id_of (taken_by reg write local.cpu candidates)) local.at);
      phase = Loaded;
    }

-- an actor after a look for a kick
abbrev pub polled_at : Option IccReg → Option ℕ → VcpuWord → Local → Local
polled_at None write word local = record local { phase = Scanning; cpu = record local.cpu { lpis = word.lpis } }
polled_at (Some reg) write word local = if word.kick then record local { phase = Folding } else accessed reg write local

abbrev pub polled : Option IccReg → Option ℕ → ℕ → Local → Local
polled reg write found local = polled_at reg write (vcpu_of found) local

-- Moves.

-- a vCPU that looked at an interrupt need not look again, unless the interrupt is ripe for it or active by it
abbrev pub is_settled_by_look : GuestShape → ℕ → Irq → Bool
is_settled_by_look shape actor irq = is_vcpu shape actor && not (is_ripe irq actor shape || is_number actor irq.act_by)

abbrev pub looked_at : GuestShape → ℕ → Key → Irq → Local → Local
looked_at shape actor key irq local = if is_settled_by_look shape actor irq then record local { cands = settled shape actor key local.cands } else local

-- the actor that has the ITS knows a line to be shut once it looked at it and found it empty
abbrev pub looked_at_line : ℕ → Line → Local → Local
looked_at_line number line local = if local.turn && is_empty_line line then with_shut number local else local

-- a look at any word
abbrev pub looked : GuestShape → ℕ → WordId → ℕ → Local → Local
looked shape actor (IrqWord key) found local = looked_at shape actor key (irq_of found) local
looked shape actor (LineWord number) found local = looked_at_line number (line_of found) local
looked shape actor word found local = local

-- an interrupt got to the interface, or brought its causes
abbrev pub claimed_at : GuestShape → ℕ → Key → Irq → Local → Local
claimed_at shape actor key irq local =
    let moved = moved_irq actor local key irq in
    record local {
      cands = settled shape actor key local.cands;
      at =
          if is_at key local.at then changed_at (λ entry. record (with_entry entry moved.entry) { consumed = false }) key local.at
          else local.at ++ arrived key irq moved.entry ∷ [];
    }

abbrev pub claimed : GuestShape → ℕ → Key → ℕ → Local → Local
claimed shape actor key found local = claimed_at shape actor key (irq_of found) local

-- what the interface has of an interrupt was given back
abbrev pub given_at : Key → Local → Local
given_at key local = record local { at = changed_at (λ entry. record entry { given = true }) key local.at; phase = Folding }

-- an interrupt was released
abbrev pub release_at : GuestShape → ℕ → Key → Irq → Bool → Local → Local
release_at shape actor key irq active local = owing (told_of_release shape actor active irq) key (marked_of_release shape actor active irq) (record local { at = without_at key local.at })

-- a scan has all candidates once it took the last word of the index
abbrev pub phase_after : GuestShape → ℕ → Phase → Phase
phase_after shape word Scanning = if word + 1 == index_words shape then Claiming else Scanning
phase_after shape word phase = phase

-- the bits of a word of the index are candidates
abbrev pub index_taken : GuestShape → ℕ → ℕ → Local → Local
index_taken shape word found local = record local { cands = with_cand_word local.cands word found; phase = phase_after shape word local.phase }

-- a mark is no longer owed; where it is for the actor itself, it is no candidate any more
abbrev pub marked : GuestShape → ℕ → Key → ℕ → Local → Local
marked shape actor key vcpu local =
    record local {
      marks = without_mark key vcpu local.marks;
      cands = if vcpu == actor then settled shape actor key local.cands else local.cands;
    }

-- a device that is in a line keeps the message and the LPI as it found them there
abbrev pub entered_line : ℕ → Line → Local → Local
entered_line number line local = record local { line = option_map_or (λ pair. Some (record { line = number; pair = pair; lpi = line.lpi })) line.pair None }

-- a line that was closed is shut where no device was in it
abbrev pub closed_line : ℕ → Line → Local → Local
closed_line number line local = if line.inside == 0 then with_shut number local else local

-- an actor after a step that does what it is for
abbrev pub local_done : GuestShape → ℕ → Local → CoreStep → ℕ → Local
local_done shape actor local (Look word) found = looked shape actor word found local
local_done shape actor local (Raise key) found = owing_both key (concerned shape (irq_of found)) local
local_done shape actor local (Claim key seen) found = claimed shape actor key found local
local_done shape actor local (GiveBack key back) found = given_at key local
local_done shape actor local (Release key) found = release_at shape actor key (irq_of found) (is_active_at key local) local
local_done shape actor local (Poll reg write) found = polled reg write found local
local_done shape actor local (Kick vcpu) found = record local { owes = without_vcpu local.owes vcpu }
local_done shape actor local (Touch key seen kind) found =
    owing_both key (concerned_by shape (irq_of found) (touched shape key kind (irq_of found))) local
local_done shape actor local (Want key) found = local
local_done shape actor local (WireUp key) found = owing_both key (concerned shape (irq_of found)) local
local_done shape actor local (WireDown key) found = owing_both key (concerned shape (irq_of found)) local
local_done shape actor local (EnableLpis vcpu) found = local
local_done shape actor local (RamLook index) found = local
local_done shape actor local (RamPut index seen value) found = local
local_done shape actor local (CtlrTake seen value) found = record local { ctlr = true }
local_done shape actor local CtlrEnd found = record local { ctlr = false }
local_done shape actor local (TurnTake seen) found = record local { turn = true }
local_done shape actor local (CommandDone offset stalled ending) found = local
local_done shape actor local TurnRelease found = record local { turn = false; shut = 0 }
local_done shape actor local (Mark key vcpu) found = marked shape actor key vcpu local
local_done shape actor local (TakeIndex word) found = index_taken shape word found local
local_done shape actor local (LineEnter line seen) found = entered_line line (line_of found) local
local_done shape actor local (LineLeave line) found = record local { line = None }
local_done shape actor local (LineFill line device event lpi) found = without_shut line local
local_done shape actor local (LineClose line) found = closed_line line (line_of found) local

-- an actor after a step: as it was where the step did not do what it is for
abbrev pub local_after : GuestShape → ℕ → Local → CoreStep → ℕ → Local
local_after shape actor local step found = if succeeds shape actor local step found then local_done shape actor local step found else local
