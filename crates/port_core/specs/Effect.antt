-- What a step leaves of the word that it found.
use Rattle.std.specs.Prelude.{ℕ, ◌%◌, ◌^◌, ◌==◌, ◌&&◌, ◌||◌, not, Bool, true, false, if◌then◌else◌, Some, None, is_none, is_some, bit_or}
use Rattle.std.specs.Option.{option_map_or}
use Rattle.core_words.specs.Words.{Key, GuestShape, Back, Irq, raised, wire_up, wire_down, is_number, irq_of, packed}
use Rattle.core_words.specs.Registers.{enables_in, queue_of, packed as packed_queue}
use Rattle.core_words.specs.Calls.{Moved, Touching, may_reach, reached, may_take, taken, touched}
use Rattle.port_core.specs.declared.at_list.AtIrq.{AtIrq}
use Rattle.port_core.specs.declared.local.Local.{Local}
use Rattle.port_core.specs.declared.step.CoreStep.{CoreStep}
use Rattle.port_core.specs.declared.step.CoreStep.TheVariants.{Look, Raise, Claim, GiveBack, Release, Poll, Kick, Touch, Want, WireUp, WireDown, EnableLpis, RamLook, RamPut, CtlrTake, CtlrEnd, TurnTake, CommandDone, TurnRelease, Mark, TakeIndex, LineEnter, LineLeave, LineFill, LineClose}
use Rattle.core_words.specs.Forms.{vcpu_of, packed_vcpu, ctlr_of, packed_ctlr, line_of, packed_line, is_empty_line}
use Rattle.port_core.specs.Local.{entry_for, entry_of, with_inside, without_inside}
use Rattle.core_words.specs.Place.{index_bit}

-- Claims: an interrupt that nobody holds gets to the vCPU's interface, and one that the vCPU holds brings its causes.

-- nobody waits for an interrupt, or it is active by the vCPU, which alone can end it
abbrev pub may_hold : ℕ → Irq → Bool
may_hold vcpu irq = not irq.want || is_number vcpu irq.act_by

-- an interrupt that is at the vCPU's interface, as the moves speak of it
abbrev pub moved_of : Irq → AtIrq → Moved
moved_of irq entry = record { irq = irq; entry = entry_of entry }

-- the claim of an interrupt whose record was seen is allowed: nobody holds it, and it may reach the vCPU and be held; or the vCPU holds it, and may take its causes
abbrev pub may_move : GuestShape → ℕ → Local → Key → Irq → Bool
may_move shape vcpu local key irq =
    option_map_or
    (λ entry. is_number vcpu irq.holder && may_take shape key (moved_of irq entry) vcpu local.cpu)
    (entry_for key local.at)
    (is_none irq.holder && may_reach shape key irq vcpu local.cpu && may_hold vcpu irq)

-- the interrupt after a claim: held by the vCPU
abbrev pub moved_irq : ℕ → Local → Key → Irq → Moved
moved_irq vcpu local key irq =
    option_map_or
    (λ entry. taken (moved_of irq entry))
    (entry_for key local.at)
    (record (reached irq) { irq = record (reached irq).irq { holder = Some vcpu } })

abbrev pub claimed_irq : ℕ → Local → Key → Irq → Irq
claimed_irq vcpu local key irq = (moved_irq vcpu local key irq).irq

-- the record of an interrupt after a touch: no access waits for it any more
abbrev pub touched_irq : GuestShape → Key → Touching → Irq → Irq
touched_irq shape key kind irq = record (touched shape key kind irq) { want = false }

-- a step does what it is for, of the word that it found; one that does not leaves the word as it is
abbrev pub succeeds : GuestShape → ℕ → Local → CoreStep → ℕ → Bool
succeeds shape actor local (Claim key seen) found = found == seen && may_move shape actor local key (irq_of found)
succeeds shape actor local (Touch key seen kind) found = found == seen && is_none (irq_of found).holder
succeeds shape actor local (RamPut index seen value) found = found == seen
succeeds shape actor local (CtlrTake seen value) found = found == seen && is_none (ctlr_of found).mark
succeeds shape actor local (TurnTake seen) found = found == seen && is_none (queue_of found).turn
succeeds shape actor local (LineEnter line seen) found = found == seen && is_some (line_of found).pair
succeeds shape actor local (LineFill line device event lpi) found = is_empty_line (line_of found)
succeeds shape actor local step found = true

-- the record of an interrupt after what was at an interface is given back, and after its release
abbrev pub given_back : ℕ → Back → Irq → Irq
given_back vcpu back irq =
    record irq { rise = irq.rise || back.rise; soft = irq.soft || back.soft; act_by = if back.active then Some vcpu else irq.act_by }

abbrev pub released : Bool → Irq → Irq
released active irq = record irq { holder = None; act_by = if active then irq.act_by else None }

-- an interrupt at the interface is active there
abbrev pub is_active_at : Key → Local → Bool
is_active_at key local = option_map_or (λ entry. entry.active) (entry_for key local.at) false

-- a change of an interrupt's word
abbrev pub changed : (Irq → Irq) → ℕ → ℕ
changed change found = packed (change (irq_of found))

-- the word after a step that does what it is for
abbrev pub word_done : GuestShape → ℕ → Local → CoreStep → ℕ → ℕ
word_done shape actor local (Look word) found = found
word_done shape actor local (Raise key) found = changed raised found
word_done shape actor local (Claim key seen) found = changed (claimed_irq actor local key) found
word_done shape actor local (GiveBack key back) found = changed (given_back actor back) found
word_done shape actor local (Release key) found = changed (released (is_active_at key local)) found
word_done shape actor local (Poll reg write) found = packed_vcpu (record (vcpu_of found) { kick = false })
word_done shape actor local (Kick vcpu) found = packed_vcpu (record (vcpu_of found) { kick = true })
word_done shape actor local (Touch key seen kind) found = changed (touched_irq shape key kind) found
word_done shape actor local (Want key) found = changed (λ irq. record irq { want = true }) found
word_done shape actor local (WireUp key) found = changed wire_up found
word_done shape actor local (WireDown key) found = changed wire_down found
word_done shape actor local (EnableLpis vcpu) found = packed_vcpu (record { lpis = true; kick = true })
word_done shape actor local (RamLook index) found = found
word_done shape actor local (RamPut index seen value) found = value
word_done shape actor local (CtlrTake seen value) found = packed_ctlr (record { enables = enables_in value; mark = Some actor })
word_done shape actor local CtlrEnd found = packed_ctlr (record (ctlr_of found) { mark = None })
word_done shape actor local (TurnTake seen) found = packed_queue (record (queue_of found) { turn = Some actor })
word_done shape actor local (CommandDone offset stalled ending) found = packed_queue (record (queue_of found) { offset = offset; stalled = stalled })
word_done shape actor local TurnRelease found = packed_queue (record (queue_of found) { turn = None })
word_done shape actor local (Mark key vcpu) found = bit_or found (2 ^ (index_bit shape key % 64))
word_done shape actor local (TakeIndex word) found = 0
word_done shape actor local (LineEnter line seen) found = packed_line (with_inside shape actor (line_of found))
word_done shape actor local (LineLeave line) found = packed_line (without_inside shape actor (line_of found))
word_done shape actor local (LineFill line device event lpi) found = packed_line (record { pair = Some (device, event); lpi = lpi; inside = 0 })
word_done shape actor local (LineClose line) found = packed_line (record { pair = None; lpi = 8192; inside = (line_of found).inside })

-- the word after a step
abbrev pub word_after : GuestShape → ℕ → Local → CoreStep → ℕ → ℕ
word_after shape actor local step found = if succeeds shape actor local step found then word_done shape actor local step found else found
