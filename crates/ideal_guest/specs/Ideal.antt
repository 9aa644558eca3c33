-- What the ideal controller does to one guest. It has no list registers: what is deliverable is at the interface.
use Rattle.std.specs.Prelude.{ℕ, zero, suc, Bool, true, false, List, fold, slice_index, slice_set, if◌then◌else◌, Option, Some, None}
use Rattle.std.specs.List.{slice_index_or, range_with_len, filter_map}
use Rattle.std.specs.Option.{option_map_or}
use Rattle.floor_calls.specs.Words.{Irq, raised, wire_up, wire_down, acknowledged, deactivated, target_in, Key, Lpi, IccReg, GuestShape, interrupt_count, intid_of, is_same_key, key_at, key_of}
use Rattle.floor_calls.specs.Registers.{CpuRec, Candidate, is_deliverable, taken_by, deactivated_by, answer_of, cpu_after}
use Rattle.floor_calls.specs.Calls.{irq_in, with_irq_in, opening_cpu, PlainWord, Cbaser, Fault, has_plain, place_of_plain, Event, Up, Down, Enable, Touch, Cpu, Put, CtlrBegin, QueueChange, Runs, Done, Stalls, touched, View, takes_command, command_events, queue_places, maps_done}
use Rattle.floor_calls.specs.GicCall.declared.event.Event.TheVariants.{Raise, Queue}
use Rattle.ideal_guest.specs.declared.guest.IdealGuest.{IdealGuest}

-- the record of an interrupt that the guest has
abbrev pub irq_at : IdealGuest → Key → Irq
irq_at guest key = irq_in guest.shape guest.irqs key

-- the guest after a change of the record of an interrupt; nothing changes where the guest has no such interrupt
abbrev pub changed_irq : Key → (Irq → Irq) → IdealGuest → IdealGuest
changed_irq key change guest = record guest { irqs = with_irq_in guest.shape key (change (irq_at guest key)) guest.irqs }

-- the same of the interrupt with this INTID at this vCPU
abbrev pub changed_at : ℕ → ℕ → (Key → Irq → Irq) → IdealGuest → IdealGuest
changed_at id vcpu change guest = option_map_or (λ key. changed_irq key (change key) guest) (key_of id vcpu guest.shape) guest

-- the interrupt is the one with this INTID at this vCPU
abbrev pub is_named : ℕ → ℕ → GuestShape → Key → Bool
is_named id vcpu shape key = option_map_or (is_same_key key) (key_of id vcpu shape) false

-- the record of a vCPU's CPU interface
abbrev pub cpu_at : IdealGuest → ℕ → CpuRec
cpu_at guest vcpu = slice_index_or guest.cpus vcpu (opening_cpu false)

-- the guest with this record of a vCPU's CPU interface
abbrev pub with_cpu : IdealGuest → ℕ → CpuRec → IdealGuest
with_cpu guest vcpu cpu = record guest { cpus = slice_set guest.cpus vcpu cpu }

-- the interrupt at a place in key order, if it is deliverable to the vCPU
abbrev pub candidate_at : IdealGuest → ℕ → ℕ → Option Candidate
candidate_at guest vcpu place =
    let key = key_at guest.shape place in
    let irq = irq_at guest key in
    if is_deliverable key irq vcpu (cpu_at guest vcpu) guest.shape then Some (record { id = intid_of key; prio = irq.prio; group = irq.group }) else None

-- all interrupts that are deliverable to the vCPU
abbrev pub candidates : IdealGuest → ℕ → List Candidate
candidates guest vcpu = filter_map (candidate_at guest vcpu) (range_with_len 0 (interrupt_count guest.shape))

-- the guest after the acknowledge of a candidate by this vCPU, or of none
abbrev pub after_acknowledge : Option Candidate → IdealGuest → ℕ → IdealGuest
after_acknowledge taken guest vcpu = option_map_or (λ found. changed_at found.id vcpu (λ key irq. acknowledged key vcpu irq) guest) taken guest

-- the guest after a deactivation by this vCPU of the interrupt with an INTID, or of none
abbrev pub after_deactivation : Option ℕ → IdealGuest → ℕ → IdealGuest
after_deactivation named guest vcpu = option_map_or (λ id. changed_at id vcpu (λ key irq. deactivated vcpu irq) guest) named guest

-- the guest after a read or a write of a CPU interface register by this vCPU, where the interrupts that can be delivered are all
-- that are deliverable to it
abbrev pub after_access : IccReg → Option ℕ → IdealGuest → ℕ → IdealGuest
after_access reg write guest vcpu =
    let cpu = cpu_at guest vcpu in
    let among = candidates guest vcpu in
    let acknowledged = after_acknowledge (taken_by reg write cpu among) guest vcpu in
    with_cpu (after_deactivation (deactivated_by reg write cpu) acknowledged vcpu) vcpu (cpu_after reg write cpu among)

-- what the access reads
abbrev pub access_answer : IccReg → Option ℕ → IdealGuest → ℕ → Option ℕ
access_answer reg write guest vcpu = answer_of reg write (cpu_at guest vcpu) (candidates guest vcpu)

-- the plain word of a guest; 0 where it has none
abbrev pub word_at : IdealGuest → PlainWord → ℕ
word_at guest word = if has_plain guest.shape word then slice_index guest.words (place_of_plain guest.shape word) else 0

-- the guest with this value in a plain word, where it has the word
abbrev pub with_word : IdealGuest → PlainWord → ℕ → IdealGuest
with_word guest word value =
    record guest { words = if has_plain guest.shape word then slice_set guest.words (place_of_plain guest.shape word) value else guest.words }

-- what a call finds: no write of GICD_CTLR is ever half done
abbrev pub view_of : IdealGuest → View
view_of guest =
    record {
      irqs = irq_at guest;
      targets = λ id. target_in (irq_at guest (Lpi id)).route guest.shape;
      lpis = λ vcpu. (cpu_at guest vcpu).lpis;
      words = word_at guest;
      enables = guest.enables;
      is_spreading = false;
      offset = guest.offset;
      is_stalled = guest.is_stalled;
      maps = guest.tables;
    }

-- the guest with its queue at an offset, stalled or not
abbrev pub with_queue : IdealGuest → ℕ → Bool → IdealGuest
with_queue guest offset is_stalled = record guest { offset = offset; is_stalled = is_stalled }

-- the guest after its queue went on: a command that is done changes the maps, and the fault of one that is not is stored
abbrev pub after_queue : ℕ → QueueChange → IdealGuest → IdealGuest
after_queue offset Runs guest = with_queue guest offset false
after_queue offset (Done words) guest = record (with_queue guest offset false) { tables = maps_done guest.tables words }
after_queue offset (Stalls fault) guest = with_queue (with_word guest Fault fault) offset true

-- the guest after an event. Nothing stands at an interface, so nothing moves there; and nobody waits for a mark
abbrev pub after_event : IdealGuest → Event → IdealGuest
after_event guest (Raise key) = changed_irq key raised guest
after_event guest (Up key) = changed_irq key wire_up guest
after_event guest (Down key) = changed_irq key wire_down guest
after_event guest (Enable vcpu) = with_cpu guest vcpu (record (cpu_at guest vcpu) { lpis = true })
after_event guest (Touch key touching) = changed_irq key (touched guest.shape key touching) guest
after_event guest (Cpu vcpu reg write) = after_access reg write guest vcpu
after_event guest (Put word value) = with_word guest word value
after_event guest (CtlrBegin enables) = record guest { enables = enables }
after_event guest (Queue offset change) = after_queue offset change guest
after_event guest event = guest

-- the guest after some events
abbrev pub after_events : List Event → IdealGuest → IdealGuest
after_events events guest = fold after_event guest events

-- the guest after the next command of its queue
abbrev pub after_command : IdealGuest → IdealGuest
after_command guest = after_events (command_events guest.shape (view_of guest)) guest

-- the guest after the commands that are taken, of at most so many
abbrev pub after_commands : ℕ → IdealGuest → IdealGuest
after_commands zero guest = guest
after_commands (suc most) guest = if takes_command (view_of guest) then after_commands most (after_command guest) else guest

-- the guest after all commands that are taken: no more than the queue has places, since each goes one place on, or stalls
abbrev pub after_queued : IdealGuest → IdealGuest
after_queued guest = after_commands (queue_places (word_at guest Cbaser)) guest
