-- What an event does to the record of one interrupt.
use Rattle.std.proofs.Common.{◌≡◌, ℕ, Bool, false, cond, IsTrue, Option, Some, None, refl, ap, ◌∙◌}
use Rattle.std.specs.Option.{option_map_or}
use Rattle.ideal_guest.specs.Words.{Irq, raised, wire_up, wire_down, acknowledged, deactivated, IccReg, Key, has_interrupt, is_same_key}
use Rattle.ideal_guest.specs.Registers.{Candidate, taken_by, deactivated_by}
use Rattle.ideal_guest.specs.Calls.{Event, Up, Down, Enable, Touch, Reach, Take, Leave, Cpu, Put, CtlrBegin, CtlrEnd, ItsBegin, Runs, Done, Stalls, touched}
use Rattle.ideal_guest.specs.GicCall.declared.event.Event.TheVariants.{Raise, Read, ItsEnd, Queue}
use Rattle.ideal_guest.specs.declared.guest.IdealGuest.{IdealGuest}
use Rattle.ideal_guest.specs.Ideal.{irq_at, cpu_at, candidates, after_acknowledge, after_deactivation, after_access, after_event, is_named}
use Rattle.gic_ideal.specs.Deeds.{acknowledges}
use Rattle.ideal_guest.proofs.KeyLemmas.{IsWhole, irq_changed, irq_changed_at, whole_changed_at, shape_changed_at, cpus_changed_at, shape_access}

-- an acknowledge of a candidate, or of none
acknowledge_effect : (taken : Option Candidate) (guest : IdealGuest) (vcpu : ℕ) (key : Key) → IsWhole guest → IsTrue (has_interrupt guest.shape key) → irq_at (after_acknowledge taken guest vcpu) key ≡ cond (option_map_or (λ found. is_named found.id vcpu guest.shape key) taken false) (acknowledged key vcpu (irq_at guest key)) (irq_at guest key)
acknowledge_effect None guest vcpu key whole there = refl
acknowledge_effect (Some found) guest vcpu key whole there = irq_changed_at guest found.id vcpu key (λ key irq. acknowledged key vcpu irq) whole there

-- a deactivation by an INTID, or of none
deactivation_effect : (named : Option ℕ) (guest : IdealGuest) (vcpu : ℕ) (key : Key) → IsWhole guest → IsTrue (has_interrupt guest.shape key) → irq_at (after_deactivation named guest vcpu) key ≡ cond (option_map_or (λ id. is_named id vcpu guest.shape key) named false) (deactivated vcpu (irq_at guest key)) (irq_at guest key)
deactivation_effect None guest vcpu key whole there = refl
deactivation_effect (Some id) guest vcpu key whole there = irq_changed_at guest id vcpu key (λ key irq. deactivated vcpu irq) whole there

-- what an acknowledge keeps of the guest
pub whole_acknowledged : (taken : Option Candidate) (guest : IdealGuest) (vcpu : ℕ) → IsWhole guest → IsWhole (after_acknowledge taken guest vcpu)
whole_acknowledged None guest vcpu whole = whole
whole_acknowledged (Some found) guest vcpu whole = whole_changed_at found.id vcpu (λ key irq. acknowledged key vcpu irq) guest whole

pub shape_acknowledged : (taken : Option Candidate) (guest : IdealGuest) (vcpu : ℕ) → (after_acknowledge taken guest vcpu).shape ≡ guest.shape
shape_acknowledged None guest vcpu = refl
shape_acknowledged (Some found) guest vcpu = shape_changed_at found.id vcpu (λ key irq. acknowledged key vcpu irq) guest

pub cpus_acknowledged : (taken : Option Candidate) (guest : IdealGuest) (vcpu : ℕ) → (after_acknowledge taken guest vcpu).cpus ≡ guest.cpus
cpus_acknowledged None guest vcpu = refl
cpus_acknowledged (Some found) guest vcpu = cpus_changed_at found.id vcpu (λ key irq. acknowledged key vcpu irq) guest

-- an access names the interrupt for a deactivation
abbrev pub is_ended : IccReg → Option ℕ → IdealGuest → ℕ → Key → Bool
is_ended reg write guest vcpu key = option_map_or (λ id. is_named id vcpu guest.shape key) (deactivated_by reg write (cpu_at guest vcpu)) false

-- the record of an interrupt after an access of a CPU interface register
abbrev pub accessed : IccReg → Option ℕ → IdealGuest → ℕ → Key → Irq → Irq
accessed reg write guest vcpu key irq =
    let next = cond (acknowledges (Cpu vcpu reg write) guest key) (acknowledged key vcpu irq) irq in cond (is_ended reg write guest vcpu key) (deactivated vcpu next) next

access_effect : (reg : IccReg) (write : Option ℕ) (guest : IdealGuest) (vcpu : ℕ) (key : Key) → IsWhole guest → IsTrue (has_interrupt guest.shape key) → irq_at (after_access reg write guest vcpu) key ≡ accessed reg write guest vcpu key (irq_at guest key)
access_effect reg write guest vcpu key whole there =
    let taken = taken_by reg write (cpu_at guest vcpu) (candidates guest vcpu) in
    let named = deactivated_by reg write (cpu_at guest vcpu) in
    let middle = after_acknowledge taken guest vcpu in
    let same : middle.shape ≡ guest.shape = shape_acknowledged taken guest vcpu in
    let there_too : IsTrue (has_interrupt middle.shape key) = ap (λ shape. has_interrupt shape key) same ∙ there in
    deactivation_effect named middle vcpu key (whole_acknowledged taken guest vcpu whole) there_too
    ∙ ap (λ shape. cond (option_map_or (λ id. is_named id vcpu shape key) named false) (deactivated vcpu (irq_at middle key)) (irq_at middle key)) same
    ∙ ap (λ irq. cond (is_ended reg write guest vcpu key) (deactivated vcpu irq) irq) (acknowledge_effect taken guest vcpu key whole there)

-- the record of an interrupt after an event
abbrev pub changed_by : Event → IdealGuest → Key → Irq → Irq
changed_by (Raise j) guest key irq = cond (is_same_key key j) (raised irq) irq
changed_by (Up j) guest key irq = cond (is_same_key key j) (wire_up irq) irq
changed_by (Down j) guest key irq = cond (is_same_key key j) (wire_down irq) irq
changed_by (Touch j touch) guest key irq = cond (is_same_key key j) (touched guest.shape j touch irq) irq
changed_by (Cpu vcpu reg write) guest key irq = accessed reg write guest vcpu key irq
changed_by event guest key irq = irq

pub event_effect : (event : Event) (guest : IdealGuest) (key : Key) → IsWhole guest → IsTrue (has_interrupt guest.shape key) → irq_at (after_event guest event) key ≡ changed_by event guest key (irq_at guest key)
event_effect (Raise j) guest key whole there = irq_changed guest j key raised whole there
event_effect (Up j) guest key whole there = irq_changed guest j key wire_up whole there
event_effect (Down j) guest key whole there = irq_changed guest j key wire_down whole there
event_effect (Touch j touch) guest key whole there = irq_changed guest j key (touched guest.shape j touch) whole there
event_effect (Cpu vcpu reg write) guest key whole there = access_effect reg write guest vcpu key whole there
event_effect (Enable vcpu) guest key whole there = refl
event_effect (Reach j vcpu) guest key whole there = refl
event_effect (Take j vcpu) guest key whole there = refl
event_effect (Leave j vcpu) guest key whole there = refl
event_effect (Read place) guest key whole there = refl
event_effect (Put word value) guest key whole there = refl
event_effect (CtlrBegin enables) guest key whole there = refl
event_effect CtlrEnd guest key whole there = refl
event_effect ItsBegin guest key whole there = refl
event_effect ItsEnd guest key whole there = refl
event_effect (Queue offset Runs) guest key whole there = refl
event_effect (Queue offset (Done words)) guest key whole there = refl
event_effect (Queue offset (Stalls fault)) guest key whole there = refl

-- what the guest has of each kind stays
pub shape_event : (event : Event) (guest : IdealGuest) → (after_event guest event).shape ≡ guest.shape
shape_event (Raise j) guest = refl
shape_event (Up j) guest = refl
shape_event (Down j) guest = refl
shape_event (Touch j touch) guest = refl
shape_event (Cpu vcpu reg write) guest = shape_access reg write guest vcpu
shape_event (Enable vcpu) guest = refl
shape_event (Reach j vcpu) guest = refl
shape_event (Take j vcpu) guest = refl
shape_event (Leave j vcpu) guest = refl
shape_event (Read place) guest = refl
shape_event (Put word value) guest = refl
shape_event (CtlrBegin enables) guest = refl
shape_event CtlrEnd guest = refl
shape_event ItsBegin guest = refl
shape_event ItsEnd guest = refl
shape_event (Queue offset Runs) guest = refl
shape_event (Queue offset (Done words)) guest = refl
shape_event (Queue offset (Stalls fault)) guest = refl
