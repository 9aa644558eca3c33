-- Laws of the ideal controller, over every list of steps, and so over all their events.
use Rattle.std.specs.Prelude.{◌≡◌, ◌≢◌, ℕ, ◌&&◌, ◌||◌, ◌++◌, ◌↔◌, Bool, IsTrue, false, not, nat_le, nat_lt, Option, Some, None, List, [], ◌∷◌, slice_get, map, All}
use Rattle.scn_base.specs.GicWord.declared.record.Group.{Group}
use Rattle.ideal_guest.specs.Words.{G0, G1, Irq, is_pending, has_active_state, Key, Spi, has_interrupt, intid_of, IccReg, Iar0, Iar1}
use Rattle.ideal_guest.specs.Registers.{IsUnanswered, Preempts, fault_number}
use Rattle.ideal_guest.specs.Calls.{GuestSpec, IsGoodGuest, shapes_of, Event, Cpu, Done, IsOffset, HappensFreely}
use Rattle.scn_base.specs.declared.step.Step.{Step}
use Rattle.scn_base.specs.declared.step.Mode.{Mode}
use Rattle.scn_base.specs.Good.{is_formed}
use Rattle.ideal_guest.specs.GicCall.declared.event.Event.TheVariants.{Queue}
use Rattle.ideal_guest.specs.ItsCmd.Command.{decoded}
use Rattle.ideal_guest.specs.declared.guest.IdealGuest.{IdealGuest}
use Rattle.ideal_guest.specs.Opening.{opening}
use Rattle.ideal_guest.specs.Ideal.{irq_at, cpu_at, candidates, access_answer, after_event, after_events}
use Rattle.gic_ideal.specs.Eager.{after_steps, state_shapes}
use Rattle.ideal_guest.specs.Sound.{IsSound}
use Rattle.gic_ideal.specs.Deeds.{steps_events, acknowledges, deactivates, causes, is_latched, is_caused_since, one_does}

-- Which events a guest can have.

-- an event that can follow in this state: one that happens whatever the ITS has mapped, or the end of a command without a fault
abbrev pub CanFollow : IdealGuest → Event → Type 0
CanFollow guest (Queue offset (Done words)) = IsOffset offset × (fault_number guest.shape guest.tables (decoded words) ≡ None)
CanFollow guest event = HappensFreely guest.shape event

-- events of which each can follow those before it
pub record ThenFollows (guest : IdealGuest) (event : Event) (Rest : Type 0) : Type 0 where
  pub can : CanFollow guest event
  pub rest : Rest

abbrev pub CanFollowAll : IdealGuest → List Event → Type 0
CanFollowAll guest [] = Unit {0}
CanFollowAll guest (event ∷ events) = ThenFollows guest event (CanFollowAll (after_event guest event) events)

-- the steps are ones that these guests can make
abbrev pub AreFormed : Mode → ℕ → List IdealGuest → List Step → Type 0
AreFormed mode pes guests steps = All (λ step. IsTrue (is_formed mode pes (state_shapes guests) step)) steps

-- what a guest is after some steps is what its events, one after the other, make of it
abbrev pub StepsAreEvents : Type 0
StepsAreEvents =
    (guests : List IdealGuest) (steps : List Step) (n : ℕ) (guest : IdealGuest) → slice_get guests n ≡ Some guest →
    slice_get (after_steps steps guests) n ≡ Some (after_events (steps_events n steps guest) guest)

-- each event of the steps that guests can make can follow those before it
abbrev pub StepsCanFollow : Type 0
StepsCanFollow =
    (mode : Mode) (pes : ℕ) (guests : List IdealGuest) (steps : List Step) (n : ℕ) (guest : IdealGuest) → All IsSound guests → AreFormed mode pes guests steps →
    slice_get guests n ≡ Some guest → CanFollowAll guest (steps_events n steps guest)

-- each state that a guest reaches is sound, so the other laws hold in every run
abbrev pub EventsKeepSound : Type 0
EventsKeepSound = (guest : IdealGuest) (events : List Event) → IsSound guest → CanFollowAll guest events → IsSound (after_events events guest)

abbrev pub RunsAreSound : Type 0
RunsAreSound =
    (mode : Mode) (pes : ℕ) (guests : List GuestSpec) (steps : List Step) → All IsGoodGuest guests → All (λ step. IsTrue (is_formed mode pes (shapes_of guests) step)) steps →
    All IsSound (after_steps steps (map opening guests))

-- Causes.

-- the wire of a level-sensitive interrupt is up
abbrev pub is_level_up : Irq → Bool
is_level_up irq = not irq.edge && irq.line

-- an interrupt was pending, and has no cause left but a level line that is up
pub record LosesCause (before after : Irq) : Type 0 where
  pub had : IsTrue (is_pending before)
  pub no_rise : after.rise ≡ false
  pub no_soft : after.soft ≡ false
  pub left : is_pending after ≡ is_level_up after

-- an interrupt has a latched cause exactly where one came since the last event that took it away: none is lost, and none invented
-- (IHI 0069, "Interrupt handling state machine")
abbrev pub LatchedExactly : Type 0
LatchedExactly =
    (guest : IdealGuest) (events : List Event) (key : Key) → IsSound guest → CanFollowAll guest events → IsTrue (has_interrupt guest.shape key) →
    is_latched (irq_at (after_events events guest) key) ≡ is_caused_since (is_latched (irq_at guest key)) events guest key

-- so an edge-triggered interrupt is pending exactly where a cause came since the guest opened and since the last event that took it away
abbrev pub EdgePendingExactly : Type 0
EdgePendingExactly =
    (spec : GuestSpec) (events : List Event) (key : Key) → IsGoodGuest spec → CanFollowAll (opening spec) events → IsTrue (has_interrupt spec.shape key) →
    IsTrue (irq_at (after_events events (opening spec)) key).edge → is_pending (irq_at (after_events events (opening spec)) key) ≡ is_caused_since false events (opening spec) key

-- an interrupt that is acknowledged had a cause, and has lost it (IHI 0069, "Interrupt handling state machine")
abbrev pub AcknowledgeTakesCause : Type 0
AcknowledgeTakesCause =
    (guest : IdealGuest) (event : Event) (key : Key) → IsSound guest → IsTrue (acknowledges event guest key) → LosesCause (irq_at guest key) (irq_at (after_event guest event) key)

-- Answers.

-- the register that acknowledges interrupts of a group
abbrev pub iar_of : Group → IccReg
iar_of G0 = Iar0
iar_of G1 = Iar1

-- the read of it by a vCPU
abbrev pub iar_read : ℕ → Group → Event
iar_read vcpu group = Cpu vcpu (iar_of group) None

-- an event that acknowledges an interrupt answers its INTID (IHI 0069, ICC_IAR0 and ICC_IAR1)
abbrev pub AcknowledgeAnswers : Type 0
AcknowledgeAnswers =
    (guest : IdealGuest) (vcpu : ℕ) (reg : IccReg) (write : Option ℕ) (key : Key) → IsTrue (acknowledges (Cpu vcpu reg write) guest key) → access_answer reg write guest vcpu ≡ Some (intid_of key)

-- an event acknowledges an interrupt with this INTID
pub record AcknowledgesId (event : Event) (id : ℕ) (guest : IdealGuest) : Type 0 where
  pub key : Key
  pub done : IsTrue (acknowledges event guest key)
  pub intid : intid_of key ≡ id

-- a read of IAR that answers another INTID than 1023 acknowledges an interrupt with it (IHI 0069, ICC_IAR0 and ICC_IAR1)
abbrev pub AnswerAcknowledges : Type 0
AnswerAcknowledges =
    (guest : IdealGuest) (vcpu id : ℕ) (group : Group) → IsSound guest → id ≢ 1023 → access_answer (iar_of group) None guest vcpu ≡ Some id → AcknowledgesId (iar_read vcpu group) id guest

-- a read of IAR answers 1023 exactly where nothing is deliverable to the vCPU, or the first interrupt that is deliverable is of the other
-- group or is not signalled (IHI 0069, ICC_IAR0 and ICC_IAR1)
abbrev pub SpuriousReadExactly : Type 0
SpuriousReadExactly =
    (guest : IdealGuest) (vcpu : ℕ) (group : Group) → IsSound guest → (access_answer (iar_of group) None guest vcpu ≡ Some 1023) ↔ IsUnanswered group (cpu_at guest vcpu) (candidates guest vcpu)

-- after a read of IAR that acknowledges an interrupt, the running priority is the group priority of that interrupt, and nothing of an
-- equal or lower one is signalled (IHI 0069, "Preemption")
abbrev pub AcknowledgeRuns : Type 0
AcknowledgeRuns =
    (guest : IdealGuest) (vcpu : ℕ) (key : Key) (group : Group) → IsSound guest → IsTrue (acknowledges (iar_read vcpu group) guest key) →
    Preempts (irq_at guest key).prio group (cpu_at guest vcpu) (cpu_at (after_event guest (iar_read vcpu group)) vcpu)

-- Between two acknowledges.

-- an event, events after it, and another one, each of which can follow those before it
abbrev pub CanFollowBetween : IdealGuest → Event → List Event → Event → Type 0
CanFollowBetween guest first between next = CanFollowAll guest (first ∷ between ++ next ∷ [])

-- between two acknowledges of an interrupt it is deactivated, if it is not an LPI, which has no active state: an active
-- interrupt is not acknowledged again (IHI 0069, "Interrupt handling state machine")
abbrev pub DeactivatedBetween : Type 0
DeactivatedBetween =
    (guest : IdealGuest) (key : Key) (first : Event) (between : List Event) (next : Event) → IsSound guest → CanFollowBetween guest first between next → IsTrue (has_active_state key) →
    IsTrue (acknowledges first guest key) → IsTrue (acknowledges next (after_events (first ∷ between) guest) key) → IsTrue (one_does deactivates between (after_event guest first) key)

-- between two acknowledges of an interrupt there is a new cause, or its level line is up at the second
-- (IHI 0069, "Interrupt handling state machine")
abbrev pub CausedBetween : Type 0
CausedBetween =
    (guest : IdealGuest) (key : Key) (first : Event) (between : List Event) (next : Event) → IsSound guest → CanFollowBetween guest first between next →
    IsTrue (acknowledges first guest key) → IsTrue (acknowledges next (after_events (first ∷ between) guest) key) →
    IsTrue (one_does causes between (after_event guest first) key || is_level_up (irq_at (after_events (first ∷ between) guest) key))

-- an INTID that is an SPI's in some guests and no other interrupt's in any (IHI 0069, "INTIDs")
abbrev pub is_spi_id : ℕ → Bool
is_spi_id id = (nat_le 32 id && nat_lt id 1020) || (nat_le 4096 id && nat_lt id 5120)

-- the same of two reads of IAR, by any vCPUs of a guest, that answer the INTID of one SPI
abbrev pub CausedBetweenReads : Type 0
CausedBetweenReads =
    (guest : IdealGuest) (vcpu other id : ℕ) (group next : Group) (between : List Event) → IsSound guest → CanFollowBetween guest (iar_read vcpu group) between (iar_read other next) →
    IsTrue (is_spi_id id) → access_answer (iar_of group) None guest vcpu ≡ Some id → access_answer (iar_of next) None (after_events (iar_read vcpu group ∷ between) guest) other ≡ Some id →
    IsTrue (one_does causes between (after_event guest (iar_read vcpu group)) (Spi id) || is_level_up (irq_at (after_events (iar_read vcpu group ∷ between) guest) (Spi id)))
