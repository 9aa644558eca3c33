-- Events that move no LPI and map nothing.
use Rattle.std.proofs.Common.{◌≡◌, ℕ, ◌==◌, Bool, true, false, cond, List, [], ◌∷◌, Option, Some, None, refl, sym, ap, ◌∙◌}
use Rattle.std.specs.List.{list_all}
use Rattle.std.specs.Option.{option_map_or}
use Rattle.std.proofs.lemmas.Bool.{and_parts}
use Rattle.law_lone_calls_are_eager.specs.Words.{IccReg, Key, Private, Spi, Lpi, SetPending, key_of, Irq, raised, wire_up, wire_down, acknowledged, deactivated, is_number, target_in}
use Rattle.law_lone_calls_are_eager.specs.Registers.{taken_by, deactivated_by, Candidate, has_target}
use Rattle.law_lone_calls_are_eager.specs.Calls.{Event, Up, Down, Enable, Touch, Cpu, Put, CtlrBegin, Runs, Done, Stalls, Register, Enables, touched}
use Rattle.law_lone_calls_are_eager.specs.GicCall.declared.event.Event.TheVariants.{Raise, Queue}
use Rattle.law_lone_calls_are_eager.specs.Histories.{IdealGuest, cpu_at, candidates, changed_irq, after_acknowledge, after_deactivation, after_event, after_events, AreForNone}
use Rattle.law_lone_calls_are_eager.specs.IdealGuests.Ideal.{after_access}
use Rattle.law_lone_calls_are_eager.proofs.IdealGuests.KeyLemmas.{IsWhole, whole_changed_at, tables_access}
use Rattle.law_lone_calls_are_eager.proofs.MomentLemmas.{target_at, guest_whole}
use Rattle.law_lone_calls_are_eager.proofs.PassLemmas.{is_plain_touch}
use Rattle.law_unmapped_lpis.proofs.PartLemmas.{changed_none}

abbrev pub is_calm : Event → Bool
is_calm (Touch key touching) = is_plain_touch key touching
is_calm (Queue offset (Done words)) = false
is_calm event = true

raised_route : (b : Bool) (irq : Irq) → (cond b (raised irq) irq).route ≡ irq.route
raised_route true irq = refl
raised_route false irq = refl

deactivated_route : (b : Bool) (irq : Irq) → (cond b (let made : Irq = record irq { act_by = None } in made) irq).route ≡ irq.route
deactivated_route true irq = refl
deactivated_route false irq = refl

-- a change that leaves where interrupts are routed
routed_none : (guest : IdealGuest) (id : ℕ) (key : Key) (change : Irq → Irq) → IsWhole guest → ((irq : Irq) → (change irq).route ≡ irq.route) → target_at guest id ≡ None → target_at (changed_irq key change guest) id ≡ None
routed_none guest id key change whole kept none = changed_none guest id key change whole (λ same. ap (λ r. target_in r guest.shape) (kept _) ∙ none) (λ differ. none)

-- an access of a CPU interface register
access_none : (guest : IdealGuest) (id vcpu : ℕ) (reg : IccReg) (write : Option ℕ) → IsWhole guest → target_at guest id ≡ None → target_at (after_access reg write guest vcpu) id ≡ None
access_none guest id vcpu reg write whole none = ended (deactivated_by reg write (cpu_at guest vcpu)) (acked_whole taken) (acked taken)
  where
    taken : Option Candidate
    taken = taken_by reg write (cpu_at guest vcpu) (candidates guest vcpu)

    acked : (o : Option Candidate) → target_at (after_acknowledge o guest vcpu) id ≡ None
    acked None = none
    acked (Some found) = of (key_of found.id vcpu guest.shape)
      where
        of : (o : Option Key) → target_at (option_map_or (λ key. changed_irq key (acknowledged key vcpu) guest) o guest) id ≡ None
        of None = none
        of (Some key) = routed_none guest id key (acknowledged key vcpu) whole (λ irq. refl) none

    acked_whole : (o : Option Candidate) → IsWhole (after_acknowledge o guest vcpu)
    acked_whole None = whole
    acked_whole (Some found) = whole_changed_at found.id vcpu (λ key irq. acknowledged key vcpu irq) guest whole

    ended : (o : Option ℕ) → {g : IdealGuest} → IsWhole g → target_at g id ≡ None → target_at (after_deactivation o g vcpu) id ≡ None
    ended None w now = now
    ended (Some named) {g} w now = of (key_of named vcpu g.shape)
      where
        of : (o : Option Key) → target_at (option_map_or (λ key. changed_irq key (deactivated vcpu) g) o g) id ≡ None
        of None = now
        of (Some key) = routed_none g id key (deactivated vcpu) w (λ irq. deactivated_route (is_number vcpu irq.act_by) irq) now

-- one event, and some
event_none : (guest : IdealGuest) → IsWhole guest → AreForNone guest → (event : Event) → is_calm event ≡ true → AreForNone (after_event guest event)
event_none guest whole none (Raise key) calm = λ id lost. routed_none guest id key raised whole (λ irq. refl) (none id lost)
event_none guest whole none (Up key) calm = λ id lost. routed_none guest id key wire_up whole (λ irq. refl) (none id lost)
event_none guest whole none (Down key) calm = λ id lost. routed_none guest id key wire_down whole (λ irq. refl) (none id lost)
event_none guest whole none (Enable vcpu) calm = none
event_none guest whole none (Touch (Private vcpu i) touching) calm = λ id lost. changed_none guest id (Private vcpu i) (touched guest.shape (Private vcpu i) touching) whole (λ same. absurd (cc)) (λ differ. none id lost)
event_none guest whole none (Touch (Spi i) touching) calm = λ id lost. changed_none guest id (Spi i) (touched guest.shape (Spi i) touching) whole (λ same. absurd (cc)) (λ differ. none id lost)
event_none guest whole none (Touch (Lpi i) (Register SetPending value)) calm = λ id lost. routed_none guest id (Lpi i) (touched guest.shape (Lpi i) (Register SetPending value)) whole (raised_route (value == 1)) (none id lost)
event_none guest whole none (Touch (Lpi i) (Enables en0 en1)) calm = λ id lost. routed_none guest id (Lpi i) (touched guest.shape (Lpi i) (Enables en0 en1)) whole (λ irq. refl) (none id lost)
event_none guest whole none (Touch (Lpi i) touching) calm = absurd (cc)
event_none guest whole none (Cpu vcpu reg write) calm = λ id lost. access_none guest id vcpu reg write whole (none id (ap (λ maps. has_target maps id) (sym (tables_access reg write guest vcpu)) ∙ lost))
event_none guest whole none (Put word value) calm = none
event_none guest whole none (CtlrBegin enables) calm = none
event_none guest whole none (Queue offset Runs) calm = none
event_none guest whole none (Queue offset (Stalls fault)) calm = none
event_none guest whole none (Queue offset (Done words)) calm = absurd (cc)
event_none guest whole none event calm = none

pub events_none : (events : List Event) (guest : IdealGuest) → IsWhole guest → AreForNone guest → list_all is_calm events ≡ true → AreForNone (after_events events guest)
events_none [] guest whole none calm = none
events_none (event ∷ events) guest whole none calm =
    let both = and_parts (is_calm event) (list_all is_calm events) calm in
    events_none events (after_event guest event) (guest_whole event guest whole) (event_none guest whole none event both.0) both.1
