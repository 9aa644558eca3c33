-- What an event does to the causes and to the active state of an interrupt.
use Rattle.std.proofs.Common.{◌≡◌, ℕ, Bool, true, false, not, cond, ◌==◌, ◌&&◌, ◌||◌, IsTrue, is_some, Option, Some, None, refl, ap, subst, ◌∙◌, arith}
use Rattle.std.specs.Option.{option_map_or}
use Rattle.std.proofs.lemmas.Grind.{common_steps}
use Rattle.ideal_guest.specs.Words.{has_bit, Irq, is_pending, is_number, target_in, raised, wire_up, wire_down, cleared, acknowledged, deactivated, has_active_state, GuestShape, IccReg, Key, Private, Spi, Lpi, Kind, SetEnable, ClearEnable, SetPending, ClearPending, SetActive, ClearActive, Priority, Config, Routing, has_interrupt, is_same_key, is_sgi}
use Rattle.scn_base.specs.GicBase.declared.operation.Kind.TheVariants.{Group}
use Rattle.ideal_guest.specs.Registers.{part_written, activated}
use Rattle.ideal_guest.specs.Calls.{has_wire, Event, Up, Down, Enable, Touch, Reach, Take, Leave, Cpu, Put, CtlrBegin, CtlrEnd, ItsBegin, Touching, Register, Enables, MapLpi, CanTouch, is_lpi, touched}
use Rattle.ideal_guest.specs.GicCall.declared.event.Event.TheVariants.{Raise, Read, ItsEnd, Queue}
use Rattle.ideal_guest.specs.GicCall.declared.touch.Touching.TheVariants.{Read as ReadPart, Retarget, Configure, Forget}
use Rattle.ideal_guest.specs.declared.guest.IdealGuest.{IdealGuest}
use Rattle.ideal_guest.specs.Ideal.{irq_at, cpu_at, candidates, after_event, is_named}
use Rattle.ideal_guest.specs.Sound.{IsSound}
use Rattle.gic_ideal.specs.Laws.{CanFollow, is_level_up}
use Rattle.gic_ideal.specs.Deeds.{acknowledges, deactivates, causes, consumes, pends, clears, ends_active, is_latched}
use Rattle.scn_base.proofs.GicBase.KeyLemmas.{same_key}
use Rattle.ideal_guest.proofs.CandidateLemmas.{deliverable_pending, deliverable_inactive, taken_names_none, taken_named, taken_of}
use Rattle.gic_ideal.proofs.EffectLemmas.{is_ended, accessed, changed_by, event_effect, shape_event}
use Rattle.ideal_guest.proofs.SoundLemmas.{whole_of}
use Rattle.gic_ideal.proofs.SoundEvents.{sound_event}

-- a sound guest with an interrupt
pub record HasIt (guest : IdealGuest) (key : Key) : Type 0 where
  pub sound : IsSound guest
  pub there : IsTrue (has_interrupt guest.shape key)

pub has_after : (guest : IdealGuest) (event : Event) (key : Key) → HasIt guest key → CanFollow guest event → HasIt (after_event guest event) key
has_after guest event key has can = record { sound = sound_event guest event has.sound can; there = ap (λ shape. has_interrupt shape key) (shape_event event guest) ∙ has.there }

-- Latched causes.

latched_deactivated : (vcpu : ℕ) (irq : Irq) → is_latched (deactivated vcpu irq) ≡ is_latched irq
latched_deactivated vcpu irq = of (is_number vcpu irq.act_by)
  where
    of : (b : Bool) → is_latched (cond b (record irq { act_by = None }) irq) ≡ is_latched irq
    of true = refl
    of false = refl

latched_access : (reg : IccReg) (write : Option ℕ) (guest : IdealGuest) (vcpu : ℕ) (key : Key) (irq : Irq) → is_latched (accessed reg write guest vcpu key irq) ≡ (is_latched irq && not (acknowledges (Cpu vcpu reg write) guest key))
latched_access reg write guest vcpu key irq = ended (is_ended reg write guest vcpu key) (acknowledges (Cpu vcpu reg write) guest key)
  where
    taken : (b : Bool) → is_latched (cond b (acknowledged key vcpu irq) irq) ≡ (is_latched irq && not b)
    taken true = grind (arith, common_steps)
    taken false = grind (arith, common_steps)

    ended : (b c : Bool) → is_latched (cond b (deactivated vcpu (cond c (acknowledged key vcpu irq) irq)) (cond c (acknowledged key vcpu irq) irq)) ≡ (is_latched irq && not c)
    ended true c = latched_deactivated vcpu (cond c (acknowledged key vcpu irq) irq) ∙ taken c
    ended false c = taken c

-- a touch gives a cause, or takes the causes away, or leaves them
plain : (b : Bool) → b ≡ (false || (b && true))
plain true = refl
plain false = refl

latched_touch : (shape : GuestShape) (key : Key) (touch : Touching) (irq : Irq) → CanTouch shape key touch → IsTrue (has_wire key || not irq.rise) → is_latched (touched shape key touch irq) ≡ (pends touch || (is_latched irq && not (clears touch)))
latched_touch shape key (ReadPart kind) irq can unrisen = plain (is_latched irq)
latched_touch shape key (Register kind value) irq can unrisen = written kind
  where
    kept : (b : Bool) (one : Irq) → is_latched one ≡ is_latched irq → is_latched (cond b one irq) ≡ (false || (is_latched irq && true))
    kept true one e = e ∙ plain (is_latched irq)
    kept false one e = plain (is_latched irq)

    turned : (b : Bool) (one : Irq) → is_latched one ≡ is_latched irq → is_latched (cond b irq one) ≡ (false || (is_latched irq && true))
    turned true one e = plain (is_latched irq)
    turned false one e = e ∙ plain (is_latched irq)

    pended : (b : Bool) → is_latched (cond b (raised irq) irq) ≡ (b || (is_latched irq && true))
    pended true = grind (arith, common_steps)
    pended false = plain (is_latched irq)

    gone : (b : Bool) → is_latched (cond b (cleared irq) irq) ≡ (false || (is_latched irq && not b))
    gone true = grind (arith, common_steps)
    gone false = plain (is_latched irq)

    written : (kind : Kind) → is_latched (part_written kind key irq value shape) ≡ (pends (Register kind value) || (is_latched irq && not (clears (Register kind value))))
    written Group = plain (is_latched irq)
    written SetEnable = kept (value == 1) (record irq { enabled = true }) refl
    written ClearEnable = kept (value == 1) (record irq { enabled = false }) refl
    written SetPending = pended (value == 1)
    written ClearPending = gone (value == 1)
    written SetActive = kept (value == 1) (record irq { act_by = activated irq.act_by (target_in irq.route shape) }) refl
    written ClearActive = kept (value == 1) (record irq { act_by = None }) refl
    written Priority = plain (is_latched irq)
    written Config = turned (is_sgi key) (record irq { edge = has_bit value 1 }) refl
    written Routing = plain (is_latched irq)
latched_touch shape key (Enables en0 en1) irq can unrisen = plain (is_latched irq)
latched_touch shape key (MapLpi target enabled prio) irq can unrisen = plain (is_latched irq)
latched_touch shape key (Retarget target) irq can unrisen = plain (is_latched irq)
latched_touch shape key (Configure enabled prio) irq can unrisen = plain (is_latched irq)
latched_touch shape key Forget irq can unrisen = of key can.fits unrisen
  where
    flat : (rise soft : Bool) → IsTrue (not rise) → (rise || false) ≡ (false || ((rise || soft) && false))
    flat true soft h = absurd (cc)
    flat false soft h = grind (arith, common_steps)

    of : (key : Key) → IsTrue (is_lpi key) → IsTrue (has_wire key || not irq.rise) → (irq.rise || false) ≡ (false || ((irq.rise || irq.soft) && false))
    of (Private vcpu id) lpi h = absurd (cc)
    of (Spi id) lpi h = absurd (cc)
    of (Lpi id) lpi h = flat irq.rise irq.soft h

-- a test of one interrupt, beside what the deed does to it
at_one : (same deed cause : Bool) (change irq : Bool) → change ≡ (cause || (irq && not deed)) → cond same change irq ≡ ((same && cause) || (irq && not (same && deed)))
at_one true deed cause change irq e = e
at_one false deed cause change irq e = plain irq

latched_one : (same : Bool) (change irq : Irq) (cause : Bool) → (same ≡ true → is_latched change ≡ (cause || is_latched irq)) → is_latched (cond same change irq) ≡ ((same && cause) || (is_latched irq && true))
latched_one true change irq cause e = e refl ∙ grind (arith, common_steps)
latched_one false change irq cause e = plain (is_latched irq)

latched_changed : (guest : IdealGuest) (event : Event) (key : Key) → HasIt guest key → CanFollow guest event
    → is_latched (changed_by event guest key (irq_at guest key)) ≡ (causes event guest key || (is_latched (irq_at guest key) && not (consumes event guest key)))
latched_changed guest (Raise j) key has can = of (is_same_key key j)
  where
    of : (b : Bool) → is_latched (cond b (raised (irq_at guest key)) (irq_at guest key)) ≡ (b || (is_latched (irq_at guest key) && true))
    of true = grind (arith, common_steps)
    of false = plain (is_latched (irq_at guest key))
latched_changed guest (Up j) key has can = of (is_same_key key j)
  where
    of : (b : Bool) → is_latched (cond b (wire_up (irq_at guest key)) (irq_at guest key)) ≡ (b || (is_latched (irq_at guest key) && true))
    of true = refl
    of false = plain (is_latched (irq_at guest key))
latched_changed guest (Down j) key has can = of (is_same_key key j)
  where
    of : (b : Bool) → is_latched (cond b (wire_down (irq_at guest key)) (irq_at guest key)) ≡ (false || (is_latched (irq_at guest key) && true))
    of true = plain (is_latched (irq_at guest key))
    of false = plain (is_latched (irq_at guest key))
latched_changed guest (Touch j touch) key has can = of (is_same_key key j) refl
  where
    irq : Irq
    irq = irq_at guest key

    of : (b : Bool) → is_same_key key j ≡ b → is_latched (cond b (touched guest.shape j touch irq) irq) ≡ ((b && pends touch) || (is_latched irq && not (b && clears touch)))
    of true e = let same = same_key key j e in latched_touch guest.shape j touch irq can (subst (λ k. IsTrue (has_wire k || not irq.rise)) same (has.sound.records key has.there).unrisen)
    of false e = plain (is_latched irq)
latched_changed guest (Cpu vcpu reg write) key has can = latched_access reg write guest vcpu key (irq_at guest key)
latched_changed guest (Enable vcpu) key has can = plain (is_latched (irq_at guest key))
latched_changed guest (Reach j vcpu) key has can = plain (is_latched (irq_at guest key))
latched_changed guest (Take j vcpu) key has can = plain (is_latched (irq_at guest key))
latched_changed guest (Leave j vcpu) key has can = plain (is_latched (irq_at guest key))
latched_changed guest (Read place) key has can = plain (is_latched (irq_at guest key))
latched_changed guest (Put word value) key has can = plain (is_latched (irq_at guest key))
latched_changed guest (CtlrBegin enables) key has can = plain (is_latched (irq_at guest key))
latched_changed guest CtlrEnd key has can = plain (is_latched (irq_at guest key))
latched_changed guest ItsBegin key has can = plain (is_latched (irq_at guest key))
latched_changed guest ItsEnd key has can = plain (is_latched (irq_at guest key))
latched_changed guest (Queue offset change) key has can = plain (is_latched (irq_at guest key))

pub latched_after : (guest : IdealGuest) (event : Event) (key : Key) → HasIt guest key → CanFollow guest event → is_latched (irq_at (after_event guest event) key) ≡ (causes event guest key || (is_latched (irq_at guest key) && not (consumes event guest key)))
latched_after guest event key has can = ap is_latched (event_effect event guest key (whole_of guest has.sound) has.there) ∙ latched_changed guest event key has can

-- Acknowledges.

-- an interrupt that an event acknowledges is there, pending and inactive
pub record WasReady (guest : IdealGuest) (key : Key) : Type 0 where
  pub there : IsTrue (has_interrupt guest.shape key)
  pub pending : is_pending (irq_at guest key) ≡ true
  pub inactive : (irq_at guest key).act_by ≡ None

pub ready : (event : Event) (guest : IdealGuest) (key : Key) → IsSound guest → acknowledges event guest key ≡ true → WasReady guest key
ready (Cpu vcpu reg write) guest key sound h =
    let of = taken_of reg write guest vcpu key sound (taken_named reg write guest vcpu key h) in
    record {
      there = of.there;
      pending = deliverable_pending key (irq_at guest key) vcpu (cpu_at guest vcpu) guest.shape of.deliverable;
      inactive = deliverable_inactive key (irq_at guest key) vcpu (cpu_at guest vcpu) guest.shape of.deliverable;
    }
ready event guest key sound h = absurd (cc)

-- what has no latched cause is pending only while its level line is up
pub unlatched_pending : (irq : Irq) → is_latched irq ≡ false → is_pending irq ≡ is_level_up irq
unlatched_pending irq h = grind (arith, common_steps, h)

-- an acknowledge leaves no latched cause
pub unlatched_after : (event : Event) (guest : IdealGuest) (key : Key) → IsSound guest → acknowledges event guest key ≡ true → is_latched (irq_at (after_event guest event) key) ≡ false
unlatched_after (Cpu vcpu reg write) guest key sound h =
    ap is_latched (event_effect (Cpu vcpu reg write) guest key (whole_of guest sound) (ready (Cpu vcpu reg write) guest key sound h).there)
    ∙ latched_access reg write guest vcpu key (irq_at guest key)
    ∙ none (is_latched (irq_at guest key)) (acknowledges (Cpu vcpu reg write) guest key) h
  where
    none : (a b : Bool) → b ≡ true → (a && not b) ≡ false
    none a b e = grind (arith, common_steps, e)
unlatched_after event guest key sound h = absurd (cc)

-- The active state.

-- an active interrupt stays active, or is deactivated
active_deactivated : (vcpu : ℕ) (irq : Irq) → is_some irq.act_by ≡ true → (is_number vcpu irq.act_by || is_some (deactivated vcpu irq).act_by) ≡ true
active_deactivated vcpu irq h = of (is_number vcpu irq.act_by)
  where
    of : (b : Bool) → (b || is_some (cond b (record irq { act_by = None }) irq).act_by) ≡ true
    of true = refl
    of false = h

idle_or_active : (irq : Irq) → irq.act_by ≡ None → is_some irq.act_by ≡ true → ⊥
idle_or_active irq e h = contradiction (ap is_some e) h
  where
    contradiction : {b : Bool} → b ≡ false → b ≡ true → ⊥
    contradiction e f = cc

active_access : (reg : IccReg) (write : Option ℕ) (guest : IdealGuest) (vcpu : ℕ) (key : Key) → IsSound guest → is_some (irq_at guest key).act_by ≡ true
    → (deactivates (Cpu vcpu reg write) guest key || is_some (accessed reg write guest vcpu key (irq_at guest key)).act_by) ≡ true
active_access reg write guest vcpu key sound active = taken (acknowledges (Cpu vcpu reg write) guest key) refl (is_ended reg write guest vcpu key)
  where
    irq : Irq
    irq = irq_at guest key

    taken : (b : Bool) → acknowledges (Cpu vcpu reg write) guest key ≡ b → (e : Bool) → ((e && is_number vcpu irq.act_by) || is_some (cond e (deactivated vcpu (cond b (acknowledged key vcpu irq) irq)) (cond b (acknowledged key vcpu irq) irq)).act_by) ≡ true
    taken true h e = absurd (idle_or_active irq (ready (Cpu vcpu reg write) guest key sound h).inactive active)
    taken false h true = active_deactivated vcpu irq active
    taken false h false = active

active_touch : (shape : GuestShape) (key : Key) (touch : Touching) (irq : Irq) → is_some irq.act_by ≡ true → ((ends_active touch && is_some irq.act_by) || is_some (touched shape key touch irq).act_by) ≡ true
active_touch shape key (ReadPart kind) irq active = active
active_touch shape key (Register kind value) irq active = written kind
  where
    kept : (b : Bool) (one : Irq) → is_some one.act_by ≡ true → is_some (cond b one irq).act_by ≡ true
    kept true one e = e
    kept false one e = active

    turned : (b : Bool) (one : Irq) → is_some one.act_by ≡ true → is_some (cond b irq one).act_by ≡ true
    turned true one e = active
    turned false one e = e

    still : (o target : Option ℕ) → is_some o ≡ true → is_some (activated o target) ≡ true
    still None target e = absurd (cc)
    still (Some vcpu) target e = refl

    ended : (b : Bool) → ((b && is_some irq.act_by) || is_some (cond b (record irq { act_by = None }) irq).act_by) ≡ true
    ended true = rw active refl
    ended false = active

    written : (kind : Kind) → ((ends_active (Register kind value) && is_some irq.act_by) || is_some (part_written kind key irq value shape).act_by) ≡ true
    written Group = active
    written SetEnable = kept (value == 1) (record irq { enabled = true }) active
    written ClearEnable = kept (value == 1) (record irq { enabled = false }) active
    written SetPending = kept (value == 1) (raised irq) active
    written ClearPending = kept (value == 1) (cleared irq) active
    written SetActive = kept (value == 1) (record irq { act_by = activated irq.act_by (target_in irq.route shape) }) (still irq.act_by (target_in irq.route shape) active)
    written ClearActive = ended (value == 1)
    written Priority = active
    written Config = turned (is_sgi key) (record irq { edge = has_bit value 1 }) active
    written Routing = active
active_touch shape key (Enables en0 en1) irq active = active
active_touch shape key (MapLpi target enabled prio) irq active = active
active_touch shape key (Retarget target) irq active = active
active_touch shape key (Configure enabled prio) irq active = active
active_touch shape key Forget irq active = active

active_changed : (guest : IdealGuest) (event : Event) (key : Key) → IsSound guest → is_some (irq_at guest key).act_by ≡ true → (deactivates event guest key || is_some (changed_by event guest key (irq_at guest key)).act_by) ≡ true
active_changed guest (Raise j) key sound active = of (is_same_key key j)
  where
    of : (b : Bool) → is_some (cond b (raised (irq_at guest key)) (irq_at guest key)).act_by ≡ true
    of true = active
    of false = active
active_changed guest (Up j) key sound active = of (is_same_key key j)
  where
    of : (b : Bool) → is_some (cond b (wire_up (irq_at guest key)) (irq_at guest key)).act_by ≡ true
    of true = active
    of false = active
active_changed guest (Down j) key sound active = of (is_same_key key j)
  where
    of : (b : Bool) → is_some (cond b (wire_down (irq_at guest key)) (irq_at guest key)).act_by ≡ true
    of true = active
    of false = active
active_changed guest (Touch j touch) key sound active = of (is_same_key key j)
  where
    irq : Irq
    irq = irq_at guest key

    of : (b : Bool) → ((b && ends_active touch && is_some irq.act_by) || is_some (cond b (touched guest.shape j touch irq) irq).act_by) ≡ true
    of true = active_touch guest.shape j touch irq active
    of false = active
active_changed guest (Cpu vcpu reg write) key sound active = active_access reg write guest vcpu key sound active
active_changed guest (Enable vcpu) key sound active = active
active_changed guest (Reach j vcpu) key sound active = active
active_changed guest (Take j vcpu) key sound active = active
active_changed guest (Leave j vcpu) key sound active = active
active_changed guest (Read place) key sound active = active
active_changed guest (Put word value) key sound active = active
active_changed guest (CtlrBegin enables) key sound active = active
active_changed guest CtlrEnd key sound active = active
active_changed guest ItsBegin key sound active = active
active_changed guest ItsEnd key sound active = active
active_changed guest (Queue offset change) key sound active = active

pub active_after : (guest : IdealGuest) (event : Event) (key : Key) → HasIt guest key → is_some (irq_at guest key).act_by ≡ true → (deactivates event guest key || is_some (irq_at (after_event guest event) key).act_by) ≡ true
active_after guest event key has active = ap (λ irq. deactivates event guest key || is_some irq.act_by) (event_effect event guest key (whole_of guest has.sound) has.there) ∙ active_changed guest event key has.sound active

-- an acknowledge makes an interrupt active that has an active state
unended : (reg : IccReg) (write : Option ℕ) (guest : IdealGuest) (vcpu : ℕ) (key : Key) → acknowledges (Cpu vcpu reg write) guest key ≡ true → is_ended reg write guest vcpu key ≡ false
unended reg write guest vcpu key h =
    let was = taken_named reg write guest vcpu key h in
    ap (λ o. option_map_or (λ id. is_named id vcpu guest.shape key) o false) (taken_names_none reg write (cpu_at guest vcpu) (candidates guest vcpu) was.found was.taken)

pub activates : (event : Event) (guest : IdealGuest) (key : Key) → IsSound guest → IsTrue (has_active_state key) → acknowledges event guest key ≡ true → is_some (irq_at (after_event guest event) key).act_by ≡ true
activates (Cpu vcpu reg write) guest key sound state h =
    ap (λ irq. is_some irq.act_by) (event_effect (Cpu vcpu reg write) guest key (whole_of guest sound) (ready (Cpu vcpu reg write) guest key sound h).there)
    ∙ of (acknowledges (Cpu vcpu reg write) guest key) (is_ended reg write guest vcpu key) h (unended reg write guest vcpu key h)
  where
    irq : Irq
    irq = irq_at guest key

    of : (b e : Bool) → b ≡ true → e ≡ false → is_some (cond e (deactivated vcpu (cond b (acknowledged key vcpu irq) irq)) (cond b (acknowledged key vcpu irq) irq)).act_by ≡ true
    of b e f g = rw (f, g) (ap (λ s. is_some (cond s (Some vcpu) None)) state)
activates event guest key sound state h = absurd (cc)
