-- A private interrupt is active by its own vCPU or by none, in each state that the ideal controller reaches.
use Rattle.std.proofs.Common.{◌≡◌, ℕ, ◌==◌, Bool, true, false, cond, IsTrue, Option, Some, None, List, [], ◌∷◌, refl, sym, ap, ◌∙◌, subst, arith}
use Rattle.std.specs.Option.{option_map_or}
use Rattle.std.proofs.lemmas.Grind.{common_steps}
use Rattle.eager_rest.specs.LawSavesGoOn.RunsSplit.GicIdeal.IdealGuests.Words.{has_bit, GuestShape, Key, Private, Spi, Lpi, Kind, SetEnable, ClearEnable, SetPending, ClearPending, SetActive, ClearActive, Priority, Config, Routing, has_interrupt, is_same_key, is_of_vcpu, is_sgi, key_of, Irq, Route, Affinity, Target, is_number, target_in, raised, cleared, acknowledged, deactivated, is_routed_as, IccReg}
use Rattle.eager_rest.specs.LawSavesGoOn.RunsSplit.GicIdeal.IdealGuests.GicBase.declared.operation.Kind.TheVariants.{Group}
use Rattle.eager_rest.specs.LawSavesGoOn.RunsSplit.GicIdeal.IdealGuests.Registers.{part_written, activated, Candidate, taken_by}
use Rattle.eager_rest.specs.LawSavesGoOn.RunsSplit.GicIdeal.IdealGuests.GicCall.declared.event.Event.TheVariants.{Raise, Read as ReadEvent, ItsEnd, Queue}
use Rattle.eager_rest.specs.LawSavesGoOn.RunsSplit.GicIdeal.IdealGuests.GicCall.declared.touch.Touching.TheVariants.{Read, Retarget, Configure, Forget}
use Rattle.eager_rest.specs.LawSavesGoOn.RunsSplit.GicIdeal.IdealGuests.Calls.{Touching, Register, Enables, MapLpi, touched, Event, Up, Down, Enable, Touch, Reach, Take, Leave, Cpu, Put, CtlrBegin, CtlrEnd, ItsBegin, Runs, Done, Stalls}
use Rattle.eager_rest.specs.LawSavesGoOn.RunsSplit.GicIdeal.IdealGuests.CanOpen.{is_own}
use Rattle.eager_rest.specs.LawSavesGoOn.RunsSplit.GicIdeal.IdealGuests.declared.guest.IdealGuest.{IdealGuest}
use Rattle.eager_rest.specs.LawSavesGoOn.RunsSplit.GicIdeal.IdealGuests.Ideal.{irq_at, cpu_at, candidates, is_named, after_event, after_events}
use Rattle.eager_rest.specs.LawSavesGoOn.RunsSplit.GicIdeal.IdealGuests.Sound.{IsSound}
use Rattle.eager_rest.specs.LawSavesGoOn.RunsSplit.GicIdeal.Deeds.{acknowledges}
use Rattle.eager_rest.specs.LawSavesGoOn.RunsSplit.GicIdeal.Laws.{CanFollowAll}
use Rattle.eager_rest.proofs.LawSavesGoOn.RunsSplit.GicIdeal.IdealGuests.KeyLemmas.{named_is}
use Rattle.eager_rest.proofs.LawSavesGoOn.RunsSplit.GicIdeal.IdealGuests.GicBase.KeyLemmas.{same_key}
use Rattle.eager_rest.proofs.LawSavesGoOn.RunsSplit.GicIdeal.IdealGuests.SoundLemmas.{whole_of}
use Rattle.eager_rest.proofs.LawSavesGoOn.RunsSplit.GicIdeal.EffectLemmas.{is_ended, changed_by, event_effect, shape_event}
use Rattle.eager_rest.proofs.LawSavesGoOn.RunsSplit.GicIdeal.SoundEvents.{sound_event}

abbrev pub IsOwned : IdealGuest → Type 0
IsOwned guest = (key : Key) → IsTrue (has_interrupt guest.shape key) → IsTrue (is_own key (irq_at guest key).act_by)

module _ (shape : GuestShape) (key : Key) where
  either : (b : Bool) (one irq : Irq) → IsTrue (is_own key one.act_by) → IsTrue (is_own key irq.act_by) → IsTrue (is_own key (cond b one irq).act_by)
  either true one irq h is = h
  either false one irq h is = is

  by_route : (key : Key) (route : Route) → IsTrue (is_routed_as shape key route) → IsTrue (is_own key (target_in route shape))
  by_route (Private v id) (Target None) routed = refl
  by_route (Private v id) (Target (Some m)) routed = grind (arith, common_steps, routed)
  by_route (Private v id) (Affinity a) routed = absurd (cc)
  by_route (Spi id) route routed = spi (target_in route shape)
    where
      spi : (o : Option ℕ) → IsTrue (is_own (Spi id) o)
      spi None = refl
      spi (Some v) = refl
  by_route (Lpi id) route routed = lpi (target_in route shape)
    where
      lpi : (o : Option ℕ) → IsTrue (is_own (Lpi id) o)
      lpi None = refl
      lpi (Some v) = refl

  touched_own : (touch : Touching) (irq : Irq) → IsTrue (is_routed_as shape key irq.route) → IsTrue (is_own key irq.act_by) → IsTrue (is_own key (touched shape key touch irq).act_by)
  touched_own (Read kind) irq routed is = is
  touched_own (Register kind value) irq routed is = written kind
    where
      by_target : (by : Option ℕ) → IsTrue (is_own key by) → IsTrue (is_own key (activated by (target_in irq.route shape)))
      by_target None h = by_route key irq.route routed
      by_target (Some v) h = h

      written : (kind : Kind) → IsTrue (is_own key (part_written kind key irq value shape).act_by)
      written Group = is
      written SetEnable = either (value == 1) (record irq { enabled = true }) irq is is
      written ClearEnable = either (value == 1) (record irq { enabled = false }) irq is is
      written SetPending = either (value == 1) (raised irq) irq is is
      written ClearPending = either (value == 1) (cleared irq) irq is is
      written SetActive = either (value == 1) (record irq { act_by = activated irq.act_by (target_in irq.route shape) }) irq (by_target irq.act_by is) is
      written ClearActive = either (value == 1) (record irq { act_by = None }) irq refl is
      written Priority = is
      written Config = either (is_sgi key) irq (record irq { edge = has_bit value 1 }) is is
      written Routing = is
  touched_own (Enables en0 en1) irq routed is = is
  touched_own (MapLpi target enabled prio) irq routed is = is
  touched_own (Retarget target) irq routed is = is
  touched_own (Configure enabled prio) irq routed is = is
  touched_own Forget irq routed is = is

  -- an acknowledge by a vCPU, and the end of the active state
  acknowledged_own : (vcpu : ℕ) (irq : Irq) → IsTrue (is_of_vcpu vcpu key) → IsTrue (is_own key (acknowledged key vcpu irq).act_by)
  acknowledged_own vcpu irq mine = of key mine
    where
      of : (key : Key) → IsTrue (is_of_vcpu vcpu key) → IsTrue (is_own key (acknowledged key vcpu irq).act_by)
      of (Private v id) mine = mine
      of (Spi id) mine = refl
      of (Lpi id) mine = refl

  deactivated_own : (vcpu : ℕ) (irq : Irq) → IsTrue (is_own key irq.act_by) → IsTrue (is_own key (deactivated vcpu irq).act_by)
  deactivated_own vcpu irq is = either (is_number vcpu irq.act_by) (record irq { act_by = None }) irq refl is

named_own : (id vcpu : ℕ) (shape : GuestShape) (key : Key) → key_of id vcpu shape ≡ Some key → IsTrue (is_of_vcpu vcpu key)
named_own id vcpu shape key h = grind (arith, common_steps, h)

-- an event
changed_own : (guest : IdealGuest) (event : Event) (key : Key) → IsSound guest → IsTrue (has_interrupt guest.shape key) → IsTrue (is_own key (irq_at guest key).act_by) → IsTrue (is_own key (changed_by event guest key (irq_at guest key)).act_by)
changed_own guest event key sound there is = of event
  where
    irq : Irq
    irq = irq_at guest key

    where_same : (b : Bool) (next : Irq) → IsTrue (is_own key next.act_by) → IsTrue (is_own key (cond b next irq).act_by)
    where_same true next h = h
    where_same false next h = is

    touch_other : (j : Key) (touch : Touching) (b : Bool) → is_same_key key j ≡ b → IsTrue (is_own key (cond b (touched guest.shape j touch irq) irq).act_by)
    touch_other j touch false e = is
    touch_other j touch true e =
        subst (λ k. IsTrue (is_own key (touched guest.shape k touch irq).act_by)) (same_key key j e) (touched_own guest.shape key touch irq (sound.records key there).valid.route is)

    taken_own : (vcpu : ℕ) (o : Option Candidate) → option_map_or (λ found. is_named found.id vcpu guest.shape key) o false ≡ true → IsTrue (is_of_vcpu vcpu key)
    taken_own vcpu None e = absurd (cc)
    taken_own vcpu (Some found) e = named_own found.id vcpu guest.shape key (named_is found.id vcpu guest.shape key e)

    acknowledged_by : (vcpu : ℕ) (reg : IccReg) (write : Option ℕ) (b : Bool) → acknowledges (Cpu vcpu reg write) guest key ≡ b → IsTrue (is_own key (cond b (acknowledged key vcpu irq) irq).act_by)
    acknowledged_by vcpu reg write false e = is
    acknowledged_by vcpu reg write true e = acknowledged_own guest.shape key vcpu irq (taken_own vcpu (taken_by reg write (cpu_at guest vcpu) (candidates guest vcpu)) e)

    ended_by : (vcpu : ℕ) (b : Bool) (next : Irq) → IsTrue (is_own key next.act_by) → IsTrue (is_own key (cond b (deactivated vcpu next) next).act_by)
    ended_by vcpu true next h = deactivated_own guest.shape key vcpu next h
    ended_by vcpu false next h = h

    of : (event : Event) → IsTrue (is_own key (changed_by event guest key irq).act_by)
    of (Raise j) = where_same (is_same_key key j) (raised irq) is
    of (Up j) = where_same (is_same_key key j) _ is
    of (Down j) = where_same (is_same_key key j) _ is
    of (Touch j touch) = touch_other j touch (is_same_key key j) refl
    of (Cpu vcpu reg write) =
        ended_by vcpu (is_ended reg write guest vcpu key) (cond (acknowledges (Cpu vcpu reg write) guest key) (acknowledged key vcpu irq) irq) (acknowledged_by vcpu reg write (acknowledges (Cpu vcpu reg write) guest key) refl)
    of (Enable vcpu) = is
    of (Reach j vcpu) = is
    of (Take j vcpu) = is
    of (Leave j vcpu) = is
    of (ReadEvent place) = is
    of (Put word value) = is
    of (CtlrBegin enables) = is
    of CtlrEnd = is
    of ItsBegin = is
    of ItsEnd = is
    of (Queue offset Runs) = is
    of (Queue offset (Done words)) = is
    of (Queue offset (Stalls fault)) = is

event_owned : (guest : IdealGuest) (event : Event) → IsSound guest → IsOwned guest → IsOwned (after_event guest event)
event_owned guest event sound owned key there =
    let here : IsTrue (has_interrupt guest.shape key) = ap (λ shape. has_interrupt shape key) (sym (shape_event event guest)) ∙ there in
    subst (λ (irq : Irq). IsTrue (is_own key irq.act_by)) (sym (event_effect event guest key (whole_of guest sound) here)) (changed_own guest event key sound here (owned key here))

pub events_owned : (events : List Event) (guest : IdealGuest) → IsSound guest → CanFollowAll guest events → IsOwned guest → IsOwned (after_events events guest)
events_owned [] guest sound can owned = owned
events_owned (event ∷ events) guest sound can owned = events_owned events (after_event guest event) (sound_event guest event sound can.can) can.rest (event_owned guest event sound owned)
