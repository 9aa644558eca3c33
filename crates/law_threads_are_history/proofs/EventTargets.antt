-- What an event makes of the vCPUs that LPIs are for, and of the maps and the turn of the ITS, goes by what these were, and by nothing else of the guest.
use Rattle.std.proofs.Common.{◌≡◌, ◌≢◌, ℕ, ◌⊎◌, inl, inr, ◌==◌, Bool, true, false, cond, if◌then◌else◌, IsTrue, Some, None, is_none, refl, sym, ap, ◌∙◌, subst}
use Rattle.law_ends_agree.specs.Words.{Key, Lpi, Kind, SetEnable, ClearEnable, SetPending, ClearPending, SetActive, ClearActive, Priority, Config, Routing, GuestShape, has_interrupt, is_same_key, Irq, Route, Affinity, Target, cleared, raised, target_in}
use Rattle.law_ends_agree.specs.GicBase.declared.operation.Kind.TheVariants.{Group}
use Rattle.law_ends_agree.specs.Registers.{affinity_in}
use Rattle.law_ends_agree.specs.Calls.{Event, Cpu, CtlrBegin, CtlrEnd, Down, Enable, ItsBegin, Leave, Put, Reach, Take, Touch, Up, Done, Runs, Stalls, Touching, Enables as CopyEnables, MapLpi, Register, touched}
use Rattle.law_ends_agree.specs.GicCall.declared.event.Event.TheVariants.{ItsEnd, Queue, Raise, Read}
use Rattle.law_ends_agree.specs.GicCall.declared.touch.Touching.TheVariants.{Configure, Forget, Read as ReadPart, Retarget}
use Rattle.law_ends_agree.specs.Histories.{irq_at, Ideal, happened, is_allowed, targets_in}
use Rattle.law_ends_agree.proofs.IdealGuests.KeyLemmas.{IsWhole, irq_changed}
use Rattle.law_found_parts_are_calls.proofs.LawHistories.CourseLemmas.{mark_is}
use Rattle.law_found_parts_are_calls.proofs.LawHistories.StateLemmas.{guest_is, leave_cases, take_cases}
use Rattle.law_found_parts_are_calls.proofs.LawHistories.TargetLemmas.{by_record}
use Rattle.law_found_parts_are_calls.proofs.SteadyLemmas.{is_steady, steady_targets}

-- The touch of an LPI.

-- it keeps where the LPI goes, or makes that this, whatever it was
abbrev Routes : GuestShape → Key → Touching → Type 0
Routes shape key touching = ((irq : Irq) → (touched shape key touching irq).route ≡ irq.route) ⊎ ((route : Route) × ((irq : Irq) → (touched shape key touching irq).route ≡ route))

either_route : (b : Bool) (one other : Irq) (route : Route) → one.route ≡ route → other.route ≡ route → (if b then one else other).route ≡ route
either_route true one other route h k = h
either_route false one other route h k = k

register_routes : (shape : GuestShape) (key : Key) (kind : Kind) (value : ℕ) → Routes shape key (Register kind value)
register_routes shape key Group value = inl (λ irq. refl)
register_routes shape key SetEnable value = inl (λ irq. either_route (value == 1) (record irq { enabled = true }) irq irq.route refl refl)
register_routes shape key ClearEnable value = inl (λ irq. either_route (value == 1) (record irq { enabled = false }) irq irq.route refl refl)
register_routes shape key SetPending value = inl (λ irq. either_route (value == 1) (raised irq) irq irq.route refl refl)
register_routes shape key ClearPending value = inl (λ irq. either_route (value == 1) (cleared irq) irq irq.route refl refl)
register_routes shape key SetActive value = inl (λ irq. either_route (value == 1) _ irq irq.route refl refl)
register_routes shape key ClearActive value = inl (λ irq. either_route (value == 1) (record irq { act_by = None }) irq irq.route refl refl)
register_routes shape key Priority value = inl (λ irq. refl)
register_routes shape key Config value = inl (λ irq. either_route _ irq _ irq.route refl refl)
register_routes shape key Routing value = inr (Affinity (affinity_in value), λ irq. refl)

routes : (shape : GuestShape) (key : Key) (touching : Touching) → Routes shape key touching
routes shape key (ReadPart kind) = inl (λ irq. refl)
routes shape key (Register kind value) = register_routes shape key kind value
routes shape key (CopyEnables en0 en1) = inl (λ irq. refl)
routes shape key (MapLpi target enabled prio) = inr (Target (Some target), λ irq. refl)
routes shape key (Retarget target) = inr (Target target, λ irq. refl)
routes shape key (Configure enabled prio) = inl (λ irq. refl)
routes shape key Forget = inr (Target None, λ irq. refl)

-- The vCPUs.

-- two states in which the LPIs are for the same vCPUs
pub record SameTargets (one other : Ideal) : Type 0 where
  pub whole_one : IsWhole one.guest
  pub whole_other : IsWhole other.guest
  pub shape : one.guest.shape ≡ other.guest.shape
  pub targets : (id : ℕ) → targets_in one id ≡ targets_in other id

module _ (actor : ℕ) (state : Ideal) (whole : IsWhole state.guest) (key : Key) (touching : Touching) (id : ℕ) where
  -- an LPI that the guest has not, or that is not the one that is touched
  touch_none : has_interrupt state.guest.shape (Lpi id) ≡ false → targets_in (happened actor (Touch key touching) state) id ≡ targets_in state id
  touch_none none = by_record state (happened actor (Touch key touching) state) id (guest_is actor (Touch key touching) state).shape (λ there. absurd (let e = sym there ∙ none in cc))

  now : IsTrue (has_interrupt state.guest.shape (Lpi id)) → irq_at (happened actor (Touch key touching) state).guest (Lpi id) ≡ cond (is_same_key (Lpi id) key) (touched state.guest.shape key touching (irq_at state.guest (Lpi id))) (irq_at state.guest (Lpi id))
  now there = irq_changed state.guest key (Lpi id) (touched state.guest.shape key touching) whole there

  touch_other : is_same_key (Lpi id) key ≡ false → targets_in (happened actor (Touch key touching) state) id ≡ targets_in state id
  touch_other differ =
      by_record state (happened actor (Touch key touching) state) id (guest_is actor (Touch key touching) state).shape
      (λ there. ap (λ (i : Irq). i.route) (now there) ∙ ap (λ b. (cond b (touched state.guest.shape key touching (irq_at state.guest (Lpi id))) (irq_at state.guest (Lpi id))).route) differ)

  touch_kept : ((irq : Irq) → (touched state.guest.shape key touching irq).route ≡ irq.route) → targets_in (happened actor (Touch key touching) state) id ≡ targets_in state id
  touch_kept kept =
      by_record state (happened actor (Touch key touching) state) id (guest_is actor (Touch key touching) state).shape
      (λ there. ap (λ (i : Irq). i.route) (now there) ∙ either_route (is_same_key (Lpi id) key) (touched state.guest.shape key touching (irq_at state.guest (Lpi id))) (irq_at state.guest (Lpi id)) (irq_at state.guest (Lpi id)).route (kept (irq_at state.guest (Lpi id))) refl)

  touch_made : (route : Route) → ((irq : Irq) → (touched state.guest.shape key touching irq).route ≡ route) → IsTrue (has_interrupt state.guest.shape (Lpi id)) → is_same_key (Lpi id) key ≡ true
      → targets_in (happened actor (Touch key touching) state) id ≡ target_in route state.guest.shape
  touch_made route made there same =
      ap (λ r. target_in r (happened actor (Touch key touching) state).guest.shape)
      (ap (λ (i : Irq). i.route) (now there) ∙ ap (λ b. (cond b (touched state.guest.shape key touching (irq_at state.guest (Lpi id))) (irq_at state.guest (Lpi id))).route) same ∙ made (irq_at state.guest (Lpi id)))
      ∙ ap (target_in route) (guest_is actor (Touch key touching) state).shape

touch_same : (actor : ℕ) (one other : Ideal) (key : Key) (touching : Touching) → SameTargets one other → (id : ℕ) → targets_in (happened actor (Touch key touching) one) id ≡ targets_in (happened actor (Touch key touching) other) id
touch_same actor one other key touching same id = of (routes one.guest.shape key touching) (has_interrupt one.guest.shape (Lpi id)) refl (is_same_key (Lpi id) key) refl
  where
    of : Routes one.guest.shape key touching → (there : Bool) → has_interrupt one.guest.shape (Lpi id) ≡ there → (mine : Bool) → is_same_key (Lpi id) key ≡ mine
        → targets_in (happened actor (Touch key touching) one) id ≡ targets_in (happened actor (Touch key touching) other) id
    of kind false t mine m =
        touch_none actor one same.whole_one key touching id t ∙ same.targets id
        ∙ sym (touch_none actor other same.whole_other key touching id (ap (λ s. has_interrupt s (Lpi id)) (sym same.shape) ∙ t))
    of kind true t false m = touch_other actor one same.whole_one key touching id m ∙ same.targets id ∙ sym (touch_other actor other same.whole_other key touching id m)
    of (inl kept) true t true m =
        touch_kept actor one same.whole_one key touching id kept ∙ same.targets id
        ∙ sym (touch_kept actor other same.whole_other key touching id (subst (λ s. (irq : Irq) → (touched s key touching irq).route ≡ irq.route) same.shape kept))
    of (inr made) true t true m =
        touch_made actor one same.whole_one key touching id made.0 made.1 t m ∙ ap (target_in made.0) same.shape
        ∙ sym
        (touch_made actor other same.whole_other key touching id made.0 (subst (λ s. (irq : Irq) → (touched s key touching irq).route ≡ made.0) same.shape made.1) (ap (λ s. has_interrupt s (Lpi id)) (sym same.shape) ∙ t) m)

steady_same : (actor : ℕ) (one other : Ideal) (event : Event) → is_steady event ≡ true → SameTargets one other → (id : ℕ) → targets_in (happened actor event one) id ≡ targets_in (happened actor event other) id
steady_same actor one other event steady same id = steady_targets actor one same.whole_one id event steady ∙ same.targets id ∙ sym (steady_targets actor other same.whole_other id event steady)

event_same : (actor : ℕ) (one other : Ideal) (event : Event) → SameTargets one other → (id : ℕ) → targets_in (happened actor event one) id ≡ targets_in (happened actor event other) id
event_same actor one other (Touch key touching) same id = touch_same actor one other key touching same id
event_same actor one other (Queue offset Runs) same id = same.targets id
event_same actor one other (Queue offset (Done words)) same id = same.targets id
event_same actor one other (Queue offset (Stalls fault)) same id = same.targets id
event_same actor one other (Raise key) same id = steady_same actor one other (Raise key) refl same id
event_same actor one other (Up key) same id = steady_same actor one other (Up key) refl same id
event_same actor one other (Down key) same id = steady_same actor one other (Down key) refl same id
event_same actor one other (Reach key vcpu) same id = steady_same actor one other (Reach key vcpu) refl same id
event_same actor one other (Take key vcpu) same id = steady_same actor one other (Take key vcpu) refl same id
event_same actor one other (Leave key vcpu) same id = steady_same actor one other (Leave key vcpu) refl same id
event_same actor one other event same id = steady_same actor one other event refl same id

-- after the same event
pub same_after : (actor : ℕ) (one other : Ideal) (event : Event) → SameTargets one other → SameTargets (happened actor event one) (happened actor event other)
same_after actor one other event same = record {
  whole_one = (guest_is actor event one).whole same.whole_one;
  whole_other = (guest_is actor event other).whole same.whole_other;
  shape = (guest_is actor event one).shape ∙ same.shape ∙ sym (guest_is actor event other).shape;
  targets = event_same actor one other event same;
}

-- after one of another actor, which moves no LPI, in one of them
pub same_beside : (actor : ℕ) (one other : Ideal) (event : Event) → is_steady event ≡ true → SameTargets one other → SameTargets one (happened actor event other)
same_beside actor one other event steady same = record {
  whole_one = same.whole_one;
  whole_other = (guest_is actor event other).whole same.whole_other;
  shape = same.shape ∙ sym (guest_is actor event other).shape;
  targets = λ id. same.targets id ∙ sym (steady_targets actor other same.whole_other id event steady);
}

-- The turn of the ITS.

abbrev pub is_no_mark : Event → Bool
is_no_mark ItsBegin = false
is_no_mark ItsEnd = false
is_no_mark event = true

mark_kept : (actor : ℕ) (event : Event) (state : Ideal) → is_no_mark event ≡ true → (happened actor event state).has_its ≡ state.has_its
mark_kept actor (Take key vcpu) state h = take_cases (λ after. after.has_its ≡ state.has_its) state key vcpu refl (λ irq standing. refl)
mark_kept actor (Leave key vcpu) state h = leave_cases (λ after. after.has_its ≡ state.has_its) state key vcpu refl (λ irq standing. refl)
mark_kept actor ItsBegin state h = absurd (cc)
mark_kept actor ItsEnd state h = absurd (cc)
mark_kept actor (Raise key) state h = refl
mark_kept actor (Up key) state h = refl
mark_kept actor (Down key) state h = refl
mark_kept actor (Touch key touching) state h = refl
mark_kept actor (Reach key vcpu) state h = refl
mark_kept actor (Enable vcpu) state h = refl
mark_kept actor (Cpu vcpu reg write) state h = refl
mark_kept actor (Read place) state h = refl
mark_kept actor (Put word value) state h = refl
mark_kept actor (CtlrBegin enables) state h = refl
mark_kept actor CtlrEnd state h = refl
mark_kept actor (Queue offset change) state h = refl

pub own_mark_kept : (actor : ℕ) (event : Event) (state : Ideal) → is_no_mark event ≡ true → (happened actor event state).has_its ≡ state.has_its
own_mark_kept actor event state h = mark_kept actor event state h

-- whoever has it has it after an event of another actor
pub holder_kept : (actor holder : ℕ) (event : Event) (state : Ideal) → holder ≢ actor → IsTrue (is_allowed state actor event) → state.has_its ≡ Some holder → (happened actor event state).has_its ≡ Some holder
holder_kept actor holder ItsBegin state differ allowed holds = absurd (let e : is_none state.has_its ≡ false = ap is_none holds in cc)
holder_kept actor holder ItsEnd state differ allowed holds = absurd (differ (same holder actor (sym holds ∙ mark_is actor state.has_its allowed)))
  where
    same : (m n : ℕ) → Some m ≡ Some n → m ≡ n
    same m n e = cc
holder_kept actor holder (Take key vcpu) state differ allowed holds = mark_kept actor (Take key vcpu) state refl ∙ holds
holder_kept actor holder (Leave key vcpu) state differ allowed holds = mark_kept actor (Leave key vcpu) state refl ∙ holds
holder_kept actor holder event state differ allowed holds = mark_kept actor event state refl ∙ holds
