-- What an event leaves of the changes of an interrupt since it got to its interface, and of its record.
use Rattle.std.proofs.Common.{◌≡◌, ◌≢◌, ℕ, ◌<◌, ◌⊎◌, inl, inr, Bool, true, false, cond, IsTrue, List, [], ◌∷◌, ◌++◌, length, slice_index_or, slice_set, fold, Option, Some, None, refl, sym, ap, ◌∙◌, arith}
use Rattle.std.proofs.lemmas.Bool.{cases_eq}
use Rattle.std.proofs.lemmas.List.{get_or-set_same, get_or-set_other, length-set}
use Rattle.std.proofs.lemmas.Option.{none-some, same_Some}
use Rattle.law_core_is_history.specs.Words.{Key, GuestShape, has_interrupt, interrupt_count, is_same_key, place_of, IsShape}
use Rattle.law_core_is_history.proofs.GicBase.KeyLemmas.{same_key}
use Rattle.law_core_is_history.specs.Calls.{Event, Up, Down, Touch, Reach, Take, Leave, Happened, CanHappen}
use Rattle.law_core_is_history.specs.GicCall.declared.event.Event.TheVariants.{Raise}
use Rattle.law_core_is_history.specs.Histories.{Changes, Track, Turn, after_changes, after_leaving, changes_of, turn_of, with_changes, Ideal, irq_at}
use Rattle.law_core_is_history.proofs.GicOpen.KeyLemmas.{place_within}
use Rattle.law_core_is_history.proofs.LawHistories.StateLemmas.{guest_is, record_after}
use Rattle.law_core_is_history.specs.Core.{Irq as IrqWord, event_moments}
use Rattle.law_core_is_history.proofs.PortCore.PlaceLemmas.{word_same}
use Rattle.law_registers_stand.specs.Followed.{Followed, follows}

-- the interrupt that an event changes, or brings to an interface; and the one that it brings there, or the causes of
abbrev pub alters : Event → Option Key
alters (Raise key) = Some key
alters (Up key) = Some key
alters (Down key) = Some key
alters (Touch key touching) = Some key
alters (Reach key vcpu) = Some key
alters (Leave key vcpu) = Some key
alters event = None

abbrev pub moved_key : Event → Option Key
moved_key (Reach key vcpu) = Some key
moved_key (Take key vcpu) = Some key
moved_key event = None

-- The record.

spared : {X : Type 0} (key other : Key) → (other ≡ key → ⊥) → (x y : X) → cond (is_same_key key other) x y ≡ y
spared key other apart x y = of (is_same_key key other) refl
  where
    of : (b : Bool) → is_same_key key other ≡ b → cond b x y ≡ y
    of true e = absurd (apart (sym (same_key key other e)))
    of false e = refl

pub record_spared : (event : Event) (state : Ideal) (key : Key) → (alters event ≡ Some key → ⊥) → (moved_key event ≡ Some key → ⊥) → record_after event state key ≡ irq_at state.guest key
record_spared (Raise other) state key apart still = spared key other (λ e. apart (ap Some e)) _ _
record_spared (Up other) state key apart still = spared key other (λ e. apart (ap Some e)) _ _
record_spared (Down other) state key apart still = spared key other (λ e. apart (ap Some e)) _ _
record_spared (Touch other touching) state key apart still = spared key other (λ e. apart (ap Some e)) _ _
record_spared (Reach other vcpu) state key apart still = spared key other (λ e. apart (ap Some e)) _ _
record_spared (Take other vcpu) state key apart still = spared key other (λ e. still (ap Some e)) _ _
record_spared (Leave other vcpu) state key apart still = spared key other (λ e. apart (ap Some e)) _ _
record_spared event state key apart still = refl

-- Who changed it.

module _ (shape : GuestShape) (good : IsShape shape) (key : Key) (there : IsTrue (has_interrupt shape key)) (track : Track) (each : length track.changes ≡ interrupt_count shape) where
  within : place_of shape key < length track.changes
  within = let below = place_within shape key good there in omega (arith, below, each)

  -- the changes of one at another place, and at its own
  elsewhere : (other : Key) (change : Changes → Changes) → place_of shape key ≢ place_of shape other → changes_of shape (with_changes shape other change track) key ≡ changes_of shape track key
  elsewhere other change apart = get_or-set_other track.changes (place_of shape other) (place_of shape key) (change (changes_of shape track other)) (record { last = None; since = [] }) apart

  here : (other : Key) (change : Changes → Changes) → place_of shape key ≡ place_of shape other → changes_of shape (with_changes shape other change track) key ≡ change (changes_of shape track other)
  here other change same =
      ap (λ n. slice_index_or (slice_set track.changes (place_of shape other) (change (changes_of shape track other))) n (record { last = None; since = [] })) same
      ∙ get_or-set_same track.changes (place_of shape other) (change (changes_of shape track other)) (record { last = None; since = [] }) (omega (arith, within, same))

  -- the interrupt is the one that got to the interface, or nobody changed it
  abbrev Spares : Event → Type 0
  Spares event = ((vcpu : ℕ) × (event ≡ Reach key vcpu)) ⊎ (((changes_of shape track key).since ≡ []) × (alters event ≡ Some key → ⊥))

  not_nil : (turns : List Turn) (turn : Turn) → turns ++ turn ∷ [] ≡ [] → ⊥
  not_nil [] turn e = absurd (cc)
  not_nil (first ∷ turns) turn e = absurd (cc)

  -- a change
  by_change : (other : Key) (turn : Turn) → (changes_of shape (with_changes shape other (λ changes. record { last = Some turn; since = changes.since ++ turn ∷ [] }) track) key).since ≡ [] → ((changes_of shape track key).since ≡ []) × (other ≡ key → ⊥)
  by_change other turn none = elim (cases_eq (place_of shape key) (place_of shape other)) [
    | inl same ↦ absurd (not_nil (changes_of shape track other).since turn (sym (ap (λ (c : Changes). c.since) (here other (λ changes. record { last = Some turn; since = changes.since ++ turn ∷ [] }) same)) ∙ none))
    | inr apart ↦ (sym (ap (λ (c : Changes). c.since) (elsewhere other (λ changes. record { last = Some turn; since = changes.since ++ turn ∷ [] }) apart)) ∙ none, λ e. apart (ap (place_of shape) (sym e)))
  ]

  other_of : (other : Key) → (other ≡ key → ⊥) → Some other ≡ Some key → ⊥
  other_of other apart e = apart (same_Some other key e)

  pub since_spared : (actor : ℕ) (event : Event) → CanHappen shape event → (changes_of shape (after_changes shape actor event track) key).since ≡ [] → Spares event
  since_spared actor (Reach other vcpu) can none = elim (cases_eq (place_of shape key) (place_of shape other)) [
    | inl same ↦ inl (vcpu, ap (λ k. Reach k vcpu) (key_is (word_same shape (IrqWord other) (IrqWord key) good can.0 there (sym same))))
    | inr apart ↦ inr (sym (ap (λ (c : Changes). c.since) (elsewhere other (λ changes. record changes { since = [] }) apart)) ∙ none, other_of other (λ e. apart (ap (place_of shape) (sym e))))
  ]
    where
      key_is : IrqWord other ≡ IrqWord key → other ≡ key
      key_is e = cc
  since_spared actor (Raise other) can none = let is = by_change other (turn_of track actor) none in inr (is.0, other_of other is.1)
  since_spared actor (Up other) can none = let is = by_change other (turn_of track actor) none in inr (is.0, other_of other is.1)
  since_spared actor (Down other) can none = let is = by_change other (turn_of track actor) none in inr (is.0, other_of other is.1)
  since_spared actor (Touch other touching) can none = let is = by_change other (turn_of track actor) none in inr (is.0, other_of other is.1)
  since_spared actor (Leave other vcpu) can none = let is = by_change other (turn_of track actor) none in inr (is.0, other_of other is.1)
  since_spared actor event can none = inr (none, λ e. none-some key e)

-- What is told.

-- it is of a guest of this shape, and has a place for each interrupt
pub record IsTold (shape : GuestShape) (telling : Followed) : Type 0 where
  pub shape_is : telling.ideal.guest.shape ≡ shape
  pub each : length telling.track.changes ≡ interrupt_count shape

leaving_same : (state : Ideal) (event : Event) (track : Track) → (after_leaving state event track).changes ≡ track.changes
leaving_same state (Leave key vcpu) track = refl
leaving_same state event track = refl

length_after : (shape : GuestShape) (actor : ℕ) (event : Event) (track : Track) → length (after_changes shape actor event track).changes ≡ length track.changes
length_after shape actor (Reach key vcpu) track = length-set track.changes (place_of shape key) _
length_after shape actor (Raise key) track = length-set track.changes (place_of shape key) _
length_after shape actor (Up key) track = length-set track.changes (place_of shape key) _
length_after shape actor (Down key) track = length-set track.changes (place_of shape key) _
length_after shape actor (Touch key touching) track = length-set track.changes (place_of shape key) _
length_after shape actor (Leave key vcpu) track = length-set track.changes (place_of shape key) _
length_after shape actor event track = refl

-- after an event, if there is one
pub told_event : (shape : GuestShape) (telling : Followed) (actor : ℕ) (o : Option Happened) → IsTold shape telling → IsTold shape (fold follows telling (event_moments actor o))
told_event shape telling actor None told = told
told_event shape telling actor (Some one) told = record {
  shape_is = (guest_is actor one.event telling.ideal).shape ∙ told.shape_is;
  each = ap length (leaving_same telling.ideal one.event (after_changes telling.ideal.guest.shape actor one.event telling.track)) ∙ length_after telling.ideal.guest.shape actor one.event telling.track ∙ told.each;
}

-- the changes after it
pub changes_told : (shape : GuestShape) (telling : Followed) (actor : ℕ) (one : Happened) (key : Key) → IsTold shape telling → changes_of shape (fold follows telling (event_moments actor (Some one))).track key ≡ changes_of shape (after_changes shape actor one.event telling.track) key
changes_told shape telling actor one key told =
    ap (λ changes. slice_index_or changes (place_of shape key) (record { last = None; since = [] })) (leaving_same telling.ideal one.event (after_changes telling.ideal.guest.shape actor one.event telling.track))
    ∙ ap (λ s. changes_of shape (after_changes s actor one.event telling.track) key) told.shape_is
