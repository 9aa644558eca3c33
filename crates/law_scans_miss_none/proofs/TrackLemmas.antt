-- What the moments of a history leave of what it says of its actors and interrupts.
use Rattle.std.proofs.Common.{◌≡◌, ◌≢◌, ℕ, ◌<◌, ◌==◌, ◌&&◌, ◌⊎◌, inl, inr, true≢false, Bool, true, false, IsTrue, [], ◌∷◌, ◌++◌, length, slice_index_or, Option, Some, None, is_some, refl, sym, ap, ◌∙◌, subst}
use Rattle.std.specs.Option.{option_map_or}
use Rattle.std.proofs.lemmas.Bool.{and_parts, and_from, eqb-true, eq-eqb}
use Rattle.std.proofs.lemmas.List.{get_or-set_same, get_or-set_other, length-set}
use Rattle.law_registers_stand.specs.Words.{Key, GuestShape, has_interrupt, interrupt_count, is_same_key, place_of, IsShape}
use Rattle.law_registers_stand.proofs.GicBase.KeyLemmas.{same_key, same_itself}
use Rattle.law_registers_stand.proofs.GicOpen.KeyLemmas.{place_within, place_same}
use Rattle.law_registers_stand.specs.Calls.{Event, Up, Down, Touch, Reach, Leave, Found, Happens, CanHappen}
use Rattle.law_registers_stand.specs.GicCall.declared.event.Event.TheVariants.{Raise, Queue}
use Rattle.law_registers_stand.specs.Histories.{Turn, Doing, Changes, Track, doing_of, changes_of, turn_of, changed_by, with_changes, after_changes, after_doing, with_doing, after_leaving, tracked, Ideal}
use Rattle.law_scans_miss_none.specs.Excuse.{is_current, changed_last}

-- Actors.

pub doing_here : (actor : ℕ) (doing : Doing) (track : Track) → actor < length track.doings → doing_of (with_doing actor doing track) actor ≡ doing
doing_here actor doing track there = get_or-set_same track.doings actor doing _ there

pub doing_other : (actor other : ℕ) (doing : Doing) (track : Track) → other ≢ actor → doing_of (with_doing actor doing track) other ≡ doing_of track other
doing_other actor other doing track differ = get_or-set_other track.doings actor other doing _ differ

-- who leaves does not count
pub leaving_doings : (ideal : Ideal) (event : Event) (track : Track) → (after_leaving ideal event track).doings ≡ track.doings
leaving_doings ideal (Leave key vcpu) track = refl
leaving_doings ideal event track = refl

pub leaving_changes : (ideal : Ideal) (event : Event) (track : Track) → (after_leaving ideal event track).changes ≡ track.changes
leaving_changes ideal (Leave key vcpu) track = refl
leaving_changes ideal event track = refl

-- an event is the end of a command, or moves the queue
abbrev pub is_queue : Event → Bool
is_queue (Queue offset change) = true
is_queue event = false

-- an event keeps what its actor is in, and the number of that, but for the end of a command
pub doing_kept : (ideal : Ideal) (actor : ℕ) (event : Event) (doing : Doing) → (after_doing ideal actor event doing).operation ≡ doing.operation
doing_kept ideal actor (Queue offset change) doing = refl
doing_kept ideal actor event doing = refl

pub number_kept : (ideal : Ideal) (actor : ℕ) (event : Event) (doing : Doing) → is_queue event ≡ false → (after_doing ideal actor event doing).number ≡ doing.number
number_kept ideal actor (Queue offset change) doing e = absurd (true≢false e)
number_kept ideal actor event doing e = refl

-- Interrupts.

pub changes_here : (shape : GuestShape) (key : Key) (change : Changes → Changes) (track : Track) → place_of shape key < length track.changes → changes_of shape (with_changes shape key change track) key ≡ change (changes_of shape track key)
changes_here shape key change track there = get_or-set_same track.changes (place_of shape key) _ _ there

pub changes_other : (shape : GuestShape) (key other : Key) (change : Changes → Changes) (track : Track) → place_of shape other ≢ place_of shape key → changes_of shape (with_changes shape key change track) other ≡ changes_of shape track other
changes_other shape key other change track differ = get_or-set_other track.changes (place_of shape key) (place_of shape other) _ _ differ

-- the interrupt that an event is of, if what is said of interrupts changes
abbrev pub subject : Event → Option Key
subject (Reach key vcpu) = Some key
subject event = changed_by event

-- what is said of an interrupt that gets to an interface, and of one that an actor changes
abbrev pub as_reached : Changes → Changes
as_reached changes = record changes { since = [] }

abbrev pub as_changed : Track → ℕ → Changes → Changes
as_changed track actor changes = record { last = Some (turn_of track actor); since = changes.since ++ turn_of track actor ∷ [] }

-- an event of an interrupt that gets to an interface; a cause, a touch or a leave, which change it; or another one
pub data Kind (shape : GuestShape) (actor : ℕ) (event : Event) (track : Track) : Type 0 where
  reaches : (key : Key) → IsTrue (has_interrupt shape key) → after_changes shape actor event track ≡ with_changes shape key as_reached track → changed_by event ≡ None → subject event ≡ Some key → Kind shape actor event track
  alters :
      (key : Key) → IsTrue (has_interrupt shape key) → after_changes shape actor event track ≡ with_changes shape key (as_changed track actor) track
      → changed_by event ≡ Some key → subject event ≡ Some key → Kind shape actor event track
  keeps : after_changes shape actor event track ≡ track → changed_by event ≡ None → subject event ≡ None → Kind shape actor event track

pub kind_of : (shape : GuestShape) (actor : ℕ) (event : Event) (track : Track) → CanHappen shape event → Kind shape actor event track
kind_of shape actor (Reach key vcpu) track can = reaches key can.0 refl refl refl
kind_of shape actor (Raise key) track can = alters key can refl refl refl
kind_of shape actor (Up key) track can = alters key (and_parts _ (has_interrupt shape key) can).1 refl refl refl
kind_of shape actor (Down key) track can = alters key (and_parts _ (has_interrupt shape key) can).1 refl refl refl
kind_of shape actor (Touch key touching) track can = alters key can.there refl refl refl
kind_of shape actor (Leave key vcpu) track can = alters key can.0 refl refl refl
kind_of shape actor event track can = keeps refl refl refl

-- two interrupts are one, or not
pub key_cases : (j k : Key) → (j ≡ k) ⊎ (j ≢ k)
key_cases j k = of (is_same_key j k) refl
  where
    of : (b : Bool) → is_same_key j k ≡ b → (j ≡ k) ⊎ (j ≢ k)
    of true e = inl (same_key j k e)
    of false e = inr (λ same. true≢false (sym (subst (λ i. is_same_key j i ≡ true) same (same_itself j)) ∙ e))

module _ (shape : GuestShape) (good : IsShape shape) (actor : ℕ) (event : Event) (track : Track) (can : CanHappen shape event) where
  pub changes_doings : (after_changes shape actor event track).doings ≡ track.doings
  changes_doings = of (kind_of shape actor event track can)
    where
      of : Kind shape actor event track → (after_changes shape actor event track).doings ≡ track.doings
      of (reaches key there e changed subject) = ap (λ (t : Track). t.doings) e
      of (alters key there e changed subject) = ap (λ (t : Track). t.doings) e
      of (keeps e changed subject) = ap (λ (t : Track). t.doings) e

  pub changes_each : length (after_changes shape actor event track).changes ≡ length track.changes
  changes_each = of (kind_of shape actor event track can)
    where
      of : Kind shape actor event track → length (after_changes shape actor event track).changes ≡ length track.changes
      of (reaches key there e changed subject) = ap (λ (t : Track). length t.changes) e ∙ length-set track.changes (place_of shape key) _
      of (alters key there e changed subject) = ap (λ (t : Track). length t.changes) e ∙ length-set track.changes (place_of shape key) _
      of (keeps e changed subject) = ap (λ (t : Track). length t.changes) e

  module _ (key : Key) (there : IsTrue (has_interrupt shape key)) where
    apart : (k : Key) → IsTrue (has_interrupt shape k) → k ≢ key → place_of shape key ≢ place_of shape k
    apart k here differ e = differ (sym (place_same shape key k good there here e))

    -- an event of another interrupt
    pub changes_apart : (subject event ≡ Some key → ⊥) → changes_of shape (after_changes shape actor event track) key ≡ changes_of shape track key
    changes_apart differ = of (kind_of shape actor event track can)
      where
        of : Kind shape actor event track → changes_of shape (after_changes shape actor event track) key ≡ changes_of shape track key
        of (reaches k here e changed is) = ap (λ t. changes_of shape t key) e ∙ changes_other shape k key as_reached track (apart k here (λ same. differ (is ∙ ap Some same)))
        of (alters k here e changed is) = ap (λ t. changes_of shape t key) e ∙ changes_other shape k key (as_changed track actor) track (apart k here (λ same. differ (is ∙ ap Some same)))
        of (keeps e changed is) = ap (λ t. changes_of shape t key) e

    module _ (each : length track.changes ≡ interrupt_count shape) where
      here : place_of shape key < length track.changes
      here = subst (λ n. place_of shape key < n) (sym each) (place_within shape key good there)

      -- one that does not change it leaves who did last
      pub last_kept : option_map_or (is_same_key key) (changed_by event) false ≡ false → (changes_of shape (after_changes shape actor event track) key).last ≡ (changes_of shape track key).last
      last_kept none = of (kind_of shape actor event track can)
        where
          of : Kind shape actor event track → (changes_of shape (after_changes shape actor event track) key).last ≡ (changes_of shape track key).last
          of (reaches k there_k e changed is) = ap (λ t. (changes_of shape t key).last) e ∙ elim (key_cases k key) [
            | inl same ↦
                subst (λ j. (changes_of shape (with_changes shape j as_reached track) key).last ≡ (changes_of shape track key).last) (sym same)
                (ap (λ (c : Changes). c.last) (changes_here shape key as_reached track here))
            | inr differ ↦ ap (λ (c : Changes). c.last) (changes_other shape k key as_reached track (apart k there_k differ))
          ]
          of (alters k there_k e changed is) =
              ap (λ t. (changes_of shape t key).last) e
              ∙ ap (λ (c : Changes). c.last) (changes_other shape k key (as_changed track actor) track (apart k there_k (λ same. true≢false (sym (ap (λ o. option_map_or (is_same_key key) o false) (changed ∙ ap Some same) ∙ same_itself key) ∙ none))))
          of (keeps e changed is) = ap (λ t. (changes_of shape t key).last) e

      -- one that does makes its actor the last
      pub last_made : option_map_or (is_same_key key) (changed_by event) false ≡ true → changes_of shape (after_changes shape actor event track) key ≡ as_changed track actor (changes_of shape track key)
      last_made one = of (kind_of shape actor event track can)
        where
          of : Kind shape actor event track → changes_of shape (after_changes shape actor event track) key ≡ as_changed track actor (changes_of shape track key)
          of (reaches k there_k e changed is) = absurd (true≢false (sym one ∙ ap (λ o. option_map_or (is_same_key key) o false) changed))
          of (alters k there_k e changed is) =
              let same : key ≡ k = same_key key k (sym (ap (λ o. option_map_or (is_same_key key) o false) changed) ∙ one) in
              ap (λ t. changes_of shape t key) e ∙ subst (λ j. changes_of shape (with_changes shape j (as_changed track actor) track) key ≡ as_changed track actor (changes_of shape track key)) same (changes_here shape key (as_changed track actor) track here)
          of (keeps e changed is) = absurd (true≢false (sym one ∙ ap (λ o. option_map_or (is_same_key key) o false) changed))

      -- an interrupt that gets to an interface was not changed since
      pub since_reach : (vcpu : ℕ) → event ≡ Reach key vcpu → (changes_of shape (after_changes shape actor event track) key).since ≡ []
      since_reach vcpu is = ap (λ e. (changes_of shape (after_changes shape actor e track) key).since) is ∙ ap (λ (c : Changes). c.since) (changes_here shape key as_reached track here)

-- A happening.

-- what a moment of a history in which something happens leaves
pub happens_doings : (shape : GuestShape) → IsShape shape → (ideal : Ideal) (actor : ℕ) (event : Event) (found : Found) (track : Track) → ideal.guest.shape ≡ shape → CanHappen shape event → length (tracked ideal (Happens actor event found) track).doings ≡ length track.doings
happens_doings shape good ideal actor event found track same can =
    length-set (after_leaving ideal event (after_changes ideal.guest.shape actor event track)).doings actor _ ∙ ap length (leaving_doings ideal event (after_changes ideal.guest.shape actor event track) ∙ ap (λ s. (after_changes s actor event track).doings) same ∙ changes_doings shape good actor event track can)

pub happens_changes : (shape : GuestShape) → IsShape shape → (ideal : Ideal) (actor : ℕ) (event : Event) (found : Found) (track : Track) → ideal.guest.shape ≡ shape → CanHappen shape event
    → (tracked ideal (Happens actor event found) track).changes ≡ (after_changes shape actor event track).changes
happens_changes shape good ideal actor event found track same can = leaving_changes ideal event (after_changes ideal.guest.shape actor event track) ∙ ap (λ s. (after_changes s actor event track).changes) same

pub happens_here : (shape : GuestShape) → IsShape shape → (ideal : Ideal) (actor : ℕ) (event : Event) (found : Found) (track : Track) → ideal.guest.shape ≡ shape → CanHappen shape event → actor < length track.doings
    → doing_of (tracked ideal (Happens actor event found) track) actor ≡ after_doing ideal actor event (doing_of track actor)
happens_here shape good ideal actor event found track same can there =
    let before = after_leaving ideal event (after_changes ideal.guest.shape actor event track) in
    let kept = leaving_doings ideal event (after_changes ideal.guest.shape actor event track) ∙ ap (λ s. (after_changes s actor event track).doings) same ∙ changes_doings shape good actor event track can in
    doing_here actor (after_doing ideal actor event (doing_of track actor)) before (subst (λ n. actor < n) (sym (ap length kept)) there)

pub happens_other : (shape : GuestShape) → IsShape shape → (ideal : Ideal) (actor : ℕ) (event : Event) (found : Found) (track : Track) (other : ℕ) → ideal.guest.shape ≡ shape → CanHappen shape event → other ≢ actor
    → doing_of (tracked ideal (Happens actor event found) track) other ≡ doing_of track other
happens_other shape good ideal actor event found track other same can differ =
    let before = after_leaving ideal event (after_changes ideal.guest.shape actor event track) in
    let kept = leaving_doings ideal event (after_changes ideal.guest.shape actor event track) ∙ ap (λ s. (after_changes s actor event track).doings) same ∙ changes_doings shape good actor event track can in
    doing_other actor other (after_doing ideal actor event (doing_of track actor)) before differ ∙ ap (λ doings. slice_index_or doings other (record { operation = None; number = 0; done = []; fetched = false })) kept

-- Who changed an interrupt last.

-- a turn of an actor goes on with what that is in
pub current_on : (before after : Track) (turn : Turn) → (doing_of after turn.actor).operation ≡ (doing_of before turn.actor).operation → (doing_of after turn.actor).number ≡ (doing_of before turn.actor).number → is_current after turn ≡ is_current before turn
current_on before after turn operation number = ap (λ o. is_some o && (doing_of after turn.actor).number == turn.number) operation ∙ ap (λ n. is_some (doing_of before turn.actor).operation && n == turn.number) number

pub last_on :
    (shape : GuestShape) (before after : Track) (key : Key) (actor : ℕ) → (changes_of shape after key).last ≡ (changes_of shape before key).last → (doing_of after actor).operation ≡ (doing_of before actor).operation
    → (doing_of after actor).number ≡ (doing_of before actor).number → changed_last shape after key actor ≡ changed_last shape before key actor
last_on shape before after key actor last operation number = ap (λ o. option_map_or (λ turn. turn.actor == actor && is_current after turn) o false) last ∙ of (changes_of shape before key).last
  where
    of : (o : Option Turn) → option_map_or (λ turn. turn.actor == actor && is_current after turn) o false ≡ option_map_or (λ turn. turn.actor == actor && is_current before turn) o false
    of None = refl
    of (Some turn) = by (turn.actor == actor) refl
      where
        by : (b : Bool) → (turn.actor == actor) ≡ b → (b && is_current after turn) ≡ (b && is_current before turn)
        by false e = refl
        by true e =
            let same = sym (eqb-true turn.actor actor e) in
            current_on before after turn (subst (λ n. (doing_of after n).operation ≡ (doing_of before n).operation) same operation) (subst (λ n. (doing_of after n).number ≡ (doing_of before n).number) same number)

-- an actor that is in a call changed it just now
pub last_now : (shape : GuestShape) (before after : Track) (key : Key) (actor : ℕ) → (changes_of shape after key).last ≡ Some (turn_of before actor) → IsTrue (is_some (doing_of after actor).operation) → (doing_of after actor).number ≡ (doing_of before actor).number
    → IsTrue (changed_last shape after key actor)
last_now shape before after key actor last operation number =
    subst (λ o. IsTrue (option_map_or (λ turn. turn.actor == actor && is_current after turn) o false)) (sym last)
    (and_from (actor == actor) (is_current after (turn_of before actor)) (eq-eqb actor actor refl) (and_from (is_some (doing_of after actor).operation) ((doing_of after actor).number == (doing_of before actor).number) operation (eq-eqb (doing_of after actor).number (doing_of before actor).number number)))
