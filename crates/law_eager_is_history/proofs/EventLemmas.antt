-- Events that move nothing, where nothing stands at an interface.
use Rattle.std.proofs.Common.{◌≡◌, ℕ, ◌+◌, ◌<◌, zero, suc, Bool, true, false, not, ◌&&◌, ◌||◌, IsTrue, All, List, [], ◌∷◌, ◌++◌, map, replicate, Option, Some, None, refl, sym, ap, ◌∙◌, subst, arith}
use Rattle.std.specs.List.{list_all, list_any, range_with_len, filter_map, cons_option}
use Rattle.std.specs.Option.{option_map_or}
use Rattle.std.proofs.lemmas.Bool.{and_parts, and_from, eq-eqb}
use Rattle.std.proofs.lemmas.List.Elements.{All-head, All-tail}
use Rattle.floor_histories.specs.Words.{Key, GuestShape, IsShape, is_same_key, is_number}
use Rattle.floor_histories.proofs.GicBase.KeyLemmas.{same_itself}
use Rattle.floor_histories.proofs.GicOpen.KeyLemmas.{irq_other}
use Rattle.floor_histories.specs.Calls.{Event, Up, Down, Enable, Touch, Reach, Take, Leave, Cpu, Put, CtlrBegin, CtlrEnd, ItsBegin, Runs, Done, Stalls, Record, touched, CanHappen, HappensFreely, View}
use Rattle.floor_histories.specs.GicCall.declared.event.Event.TheVariants.{Raise, Read, ItsEnd, Queue}
use Rattle.floor_histories.specs.Histories.{IdealGuest, irq_at, changed_irq, after_event, after_events, Ideal, is_home, is_of, is_allowed, happened, key_in}
use Rattle.gic_ideal.proofs.EffectLemmas.{shape_event}
use Rattle.law_eager_is_history.specs.Moments.{settled}
use Rattle.law_eager_is_history.proofs.CourseLemmas.{state_after, IsFine, AreFine}
use Rattle.law_eager_is_history.proofs.FreshLemmas.{is_no_access}
use Rattle.law_eager_is_history.proofs.WindowLemmas.{is_within, is_no_turn}
use Rattle.law_eager_is_history.proofs.ReadLemmas.{is_own, HandOut}

-- Kinds of events.

-- an event of the interrupts and the words alone; of the queue only in a turn of the ITS
abbrev pub is_plain : Bool → Event → Bool
is_plain turn (Raise key) = true
is_plain turn (Up key) = true
is_plain turn (Down key) = true
is_plain turn (Enable vcpu) = true
is_plain turn (Touch key touch) = true
is_plain turn (Put word value) = true
is_plain turn (Queue offset change) = turn
is_plain turn event = false

-- an event that neither moves, nor reads, nor accesses an interface, nor takes the ITS, nor ends a command, nor enables LPIs
abbrev pub is_calm : Event → Bool
is_calm (Raise key) = true
is_calm (Up key) = true
is_calm (Down key) = true
is_calm (Touch key touch) = true
is_calm (Put word value) = true
is_calm (CtlrBegin enables) = true
is_calm CtlrEnd = true
is_calm ItsEnd = true
is_calm (Queue offset Runs) = true
is_calm event = false

pub record IsCalm (event : Event) : Type 0 where
  pub no_access : IsTrue (is_no_access event)
  pub within : IsTrue (is_within event)
  pub no_turn : IsTrue (is_no_turn event)
  pub own : IsTrue (is_own event)

calm : (event : Event) → IsTrue (is_calm event) → IsCalm event
calm (Raise key) h = record { no_access = refl; within = refl; no_turn = refl; own = refl }
calm (Up key) h = record { no_access = refl; within = refl; no_turn = refl; own = refl }
calm (Down key) h = record { no_access = refl; within = refl; no_turn = refl; own = refl }
calm (Enable vcpu) h = absurd (cc)
calm (Touch key touch) h = record { no_access = refl; within = refl; no_turn = refl; own = refl }
calm (Reach key vcpu) h = absurd (cc)
calm (Take key vcpu) h = absurd (cc)
calm (Leave key vcpu) h = absurd (cc)
calm (Cpu vcpu reg write) h = absurd (cc)
calm (Read place) h = absurd (cc)
calm (Put word value) h = record { no_access = refl; within = refl; no_turn = refl; own = refl }
calm (CtlrBegin enables) h = record { no_access = refl; within = refl; no_turn = refl; own = refl }
calm CtlrEnd h = record { no_access = refl; within = refl; no_turn = refl; own = refl }
calm ItsBegin h = absurd (cc)
calm ItsEnd h = record { no_access = refl; within = refl; no_turn = refl; own = refl }
calm (Queue offset Runs) h = record { no_access = refl; within = refl; no_turn = refl; own = refl }
calm (Queue offset (Done words)) h = absurd (cc)
calm (Queue offset (Stalls fault)) h = absurd (cc)

pub record AreCalm (events : List Event) : Type 0 where
  pub no_access : IsTrue (list_all is_no_access events)
  pub within : IsTrue (list_all is_within events)
  pub no_turn : IsTrue (list_all is_no_turn events)
  pub own : IsTrue (list_all is_own events)

pub all_calm : (events : List Event) → IsTrue (list_all is_calm events) → AreCalm events
all_calm [] h = record { no_access = refl; within = refl; no_turn = refl; own = refl }
all_calm (event ∷ events) h =
    let parts = and_parts (is_calm event) (list_all is_calm events) h in
    let one = calm event parts.0 in
    let rest = all_calm events parts.1 in
    record {
      no_access = and_from (is_no_access event) (list_all is_no_access events) one.no_access rest.no_access;
      within = and_from (is_within event) (list_all is_within events) one.within rest.within;
      no_turn = and_from (is_no_turn event) (list_all is_no_turn events) one.no_turn rest.no_turn;
      own = and_from (is_own event) (list_all is_own events) one.own rest.own;
    }

-- a test of all of two lists
pub all_of : (test : Event → Bool) (first next : List Event) → IsTrue (list_all test first) → IsTrue (list_all test next) → IsTrue (list_all test (first ++ next))
all_of test [] next one two = two
all_of test (event ∷ first) next one two =
    let parts = and_parts (test event) (list_all test first) one in
    and_from (test event) (list_all test (first ++ next)) parts.0 (all_of test first next parts.1 two)

-- The guest in a state.

abbrev pub with_guest : Ideal → IdealGuest → Ideal
with_guest base guest = record base { guest = guest }

-- nothing stands at an interface, and in a turn the actor has the ITS
pub record IsQuiet (base : Ideal) (actor : ℕ) (turn : Bool) : Type 0 where
  pub home : (key : Key) → IsTrue (is_home base key)
  pub its : turn ≡ true → base.has_its ≡ Some actor

pub plain_happens : (turn : Bool) (actor : ℕ) (event : Event) (base : Ideal) (guest : IdealGuest) → IsTrue (is_plain turn event) → happened actor event (with_guest base guest) ≡ with_guest base (after_event guest event)
plain_happens turn actor (Raise key) base guest h = refl
plain_happens turn actor (Up key) base guest h = refl
plain_happens turn actor (Down key) base guest h = refl
plain_happens turn actor (Enable vcpu) base guest h = refl
plain_happens turn actor (Touch key touch) base guest h = refl
plain_happens turn actor (Reach key vcpu) base guest h = absurd (cc)
plain_happens turn actor (Take key vcpu) base guest h = absurd (cc)
plain_happens turn actor (Leave key vcpu) base guest h = absurd (cc)
plain_happens turn actor (Cpu vcpu reg write) base guest h = absurd (cc)
plain_happens turn actor (Read place) base guest h = absurd (cc)
plain_happens turn actor (Put word value) base guest h = refl
plain_happens turn actor (CtlrBegin enables) base guest h = absurd (cc)
plain_happens turn actor CtlrEnd base guest h = absurd (cc)
plain_happens turn actor ItsBegin base guest h = absurd (cc)
plain_happens turn actor ItsEnd base guest h = absurd (cc)
plain_happens turn actor (Queue offset change) base guest h = refl

pub free_can : (shape : GuestShape) (event : Event) → HappensFreely shape event → CanHappen shape event
free_can shape (Raise key) can = can
free_can shape (Up key) can = can
free_can shape (Down key) can = can
free_can shape (Enable vcpu) can = can
free_can shape (Touch key touch) can = can
free_can shape (Reach key vcpu) can = can
free_can shape (Take key vcpu) can = can
free_can shape (Leave key vcpu) can = can
free_can shape (Cpu vcpu reg write) can = can
free_can shape (Read place) can = can
free_can shape (Put word value) can = can
free_can shape (CtlrBegin enables) can = can
free_can shape CtlrEnd can = can
free_can shape ItsBegin can = can
free_can shape ItsEnd can = can
free_can shape (Queue offset Runs) can = can
free_can shape (Queue offset (Done words)) can = absurd can
free_can shape (Queue offset (Stalls fault)) can = can

number_itself : (actor : ℕ) (holder : Option ℕ) → holder ≡ Some actor → IsTrue (is_number actor holder)
number_itself actor holder e = rw e (eq-eqb actor actor refl)

plain_allowed : (turn : Bool) (actor : ℕ) (event : Event) (base : Ideal) (guest : IdealGuest) → IsQuiet base actor turn → IsTrue (is_plain turn event) → IsTrue (is_allowed (with_guest base guest) actor event)
plain_allowed turn actor (Raise key) base guest quiet h = refl
plain_allowed turn actor (Up key) base guest quiet h = refl
plain_allowed turn actor (Down key) base guest quiet h = refl
plain_allowed turn actor (Enable vcpu) base guest quiet h = refl
plain_allowed turn actor (Touch key touch) base guest quiet h = quiet.home key
plain_allowed turn actor (Reach key vcpu) base guest quiet h = absurd (cc)
plain_allowed turn actor (Take key vcpu) base guest quiet h = absurd (cc)
plain_allowed turn actor (Leave key vcpu) base guest quiet h = absurd (cc)
plain_allowed turn actor (Cpu vcpu reg write) base guest quiet h = absurd (cc)
plain_allowed turn actor (Read place) base guest quiet h = absurd (cc)
plain_allowed turn actor (Put word value) base guest quiet h = refl
plain_allowed turn actor (CtlrBegin enables) base guest quiet h = absurd (cc)
plain_allowed turn actor CtlrEnd base guest quiet h = absurd (cc)
plain_allowed turn actor ItsBegin base guest quiet h = absurd (cc)
plain_allowed turn actor ItsEnd base guest quiet h = absurd (cc)
plain_allowed turn actor (Queue offset change) base guest quiet h = number_itself actor base.has_its (quiet.its h)

pub plain_fine : (turn : Bool) (actor : ℕ) (event : Event) (base : Ideal) (guest : IdealGuest) → IsQuiet base actor turn → IsTrue (is_plain turn event) → CanHappen guest.shape event → IsFine actor (with_guest base guest) event
plain_fine turn actor event base guest quiet h can = record { can = can; allowed = plain_allowed turn actor event base guest quiet h }

-- Plain events, one after the other.

module _ (turn : Bool) (actor : ℕ) (base : Ideal) (quiet : IsQuiet base actor turn) where
  pub plain_state : (events : List Event) (guest : IdealGuest) → IsTrue (list_all (is_plain turn) events) → state_after actor events (with_guest base guest) ≡ with_guest base (after_events events guest)
  plain_state [] guest h = refl
  plain_state (event ∷ events) guest h =
      let parts = and_parts (is_plain turn event) (list_all (is_plain turn) events) h in
      ap (state_after actor events) (plain_happens turn actor event base guest parts.0) ∙ plain_state events (after_event guest event) parts.1

  pub plain_are_fine : (shape : GuestShape) (events : List Event) (guest : IdealGuest) → guest.shape ≡ shape → IsTrue (list_all (is_plain turn) events) → All (HappensFreely shape) events → AreFine actor (with_guest base guest) events
  plain_are_fine shape [] guest same h can = tt
  plain_are_fine shape (event ∷ events) guest same h can =
      let parts = and_parts (is_plain turn event) (list_all (is_plain turn) events) h in (
        plain_fine turn actor event base guest quiet parts.0 (subst (λ s. CanHappen s event) (sym same) (free_can shape event (All-head (HappensFreely shape) event events can))),
        subst (λ s. AreFine actor s events) (sym (plain_happens turn actor event base guest parts.0))
            (plain_are_fine shape events (after_event guest event) (shape_event event guest ∙ same) parts.1 (All-tail (HappensFreely shape) event events can)),
      )

pub shape_events : (events : List Event) (guest : IdealGuest) → (after_events events guest).shape ≡ guest.shape
shape_events [] guest = refl
shape_events (event ∷ events) guest = shape_events events (after_event guest event) ∙ shape_event event guest

-- a guest that settled, with another one of its shape
pub settled_with : (guest other : IdealGuest) → other.shape ≡ guest.shape → with_guest (settled guest) other ≡ settled other
settled_with guest other e = ap (λ shape. let s : Ideal = record (settled other) { at = replicate shape.vcpus [] } in s) (sym e)

-- nothing stands where a guest settled
pub none_at : (key : Key) (n : ℕ) → list_any (list_any (is_of key)) (replicate n []) ≡ false
none_at key zero = refl
none_at key (suc n) = none_at key n

pub settled_quiet : (guest : IdealGuest) (actor : ℕ) → IsQuiet (settled guest) actor false
settled_quiet guest actor = record { home = λ key. ap not (none_at key guest.shape.vcpus); its = λ e. absurd (cc) }

-- Touches of different interrupts.

abbrev pub is_touch : Event → Bool
is_touch (Touch key touch) = true
is_touch event = false

-- an event is of an interrupt; so is one of some events; and no two of them are of one
abbrev pub names_key : Key → Option Event → Bool
names_key key event = option_map_or (λ one. option_map_or (is_same_key key) (key_in one) false) event false

abbrev pub touched_in : Key → List Event → Bool
touched_in key [] = false
touched_in key (event ∷ events) = names_key key (Some event) || touched_in key events

abbrev pub is_apart : Event → List Event → Bool
is_apart event events = not (option_map_or (λ key. touched_in key events) (key_in event) false)

abbrev pub are_distinct : List Event → Bool
are_distinct [] = true
are_distinct (event ∷ events) = is_apart event events && are_distinct events

or_right : (a b : Bool) → b ≡ true → (a || b) ≡ true
or_right true b h = refl
or_right false b h = h

or_left : (a b : Bool) → a ≡ true → (a || b) ≡ true
or_left a b h = ap (λ c. c || b) h

differs : (b : Bool) → not b ≡ true → b ≡ true → ⊥
differs true h e = cc
differs false h e = cc

-- each hands out the record that the guest had before all of them
pub touches_hand :
    (actor : ℕ) (view : View) (base : Ideal) (events : List Event) (guest : IdealGuest) → IsShape guest.shape → IsTrue (list_all is_touch events) → IsTrue (are_distinct events)
    → ((key : Key) → IsTrue (touched_in key events) → irq_at guest key ≡ view.irqs key) → HandOut actor view (with_guest base guest) events
touches_hand actor view base [] guest shape all distinct same = tt
touches_hand actor view base (Touch key touch ∷ events) guest shape all distinct same =
    let parts = and_parts (not (touched_in key events)) (are_distinct events) distinct in
    let next = changed_irq key (touched guest.shape key touch) guest in (
      ap Record (same key (or_left (is_same_key key key) (touched_in key events) (same_itself key))),
      touches_hand actor view base events next shape all parts.1
          (λ other there. irq_other guest.shape key other (touched guest.shape key touch (irq_at guest key)) guest.irqs shape (λ e. differs (touched_in key events) parts.0 (subst (λ k. touched_in k events ≡ true) (sym e) there))
          ∙ same other (or_right (is_same_key other key) (touched_in other events) there)),
    )
touches_hand actor view base (event ∷ events) guest shape all distinct same = absurd (cc)

-- Events by number, each of another interrupt.

none_touched : (f : ℕ → Option Event) (key : Key) (a n : ℕ) → ((j : ℕ) → a < j + 1 → j < a + n → names_key key (f j) ≡ false) → touched_in key (filter_map f (range_with_len a n)) ≡ false
none_touched f key a zero none = refl
none_touched f key a (suc n) none = of (f a) (none a (omega arith) (omega arith)) (none_touched f key (a + 1) n (λ j low high. none j (omega (arith, low)) (omega (arith, high))))
  where
    of : (o : Option Event) → names_key key o ≡ false → touched_in key (filter_map f (range_with_len (a + 1) n)) ≡ false → touched_in key (cons_option o (filter_map f (range_with_len (a + 1) n))) ≡ false
    of None h later = later
    of (Some event) h later = ap (λ b. b || touched_in key (filter_map f (range_with_len (a + 1) n))) h ∙ later

pub distinct_found :
    (f : ℕ → Option Event) (limit a n : ℕ) → a + n ≡ limit → ((i j : ℕ) → i < j → j < limit → (key : Key) → names_key key (f i) ≡ true → names_key key (f j) ≡ false)
    → IsTrue (are_distinct (filter_map f (range_with_len a n)))
distinct_found f limit a zero e apart = refl
distinct_found f limit a (suc n) e apart = of (f a) refl (distinct_found f limit (a + 1) n (omega (arith, e)) apart)
  where
    rest : List Event
    rest = filter_map f (range_with_len (a + 1) n)

    alone : (event : Event) → f a ≡ Some event → (o : Option Key) → key_in event ≡ o → IsTrue (not (option_map_or (λ key. touched_in key rest) o false))
    alone event g None k = refl
    alone event g (Some key) k =
        let named : names_key key (f a) ≡ true = ap (names_key key) g ∙ ap (λ o. option_map_or (is_same_key key) o false) k ∙ same_itself key in
        ap not (none_touched f key (a + 1) n (λ j low high. apart a j (omega (arith, low)) (omega (arith, e, high)) key named))

    of : (o : Option Event) → f a ≡ o → IsTrue (are_distinct rest) → IsTrue (are_distinct (cons_option o rest))
    of None g later = later
    of (Some event) g later = and_from (is_apart event rest) (are_distinct rest) (alone event g (key_in event) refl) later

pub all_found : (test : Event → Bool) (f : ℕ → Option Event) (a n : ℕ) → ((i : ℕ) → IsTrue (option_map_or test (f i) true)) → IsTrue (list_all test (filter_map f (range_with_len a n)))
all_found test f a zero each = refl
all_found test f a (suc n) each = of (f a) (each a) (all_found test f (a + 1) n each)
  where
    of : (o : Option Event) → IsTrue (option_map_or test o true) → IsTrue (list_all test (filter_map f (range_with_len (a + 1) n))) → IsTrue (list_all test (cons_option o (filter_map f (range_with_len (a + 1) n))))
    of None h later = later
    of (Some event) h later = and_from (test event) (list_all test (filter_map f (range_with_len (a + 1) n))) h later

pub map_found : (f : ℕ → Event) (a n : ℕ) → filter_map (λ i. Some (f i)) (range_with_len a n) ≡ map f (range_with_len a n)
map_found f a zero = refl
map_found f a (suc n) = ap (λ xs. f a ∷ xs) (map_found f (a + 1) n)
