-- What a call reads, and that the last read of each place found what the place holds.
use Rattle.std.proofs.Common.{◌≡◌, ℕ, Bool, true, false, not, cond, IsTrue, All, List, [], ◌∷◌, ◌++◌, map, Option, refl, sym, ap, ◌∙◌, subst}
use Rattle.std.specs.List.{list_all}
use Rattle.std.proofs.lemmas.Bool.{and_parts}
use Rattle.std.proofs.lemmas.List.Elements.{All-nil, All-cons, All-head, All-tail}
use Rattle.floor_histories.specs.Calls.{PlainWord, Event, Up, Down, Enable, Touch, Reach, Take, Leave, Cpu, Put, CtlrBegin, CtlrEnd, ItsBegin, Place, Happened, HandsOut, Makes, is_beside, named_of, has_place, View}
use Rattle.floor_histories.specs.GicCall.declared.event.Event.TheVariants.{Raise, Read, ItsEnd, Queue}
use Rattle.floor_histories.specs.GicCall.declared.event.Found.TheVariants.{Word as FoundWord}
use Rattle.floor_histories.specs.GicCall.declared.event.Place.TheVariants.{Word, Queue as QueuePlace, Ctlr, Lpis}
use Rattle.floor_histories.specs.Histories.{Ideal, view_at, handed_out, happened}
use Rattle.floor_histories.proofs.GicCall.ReadLemmas.{read_of, NoRead, all_read}
use Rattle.law_eager_is_history.specs.Moments.{reads, happenings}
use Rattle.law_eager_is_history.proofs.PlaceLemmas.{is_word}
use Rattle.law_eager_is_history.proofs.CourseLemmas.{state_after, AreFine}

-- The reads of a call.

pub reads_state : (actor : ℕ) (places : List Place) (state : Ideal) → state_after actor (reads places) state ≡ state
reads_state actor [] state = refl
reads_state actor (place ∷ places) state = reads_state actor places state

pub reads_happen : (actor : ℕ) (places : List Place) (state : Ideal) → happenings actor (reads places) state ≡ map (read_of (view_at state)) places
reads_happen actor [] state = refl
reads_happen actor (place ∷ places) state = ap (λ xs. read_of (view_at state) place ∷ xs) (reads_happen actor places state)

pub reads_fine : (actor : ℕ) (places : List Place) (state : Ideal) → All (λ place. IsTrue (has_place state.guest.shape place)) places → AreFine actor state (reads places)
reads_fine actor [] state there = tt
reads_fine actor (place ∷ places) state there =
    (record { can = All-head (λ p. IsTrue (has_place state.guest.shape p)) place places there; allowed = refl }, reads_fine actor places state (All-tail (λ p. IsTrue (has_place state.guest.shape p)) place places there))

-- Pieces of a call.

-- an event that the definitions of calls name
abbrev pub is_own : Event → Bool
is_own (Read place) = false
is_own (Reach key vcpu) = false
is_own (Take key vcpu) = false
is_own (Leave key vcpu) = false
is_own event = true

pub own_named : (actor : Option ℕ) (event : Event) → IsTrue (is_own event) → is_beside actor event ≡ false
own_named actor (Raise key) h = refl
own_named actor (Up key) h = refl
own_named actor (Down key) h = refl
own_named actor (Enable vcpu) h = refl
own_named actor (Touch key touch) h = refl
own_named actor (Reach key vcpu) h = absurd (cc)
own_named actor (Take key vcpu) h = absurd (cc)
own_named actor (Leave key vcpu) h = absurd (cc)
own_named actor (Cpu vcpu reg write) h = refl
own_named actor (Read place) h = absurd (cc)
own_named actor (Put word value) h = refl
own_named actor (CtlrBegin enables) h = refl
own_named actor CtlrEnd h = refl
own_named actor ItsBegin h = refl
own_named actor ItsEnd h = refl
own_named actor (Queue offset change) h = refl

own_no_read : (place : Place) (event : Event) → IsTrue (is_own event) → event ≡ Read place → ⊥
own_no_read place event h e = let bad : IsTrue (is_own (Read place)) = subst (λ x. IsTrue (is_own x)) e h in cc

named_reads : (actor : Option ℕ) (view : View) (places : List Place) (rest : List Happened) → named_of actor (map (read_of view) places ++ rest) ≡ named_of actor rest
named_reads actor view [] rest = refl
named_reads actor view (place ∷ places) rest = named_reads actor view places rest

pub events_of : (actor : ℕ) (events : List Event) (state : Ideal) → map (λ (one : Happened). one.event) (happenings actor events state) ≡ events
events_of actor [] state = refl
events_of actor (event ∷ events) state = ap (λ xs. event ∷ xs) (events_of actor events (happened actor event state))

pub named_own : (actor : Option ℕ) (by : ℕ) (events : List Event) (state : Ideal) → IsTrue (list_all is_own events) → named_of actor (happenings by events state) ≡ happenings by events state
named_own actor by [] state h = refl
named_own actor by (event ∷ events) state h =
    let parts = and_parts (is_own event) (list_all is_own events) h in
    let one : Happened = record { event = event; found = handed_out state event } in
    let rest = happenings by events (happened by event state) in
    ap (λ b. cond (not b) (one ∷ named_of actor rest) (named_of actor rest)) (own_named actor event parts.0)
    ∙ ap (λ xs. one ∷ xs) (named_own actor by events (happened by event state) parts.1)

pub no_read : (by : ℕ) (events : List Event) (state : Ideal) → IsTrue (list_all is_own events) → (place : Place) → All (NoRead place) (happenings by events state)
no_read by [] state h place = All-nil (NoRead place)
no_read by (event ∷ events) state h place =
    let parts = and_parts (is_own event) (list_all is_own events) h in
    All-cons (NoRead place) (record { event = event; found = handed_out state event }) (happenings by events (happened by event state)) (own_no_read place event parts.0) (no_read by events (happened by event state) parts.1 place)

-- each event hands out what a view has
abbrev pub HandOut : ℕ → View → Ideal → List Event → Type 0
HandOut by view state [] = Unit {0}
HandOut by view state (event ∷ events) = HandsOut view event (handed_out state event) × HandOut by view (happened by event state) events

pub all_hand_out : (by : ℕ) (view : View) (events : List Event) (state : Ideal) → HandOut by view state events → All (λ (one : Happened). HandsOut view one.event one.found) (happenings by events state)
all_hand_out by view [] state h = All-nil (λ (one : Happened). HandsOut view one.event one.found)
all_hand_out by view (event ∷ events) state h =
    All-cons (λ (one : Happened). HandsOut view one.event one.found) (record { event = event; found = handed_out state event }) (happenings by events (happened by event state)) h.0 (all_hand_out by view events (happened by event state) h.1)

pub hand_append : (by : ℕ) (view : View) (first next : List Event) (state : Ideal) → HandOut by view state first → HandOut by view (state_after by first state) next → HandOut by view state (first ++ next)
hand_append by view [] next state one two = two
hand_append by view (event ∷ first) next state one two = (one.0, hand_append by view first next (happened by event state) one.1 two)

-- a piece of reads and then of events of its own makes them
pub piece_makes :
    (actor : Option ℕ) (by : ℕ) (view : View) (places : List Place) (events : List Event) (state : Ideal) (before : List Happened) → IsTrue (list_all is_own events) → HandOut by view state events
    → Makes actor view events places before (map (read_of view) places ++ happenings by events state)
piece_makes actor by view places events state before own hand =
    let named : named_of actor (map (read_of view) places ++ happenings by events state) ≡ happenings by events state = named_reads actor view places (happenings by events state) ∙ named_own actor by events state own in
    record {
      events_are = ap (map (λ (one : Happened). one.event)) named ∙ events_of by events state;
      found = subst (All (λ (one : Happened). HandsOut view one.event one.found)) (sym named) (all_hand_out by view events state hand);
      reads = all_read view places before (happenings by events state) (no_read by events state own);
    }

-- views that have the same words read the same of them
pub words_same : (one other : View) (places : List Place) → ((word : PlainWord) → one.words word ≡ other.words word) → IsTrue (list_all is_word places) → map (read_of one) places ≡ map (read_of other) places
words_same one other [] same h = refl
words_same one other (Word word ∷ places) same h =
    ap (λ n. (let x : Happened = record { event = Read (Word word); found = FoundWord n } in x) ∷ map (read_of one) places) (same word) ∙ ap (λ xs. read_of other (Word word) ∷ xs) (words_same one other places same h)
words_same one other (QueuePlace ∷ places) same h = absurd (cc)
words_same one other (Ctlr ∷ places) same h = absurd (cc)
words_same one other (Lpis vcpu ∷ places) same h = absurd (cc)
