-- Along moments that go on: what is open can still become a call, and what it may make only shrinks.
use Rattle.std.proofs.Common.{◌≡◌, ◌≢◌, ℕ, ◌&&◌, ◌||◌, ◌==◌, not, Bool, true, false, cond, List, [], ◌∷◌, ◌++◌, fold, Option, option_map, Some, None, refl, sym, ap, ◌∙◌, subst, inl, inr, append_assoc, eqb-true}
use Rattle.std.specs.Option.{option_map_or}
use Rattle.std.proofs.lemmas.Bool.{and_parts, and_from, or_cases, not-true, cases_eq, eqb-false, false_from_ne_true, eq-eqb}
use Rattle.std.proofs.lemmas.List.{map-append}
use Rattle.std.proofs.lemmas.Option.{none-some}
use Rattle.law_histories.specs.Words.{Key, GuestShape, is_same_key, Private, Spi, Lpi}
use Rattle.law_histories.specs.Calls.{Event, Found, Moment, Begin, Happens, Happened, Up, Down, Touch, Reach, Take, Leave, Enable, Cpu, Put, CtlrBegin, CtlrEnd, ItsBegin, Operation}
use Rattle.law_histories.specs.GicCall.declared.event.Event.TheVariants.{Raise, Read, ItsEnd, Queue}
use Rattle.law_histories.specs.GicCall.declared.event.Moment.TheVariants.{End}
use Rattle.law_histories.specs.Histories.{IdealGuest, Ideal, happened, Call, Course, opening_course, call_of, made, seeing, gone_on, course_of, IsCallEnded, IsNext, GoesOn, key_in, is_event_of, ends_turn, is_to_come, IsEndedAs, is_signal, signals_after, with_signal}
use Rattle.law_histories.proofs.GicBase.KeyLemmas.{same_key}
use Rattle.law_histories.proofs.StateLemmas.{guest_is}
use Rattle.law_histories.proofs.CourseLemmas.{begun_other, ended_other, made_here, made_other, call_is, none_is, course_both, goes_before, noted_piece}
use Rattle.law_histories.proofs.SpreadLemmas.{events_of}
use Rattle.legal_lists.specs.Legal.{Note, Made, Sees, noting, IsBegun, IsLegal, may_make, may_make_after, may_come, raises_lpi, signalling}
use Rattle.legal_lists.specs.Laws.{MadeWasToCome}
use Rattle.legal_lists.proofs.MadeLemmas.{was_possible, GoesOnAs, made_as, notes_as, makes_less_as}

-- Tests of which a part is replaced by a weaker one.

pub and_later : (a b c : Bool) → (b ≡ true → c ≡ true) → (a && b) ≡ true → (a && c) ≡ true
and_later a b c weaker h = let both = and_parts a b h in and_from a c both.0 (weaker both.1)

pub or_later : (a b c : Bool) → (b ≡ true → c ≡ true) → (a || b) ≡ true → (a || c) ≡ true
or_later true b c weaker h = refl
or_later false b c weaker h = weaker h

-- of an event of an interrupt further on, or of what comes later in the same call or command
pub event_later : (own now ends was may : Bool) → (was ≡ true → may ≡ true) → cond own (now || (not ends && was)) was ≡ true → cond own (now || (not ends && may)) may ≡ true
event_later true now ends was may weaker h = or_later now (not ends && was) (not ends && may) (and_later (not ends) was may weaker) h
event_later false now ends was may weaker h = weaker h

-- the shape stays
pub shape_stays : (course : Course) (moment : Moment) → (gone_on course moment).ideal.guest.shape ≡ course.ideal.guest.shape
shape_stays course (Begin actor operation) = refl
shape_stays course (Happens actor event found) = (guest_is actor event course.ideal).shape
shape_stays course (End actor answer) = refl

pub shape_after : (course : Course) (moments : List Moment) → (course_of course moments).ideal.guest.shape ≡ course.ideal.guest.shape
shape_after course [] = refl
shape_after course (moment ∷ moments) = shape_after (gone_on course moment) moments ∙ shape_stays course moment

-- Open calls.

-- all calls that are open can still become calls
abbrev pub AreBegun : GuestShape → Course → Type 0
AreBegun shape course = (actor : ℕ) (call : Call) → call_of course actor ≡ Some call → IsBegun (course.signals actor) shape actor call

-- before what it notes further on
before_note : (signals : Bool) (shape : GuestShape) (actor : ℕ) (call : Call) (note : Note) → IsBegun (signalling signals note) shape actor (noting call note) → IsBegun signals shape actor call
before_note signals shape actor call note is = record { notes = note ∷ is.notes; answer = is.answer; ended = is.ended }

-- an event of its own
before_event : (signals now : Bool) (shape : GuestShape) (actor : ℕ) (call : Call) (ideal after : Ideal) (event : Event) (found : Found) → IsBegun (signals || (now && raises_lpi event)) shape actor (seeing after (made ideal event found call)) → IsBegun signals shape actor call
before_event signals now shape actor call ideal after event found is =
    before_note signals shape actor call (Made now ideal event found) (before_note (signals || (now && raises_lpi event)) shape actor (made ideal event found call) (Sees after) is)

-- whether it raised what it signals, after the event
signal_raises : (course : Course) (operation : Operation) (event : Event) → is_signal course operation event ≡ (is_signal course operation event && raises_lpi event)
signal_raises course operation event = of event
  where
    of : (event : Event) → is_signal course operation event ≡ (is_signal course operation event && raises_lpi event)
    of (Raise (Lpi id)) = both (is_signal course operation (Raise (Lpi id)))
      where
        both : (b : Bool) → b ≡ (b && true)
        both true = refl
        both false = refl
    of (Raise (Private vcpu id)) = refl
    of (Raise (Spi id)) = refl
    of (Up key) = refl
    of (Down key) = refl
    of (Touch key touching) = refl
    of (Reach key vcpu) = refl
    of (Take key vcpu) = refl
    of (Leave key vcpu) = refl
    of (Enable vcpu) = refl
    of (Cpu vcpu reg write) = refl
    of (Read place) = refl
    of (Put word value) = refl
    of (CtlrBegin enables) = refl
    of CtlrEnd = refl
    of ItsBegin = refl
    of ItsEnd = refl
    of (Queue offset change) = refl

signals_own : (course : Course) (actor : ℕ) (event : Event) (found : Found) (call : Call) → call_of course actor ≡ Some call
    → (gone_on course (Happens actor event found)).signals actor ≡ (course.signals actor || (is_signal course call.operation event && raises_lpi event))
signals_own course actor event found call is =
    ap (λ b. cond b (signals_after course actor event) (course.signals actor)) (eq-eqb actor actor refl)
    ∙ ap (λ o. course.signals actor || option_map_or (λ (one : Call). is_signal course one.operation event) o false) is
    ∙ ap (λ b. course.signals actor || b) (signal_raises course call.operation event)

-- and where it is another's
signals_other : (course : Course) (actor other : ℕ) (signals : Bool) → other ≢ actor → with_signal course actor signals other ≡ course.signals other
signals_other course actor other signals differ = ap (λ b. cond b signals (course.signals other)) (false_from_ne_true (other == actor) (λ t. differ (eqb-true other actor t)))

-- its end
before_end : (signals : Bool) (shape : GuestShape) (actor : ℕ) (call : Call) (answer : Option ℕ) → IsEndedAs signals shape actor call answer → IsBegun signals shape actor call
before_end signals shape actor call answer is = record { notes = []; answer = answer; ended = is }

ended_is : (signals : Bool) (shape other : GuestShape) (actor : ℕ) (o : Option Call) (call : Call) (answer : Option ℕ) → shape ≡ other → o ≡ Some call → IsCallEnded signals shape actor o answer → IsEndedAs signals other actor call answer
ended_is signals shape other actor o call answer same e is = subst (λ s. IsEndedAs signals s actor call answer) same (subst (λ o. IsCallEnded signals shape actor o answer) e is)

begun_before : (shape : GuestShape) (course : Course) (moment : Moment) → course.ideal.guest.shape ≡ shape → IsNext course moment → AreBegun shape (gone_on course moment) → AreBegun shape course
begun_before shape course (Begin actor operation) same next are other call e = elim (cases_eq other actor) [
  | inl is ↦ absurd (none-some call (sym (none_is (call_of course actor) next.1) ∙ ap (call_of course) (sym is) ∙ e))
  | inr differ ↦ subst (λ signals. IsBegun signals shape other call) (signals_other course actor other false differ) (are other call (begun_other course actor operation other differ ∙ e))
]
begun_before shape course (Happens actor event found) same next are other call e = elim (cases_eq other actor) [
  | inl is ↦ before_event (course.signals other) (is_signal course call.operation event) shape other call course.ideal (happened actor event course.ideal) event found
      (subst (λ signals. IsBegun signals shape other (seeing (happened actor event course.ideal) (made course.ideal event found call)))
      (ap (gone_on course (Happens actor event found)).signals is ∙ signals_own course actor event found call (ap (call_of course) (sym is) ∙ e) ∙ ap (λ n. course.signals n || (is_signal course call.operation event && raises_lpi event)) (sym is))
      (are other (seeing (happened actor event course.ideal) (made course.ideal event found call))
      (ap (call_of (gone_on course (Happens actor event found))) is ∙ made_here course actor event found call (ap (call_of course) (sym is) ∙ e))))
  | inr differ ↦ before_note (course.signals other) shape other call (Sees (happened actor event course.ideal))
      (subst (λ signals. IsBegun signals shape other (seeing (happened actor event course.ideal) call)) (signals_other course actor other (signals_after course actor event) differ)
      (are other (seeing (happened actor event course.ideal) call) (made_other course actor event found other differ ∙ ap (option_map (seeing (happened actor event course.ideal))) e)))
]
begun_before shape course (End actor answer) same next are other call e = elim (cases_eq other actor) [
  | inl is ↦ before_end (course.signals other) shape other call answer (subst (λ a. IsEndedAs (course.signals a) shape a call answer) (sym is) (ended_is (course.signals actor) course.ideal.guest.shape shape actor (call_of course actor) call answer same (ap (call_of course) (sym is) ∙ e) next))
  | inr differ ↦ subst (λ signals. IsBegun signals shape other call) (signals_other course actor other false differ) (are other call (ended_other course actor answer other differ ∙ e))
]

pub begun_from : (shape : GuestShape) (course : Course) (moments : List Moment) → course.ideal.guest.shape ≡ shape → GoesOn course moments → AreBegun shape (course_of course moments) → AreBegun shape course
begun_from shape course [] same goes are = are
begun_from shape course (moment ∷ moments) same goes are = begun_before shape course moment same goes.0 (begun_from shape (gone_on course moment) moments (shape_stays course moment ∙ same) goes.1 are)

-- What is made.

-- an actor's call may make an event of an interrupt
abbrev pub may_now : GuestShape → Course → ℕ → Key → Bool
may_now shape course actor key = option_map_or (λ call. may_make shape actor call key) (call_of course actor) false

module _ (shape : GuestShape) (course : Course) (actor : ℕ) (event : Event) (found : Found) (call : Call) (in_it : call_of course actor ≡ Some call) where
  -- the call after the event
  later : Call
  later = seeing (happened actor event course.ideal) (made course.ideal event found call)

  is_later : call_of (gone_on course (Happens actor event found)) actor ≡ Some (seeing (happened actor event course.ideal) (made course.ideal event found call))
  is_later = made_here course actor event found call in_it

  goes_later : GoesOnAs call (seeing (happened actor event course.ideal) (made course.ideal event found call))
  goes_later = let first = made_as course.ideal event found call in record { operation = first.operation; more = first.more; piece = first.piece }

  -- what it makes now it might make
  makes_now : (key : Key) → AreBegun shape (gone_on course (Happens actor event found)) → key_in event ≡ Some key → may_make shape actor call key ≡ true
  makes_now key are is_of =
      let begun = are actor (seeing (happened actor event course.ideal) (made course.ideal event found call)) (made_here course actor event found call in_it) in
      let last : Call = fold noting (seeing (happened actor event course.ideal) (made course.ideal event found call)) begun.notes in
      let first : GoesOnAs call (made course.ideal event found call) = made_as course.ideal event found call in
      let rest : GoesOnAs (seeing (happened actor event course.ideal) (made course.ideal event found call)) last = notes_as (seeing (happened actor event course.ideal) (made course.ideal event found call)) begun.notes in
      let one : List Happened = (record { event = event; found = found }) ∷ [] in
      let pieces : last.piece ≡ call.piece ++ (one ++ rest.more) = rest.piece ∙ ap (λ p. p ++ rest.more) (ap (λ p. p ++ one) (noted_piece course.ideal event call)) ∙ append_assoc call.piece one rest.more in
      ap (λ o. may_make_after shape actor o (events_of call.piece) key) (sym (rest.operation ∙ first.operation))
      ∙ was_possible shape actor begun.ended.beside last.operation last.piece begun.answer (events_of call.piece) event (events_of rest.more) key begun.ended.is_call
      (ap events_of pieces ∙ map-append (λ (happened : Happened). happened.event) call.piece (one ++ rest.more)) is_of

  -- what it may make after it, it might make before
  makes_later : (key : Key) → may_now shape (gone_on course (Happens actor event found)) actor key ≡ true → may_now shape course actor key ≡ true
  makes_later key h =
      ap (λ o. option_map_or (λ one. may_make shape actor one key) o false) in_it
      ∙ makes_less_as shape actor call (seeing (happened actor event course.ideal) (made course.ideal event found call)) key goes_later
      (ap (λ o. option_map_or (λ one. may_make shape actor one key) o false) (sym is_later) ∙ h)

  -- in the call or command that it is in: an event of an interrupt, or what may be made later
  makes_before : (key : Key) (rest : Bool) → AreBegun shape (gone_on course (Happens actor event found)) → (rest ≡ true → may_now shape (gone_on course (Happens actor event found)) actor key ≡ true)
      → (is_event_of key event || (not (ends_turn event) && rest)) ≡ true → may_now shape course actor key ≡ true
  makes_before key rest are later h = elim (or_cases (is_event_of key event) (not (ends_turn event) && rest) h) [
    | inl is ↦ ap (λ o. option_map_or (λ one. may_make shape actor one key) o false) in_it ∙ makes_now key are (of (key_in event) refl is)
    | inr k ↦ makes_later key (later (and_parts (not (ends_turn event)) rest k).1)
  ]
    where
      of : (o : Option Key) → key_in event ≡ o → option_map_or (is_same_key key) o false ≡ true → key_in event ≡ Some key
      of None e h = absurd (cc)
      of (Some one) e h = e ∙ ap Some (sym (same_key key one h))

-- a moment of another actor's
other_later : (shape : GuestShape) (course : Course) (actor other : ℕ) (event : Event) (found : Found) (key : Key) → actor ≢ other → may_now shape (gone_on course (Happens other event found)) actor key ≡ true → may_now shape course actor key ≡ true
other_later shape course actor other event found key differ h = of (call_of course actor) (ap (λ o. option_map_or (λ call. may_make shape actor call key) o false) (sym (made_other course other event found actor differ)) ∙ h)
  where
    of : (o : Option Call) → option_map_or (λ call. may_make shape actor call key) (option_map (seeing (happened other event course.ideal)) o) false ≡ true → option_map_or (λ call. may_make shape actor call key) o false ≡ true
    of None h = absurd (cc)
    of (Some call) h = h

differs : (other actor : ℕ) → not (other == actor) ≡ true → actor ≢ other
differs other actor h e = eqb-false other actor (not-true (other == actor) h) (sym e)

-- what may come further on might come before
pub may_before : (shape : GuestShape) (course : Course) (actor : ℕ) (key : Key) (moments : List Moment) → course.ideal.guest.shape ≡ shape → GoesOn course moments → AreBegun shape (course_of course moments)
    → may_come shape (call_of (course_of course moments) actor) actor key moments ≡ true → may_now shape course actor key ≡ true
may_before shape course actor key [] same goes are h = h
may_before shape course actor key (Begin other operation ∷ moments) same goes are h =
    let last = call_of (course_of (gone_on course (Begin other operation)) moments) actor in
    let both = and_parts (not (other == actor)) (may_come shape last actor key moments) h in
    ap (λ o. option_map_or (λ call. may_make shape actor call key) o false) (sym (begun_other course other operation actor (differs other actor both.0)))
    ∙ may_before shape (gone_on course (Begin other operation)) actor key moments same goes.1 are both.1
may_before shape course actor key (End other answer ∷ moments) same goes are h =
    let last = call_of (course_of (gone_on course (End other answer)) moments) actor in
    let both = and_parts (not (other == actor)) (may_come shape last actor key moments) h in
    ap (λ o. option_map_or (λ call. may_make shape actor call key) o false) (sym (ended_other course other answer actor (differs other actor both.0)))
    ∙ may_before shape (gone_on course (End other answer)) actor key moments same goes.1 are both.1
may_before shape course actor key (Happens other event found ∷ moments) same goes are h =
    of (other == actor) refl h (begun_from shape (gone_on course (Happens other event found)) moments (shape_stays course (Happens other event found) ∙ same) goes.1 are)
    (may_before shape (gone_on course (Happens other event found)) actor key moments (shape_stays course (Happens other event found) ∙ same) goes.1 are)
  where
    rest : Bool
    rest = may_come shape (call_of (course_of (gone_on course (Happens other event found)) moments) actor) actor key moments

    of : (b : Bool) → (other == actor) ≡ b → cond b (is_event_of key event || (not (ends_turn event) && rest)) rest ≡ true → AreBegun shape (gone_on course (Happens other event found))
        → (rest ≡ true → may_now shape (gone_on course (Happens other event found)) actor key ≡ true) → may_now shape course actor key ≡ true
    of true e h here later =
        let is : other ≡ actor = eqb-true other actor e in
        let call = call_is (call_of course other) goes.0.within in
        subst (λ a. may_now shape course a key ≡ true) is
        (makes_before shape course other event found call.0 call.1 key rest here (λ k. subst (λ a. may_now shape (gone_on course (Happens other event found)) a key ≡ true) (sym is) (later k)) h)
    of false e h here later = other_later shape course actor other event found key (λ same. eqb-false other actor e (sym same)) (later h)

-- what is to come may come
pub to_come : (shape : GuestShape) (last : Option Call) (actor : ℕ) (key : Key) (moments : List Moment) → is_to_come actor key moments ≡ true → may_come shape last actor key moments ≡ true
to_come shape last actor key [] h = absurd (cc)
to_come shape last actor key (Begin other operation ∷ moments) h = and_later (not (other == actor)) (is_to_come actor key moments) (may_come shape last actor key moments) (to_come shape last actor key moments) h
to_come shape last actor key (End other answer ∷ moments) h = and_later (not (other == actor)) (is_to_come actor key moments) (may_come shape last actor key moments) (to_come shape last actor key moments) h
to_come shape last actor key (Happens other event found ∷ moments) h =
    event_later (other == actor) (is_event_of key event) (ends_turn event) (is_to_come actor key moments) (may_come shape last actor key moments) (to_come shape last actor key moments) h

-- in a legal list
legal_before : (guest : IdealGuest) (early late : List Moment) (actor : ℕ) (key : Key) → IsLegal guest (early ++ late)
    → may_come guest.shape (call_of (course_of (course_of (opening_course guest) early) late) actor) actor key late ≡ true → may_now guest.shape (course_of (opening_course guest) early) actor key ≡ true
legal_before guest early late actor key is h =
    may_before guest.shape (course_of (opening_course guest) early) actor key late (shape_after (opening_course guest) early) (goes_before (opening_course guest) early late is.history).1
    (subst (AreBegun guest.shape) (course_both (opening_course guest) early late) is.begun) h

pub made_was : MadeWasToCome
made_was = record {
  among = λ guest early late actor key is h. legal_before guest early late actor key is (to_come guest.shape (call_of (course_of (course_of (opening_course guest) early) late) actor) actor key late h);
  shrinks = λ guest early late actor key is h.
      legal_before guest early late actor key is (ap (λ c. may_come guest.shape (call_of c actor) actor key late) (sym (course_both (opening_course guest) early late)) ∙ h);
}
