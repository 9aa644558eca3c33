-- The first moments of a legal list are one.
use Rattle.std.proofs.Common.{◌≡◌, ℕ, ◌&&◌, ◌==◌, not, Bool, true, List, [], ◌∷◌, ◌++◌, Option, refl, sym, ◌∙◌, subst, inl, inr}
use Rattle.std.specs.List.{list_all, list_any, range_with_len}
use Rattle.std.proofs.lemmas.Bool.{and_parts, and_from, or_cases, or_left, or_right}
use Rattle.law_histories.specs.Words.{Key, IccReg, GuestShape}
use Rattle.law_histories.specs.Calls.{Event, Cpu, Moment, Begin, Happens}
use Rattle.law_histories.specs.GicCall.declared.event.Moment.TheVariants.{End}
use Rattle.law_histories.specs.Histories.{IdealGuest, Ideal, Course, opening_course, actor_count, call_of, gone_on, course_of, GoesOn, Track, opening_track, doing_of, tracked, after_moment, is_event_of, ends_turn, has_named, asks_first, comes_first, is_last_open, keys_in, is_kept_from}
use Rattle.law_histories.proofs.CourseLemmas.{course_both, goes_before}
use Rattle.legal_lists.specs.Legal.{may_come, may_be_awaited, may_be_fresh, may_be_acknowledged_from}
use Rattle.legal_lists.specs.Laws.{PartsOfLegalAreLegal}
use Rattle.legal_lists.proofs.CallLaw.{and_later, or_later, event_later, shape_after, shape_stays, AreBegun, begun_from, may_before}

-- Tests of each element.

pub all_weaker : {X : Type 0} (p q : X → Bool) → ((x : X) → p x ≡ true → q x ≡ true) → (xs : List X) → list_all p xs ≡ true → list_all q xs ≡ true
all_weaker p q weaker [] h = refl
all_weaker p q weaker (x ∷ xs) h = let both = and_parts (p x) (list_all p xs) h in and_from (q x) (list_all q xs) (weaker x both.0) (all_weaker p q weaker xs both.1)

pub any_weaker : {X : Type 0} (p q : X → Bool) → ((x : X) → p x ≡ true → q x ≡ true) → (xs : List X) → list_any p xs ≡ true → list_any q xs ≡ true
any_weaker p q weaker [] h = h
any_weaker p q weaker (x ∷ xs) h = elim (or_cases (p x) (list_any p xs) h) [
  | inl k ↦ or_left (q x) (list_any q xs) (weaker x k)
  | inr k ↦ or_right (q x) (list_any q xs) (any_weaker p q weaker xs k)
]

-- What may come.

module _ (shape : GuestShape) (actor : ℕ) (key : Key) where
  -- in a list that breaks off earlier
  come_before : (course : Course) (early late : List Moment) → course.ideal.guest.shape ≡ shape → GoesOn course (early ++ late) → AreBegun shape (course_of course (early ++ late))
      → may_come shape (call_of (course_of course (early ++ late)) actor) actor key (early ++ late) ≡ true → may_come shape (call_of (course_of course early) actor) actor key early ≡ true
  come_before course [] late same goes are h = may_before shape course actor key late same goes are h
  come_before course (Begin other operation ∷ early) late same goes are h =
      let next = gone_on course (Begin other operation) in
      and_later (not (other == actor)) (may_come shape (call_of (course_of next (early ++ late)) actor) actor key (early ++ late)) (may_come shape (call_of (course_of next early) actor) actor key early)
      (come_before next early late same goes.1 are) h
  come_before course (End other answer ∷ early) late same goes are h =
      let next = gone_on course (End other answer) in
      and_later (not (other == actor)) (may_come shape (call_of (course_of next (early ++ late)) actor) actor key (early ++ late)) (may_come shape (call_of (course_of next early) actor) actor key early)
      (come_before next early late same goes.1 are) h
  come_before course (Happens other event found ∷ early) late same goes are h =
      let next = gone_on course (Happens other event found) in
      event_later (other == actor) (is_event_of key event) (ends_turn event) (may_come shape (call_of (course_of next (early ++ late)) actor) actor key (early ++ late)) (may_come shape (call_of (course_of next early) actor) actor key early)
      (come_before next early late (shape_stays course (Happens other event found) ∙ same) goes.1 are) h

-- whoever is awaited where the list goes on is awaited where it breaks off earlier
module _ (shape : GuestShape) (course : Course) (early late : List Moment) (same : course.ideal.guest.shape ≡ shape) (goes : GoesOn course (early ++ late)) (are : AreBegun shape (course_of course (early ++ late))) where
  awaited_before : (track : Track) (vcpu : ℕ) (key : Key) → may_be_awaited shape (course_of course (early ++ late)) (early ++ late) track vcpu key ≡ true → may_be_awaited shape (course_of course early) early track vcpu key ≡ true
  awaited_before track vcpu key h =
      any_weaker
      (λ actor. not (actor == vcpu) && (has_named shape (doing_of track actor) && may_come shape (call_of (course_of course (early ++ late)) actor) actor key (early ++ late)))
      (λ actor. not (actor == vcpu) && (has_named shape (doing_of track actor) && may_come shape (call_of (course_of course early) actor) actor key early))
      (λ actor. and_later (not (actor == vcpu)) _ _ (and_later (has_named shape (doing_of track actor)) _ _ (come_before shape actor key course early late same goes are)))
      (range_with_len 0 (actor_count shape)) h

  -- the same with a guest of this shape
  awaited_in : (state : Ideal) (track : Track) (vcpu : ℕ) (key : Key) → state.guest.shape ≡ shape → may_be_awaited state.guest.shape (course_of course (early ++ late)) (early ++ late) track vcpu key ≡ true
      → may_be_awaited state.guest.shape (course_of course early) early track vcpu key ≡ true
  awaited_in state track vcpu key e =
      subst (λ s. may_be_awaited s (course_of course (early ++ late)) (early ++ late) track vcpu key ≡ true → may_be_awaited s (course_of course early) early track vcpu key ≡ true) (sym e) (awaited_before track vcpu key)

  -- so an access that is fresh there is fresh here
  access_before : (state : Ideal) (track : Track) (vcpu : ℕ) (reg : IccReg) (write : Option ℕ) → state.guest.shape ≡ shape → may_be_fresh (course_of course (early ++ late)) (early ++ late) state track (Cpu vcpu reg write) ≡ true
      → may_be_fresh (course_of course early) early state track (Cpu vcpu reg write) ≡ true
  access_before state track vcpu reg write e h =
      or_later (not (asks_first reg write)) _ _
      (all_weaker _ _ (λ key. or_later (not (comes_first state vcpu key)) _ _ (or_later (is_last_open state.guest.shape track vcpu key) _ _ (awaited_in state track vcpu key e))) (keys_in state.guest.shape)) h

  event_before : (state : Ideal) (track : Track) (event : Event) → state.guest.shape ≡ shape → may_be_fresh (course_of course (early ++ late)) (early ++ late) state track event ≡ true → may_be_fresh (course_of course early) early state track event ≡ true
  event_before state track (Cpu vcpu reg write) e h = access_before state track vcpu reg write e h
  event_before state track event e h = refl

-- Along a list.

acknowledged_before : (shape : GuestShape) (course : Course) (track : Track) (early late : List Moment) → course.ideal.guest.shape ≡ shape → GoesOn course (early ++ late) → AreBegun shape (course_of course (early ++ late))
    → may_be_acknowledged_from (course_of course (early ++ late)) course.ideal track (early ++ late) ≡ true → may_be_acknowledged_from (course_of course early) course.ideal track early ≡ true
acknowledged_before shape course track [] late same goes are h = refl
acknowledged_before shape course track (Begin actor operation ∷ early) late same goes are h =
    acknowledged_before shape (gone_on course (Begin actor operation)) (tracked course.ideal (Begin actor operation) track) early late same goes.1 are h
acknowledged_before shape course track (End actor answer ∷ early) late same goes are h =
    acknowledged_before shape (gone_on course (End actor answer)) (tracked course.ideal (End actor answer) track) early late same goes.1 are h
acknowledged_before shape course track (Happens actor event found ∷ early) late same goes are h =
    let next = gone_on course (Happens actor event found) in
    let later = tracked course.ideal (Happens actor event found) track in
    let there = shape_stays course (Happens actor event found) ∙ same in
    let both = and_parts (may_be_fresh (course_of next (early ++ late)) (early ++ late) course.ideal track event) (may_be_acknowledged_from (course_of next (early ++ late)) next.ideal later (early ++ late)) h in
    and_from (may_be_fresh (course_of next early) early course.ideal track event) (may_be_acknowledged_from (course_of next early) next.ideal later early)
    (event_before shape next early late there goes.1 are course.ideal track event same both.0) (acknowledged_before shape next later early late there goes.1 are both.1)

kept_before : (clause : Ideal → Track → Moment → Bool) (state : Ideal) (track : Track) (early late : List Moment) → is_kept_from clause state track (early ++ late) ≡ true → is_kept_from clause state track early ≡ true
kept_before clause state track [] late h = refl
kept_before clause state track (moment ∷ early) late h =
    let both = and_parts (clause state track moment) (is_kept_from clause (after_moment state moment) (tracked state moment track) (early ++ late)) h in
    and_from (clause state track moment) (is_kept_from clause (after_moment state moment) (tracked state moment track) early) both.0 (kept_before clause (after_moment state moment) (tracked state moment track) early late both.1)

-- the open calls of the first moments of a history are begun, where those at its end are
pub begun_in : (guest : IdealGuest) (early late : List Moment) → GoesOn (opening_course guest) (early ++ late) → AreBegun guest.shape (course_of (opening_course guest) (early ++ late)) → AreBegun guest.shape (course_of (opening_course guest) early)
begun_in guest early late goes are =
    begun_from guest.shape (course_of (opening_course guest) early) late (shape_after (opening_course guest) early) (goes_before (opening_course guest) early late goes).1 (subst (AreBegun guest.shape) (course_both (opening_course guest) early late) are)

pub parts : PartsOfLegalAreLegal
parts guest early late is = record {
  history = (goes_before (opening_course guest) early late is.history).0;
  begun = begun_in guest early late is.history is.begun;
  acknowledge = acknowledged_before guest.shape (opening_course guest) (opening_track guest.shape) early late refl is.history is.begun is.acknowledge;
  interface = kept_before _ (opening_course guest).ideal (opening_track guest.shape) early late is.interface;
  end = kept_before _ (opening_course guest).ideal (opening_track guest.shape) early late is.end;
  deactivation = kept_before _ (opening_course guest).ideal (opening_track guest.shape) early late is.deactivation;
}
