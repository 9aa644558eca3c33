-- A run whose parts make their calls is a history.
use Rattle.std.proofs.Common.{◌≡◌, ◌≢◌, ℕ, ◌<◌, ◌==◌, ◌&&◌, not, Bool, true, false, cond, IsTrue, All, List, [], ◌∷◌, map, filter, fold, length, Option, option_map, Some, None, is_some, is_none, inl, inr, refl, sym, ap, ◌∙◌, subst, slice_set, slice_index_or, zero, suc}
use Rattle.std.proofs.lemmas.Bool.{and_parts, cases_eq, eq-eqb, ne_eqb}
use Rattle.std.proofs.lemmas.List.{get_or-set_same, get_or-set_other, get_or-replicate, length-replicate, length-set, length-map}
use Rattle.std.proofs.lemmas.Grind.{fold-append}
use Rattle.law_lines_translate.specs.Words.{GuestShape, IsShape}
use Rattle.law_lines_translate.specs.Calls.{Moment, Begin, Operation, Happened, CanHappen}
use Rattle.law_lines_translate.specs.GicCall.declared.event.Moment.TheVariants.{End}
use Rattle.std.proofs.lemmas.List.Elements.{All-head, All-tail}
use Rattle.law_lines_translate.specs.Histories.{Call, Course, IsCallEnded, actor_count as count_of, call_of, made as made_in, seeing, gone_on, course_of, opening_course, GoesOn, happened, IdealGuest, CanOpen}
use Rattle.law_lines_translate.proofs.GicHistory.CallLemmas.{goes_on}
use Rattle.law_lines_translate.specs.Core.{Made, actor_count, CoreState, opening, after, seat_at, IsRun, IsSound, after_moment, end_of_moments, event_moments, ideal_moments, ideal_of, Act, begins, makes, ends, CoreMoment, IsPartedRun, own_acts, entries_of, entry_by, are_parts, has_registers}
use Rattle.law_lines_translate.proofs.PortCore.OpeningLemmas.{opens_sound}
use Rattle.law_lines_translate.proofs.PortCore.StepLemmas.{steps_sound}
use Rattle.law_core_is_history.specs.Known.{IsKnown}
use Rattle.law_core_is_history.specs.Whole.{within_after}
use Rattle.law_core_is_history.specs.Laws.{IsCallAt, AreCalls, Simulates}
use Rattle.law_core_is_history.specs.Related.{Related}
use Rattle.law_core_is_history.specs.Simulates.{IsSimulatedAs, event_of}
use Rattle.law_core_is_history.proofs.KnownSteps.{keeps_known}
use Rattle.law_core_is_history.proofs.RunSteps.{entry_simulates, related_opens, known_opens}

-- Calls.

-- which actors are in a call after one began or ended one
in_call_here : (calls : List (Option Call)) (actor : ℕ) (call : Option Call) → actor < length calls → is_some (slice_index_or (slice_set calls actor call) actor None) ≡ is_some call
in_call_here calls actor call there = ap is_some (get_or-set_same calls actor call None there)

in_call_other : (calls : List (Option Call)) (actor other : ℕ) (call : Option Call) → other ≢ actor → is_some (slice_index_or (slice_set calls actor call) other None) ≡ is_some (slice_index_or calls other None)
in_call_other calls actor other call differ = ap is_some (get_or-set_other calls actor other call None differ)

-- an event of one changes none of that
kept_call : (f : Call → Call) (o : Option Call) → is_some (option_map f o) ≡ is_some o
kept_call f None = refl
kept_call f (Some call) = refl

kept_calls : (f : Call → Call) (calls : List (Option Call)) (n : ℕ) → is_some (slice_index_or (map (option_map f) calls) n None) ≡ is_some (slice_index_or calls n None)
kept_calls f [] n = refl
kept_calls f (call ∷ calls) zero = kept_call f call
kept_calls f (call ∷ calls) (suc n) = kept_calls f calls n

-- One moment.

-- a state of the core beside a course of the ideal controller
pub record IsAt (shape : GuestShape) (state : CoreState) (course : Course) : Type 0 where
  pub sound : IsSound shape state
  pub related : Related shape state course.ideal
  pub known : IsKnown shape state
  pub each : length course.calls ≡ actor_count shape

-- what a moment makes of a course
record Advances (shape : GuestShape) (course : Course) (later : CoreState) (actor : ℕ) (act : Act) (events : List Moment) : Type 0 where
  pub goes : GoesOn course events
  pub at : IsAt shape later (course_of course events)
  pub mine : is_some (call_of (course_of course events) actor) ≡ within_after (is_some (call_of course actor)) act
  pub others : (other : ℕ) → other ≢ actor → is_some (call_of (course_of course events) other) ≡ is_some (call_of course other)

none_from : (o : Option Call) → IsTrue (not (is_some o)) → IsTrue (is_none o)
none_from None h = refl
none_from (Some call) h = h

module _ (shape : GuestShape) (state : CoreState) (course : Course) (actor : ℕ) (at : IsAt shape state course) (there : actor < actor_count shape) where
  in_calls : actor < length course.calls
  in_calls = subst (λ n. actor < n) (sym at.each) there

  begins_advance : (operation : Operation) (lrs : ℕ) → IsTrue (is_none (call_of course actor)) → Advances shape course state actor (begins operation lrs) (Begin actor operation ∷ [])
  begins_advance operation lrs none = record {
    goes = ((subst (λ s. actor < count_of s) (sym at.related.shape_is) there, none), tt);
    at = record { sound = at.sound; related = at.related; known = at.known; each = length-set course.calls actor _ ∙ at.each };
    mine = in_call_here course.calls actor _ in_calls;
    others = λ other differ. in_call_other course.calls actor other _ differ;
  }

  ends_advance : (answer : Option ℕ) → IsCallAt shape course actor (ends answer) → Advances shape course state actor (ends answer) (End actor answer ∷ [])
  ends_advance answer is = record {
    goes = (subst (λ s. IsCallEnded (course.signals actor) s actor (call_of course actor) answer) (sym at.related.shape_is) is, tt);
    at = record { sound = at.sound; related = at.related; known = at.known; each = length-set course.calls actor _ ∙ at.each };
    mine = in_call_here course.calls actor None in_calls;
    others = λ other differ. in_call_other course.calls actor other None differ;
  }

  event_advances :
      (made : Made) (later : CoreState) (o : Option Happened) → IsTrue (is_some (call_of course actor)) → IsSound shape later → IsKnown shape later → IsSimulatedAs shape later course.ideal actor o → Advances shape course later actor (makes made) (event_moments actor o)
  event_advances made later None within sound known related = record {
    goes = tt;
    at = record { sound = sound; related = related; known = known; each = at.each };
    mine = refl;
    others = λ other differ. refl;
  }
  event_advances made later (Some one) within sound known is =
      let after = happened actor one.event course.ideal in
      let mine : Option Call = option_map (made_in course.ideal one.event one.found) (call_of course actor) in
      record {
        goes = (record { within = within; can = subst (λ s. CanHappen s one.event) (sym at.related.shape_is) is.can; allowed = is.allowed; hands = is.hands }, tt);
        at = record { sound = sound; related = is.related; known = known; each = length-map (slice_set course.calls actor mine) (option_map (seeing after)) ∙ length-set course.calls actor mine ∙ at.each };
        mine = kept_calls (seeing after) (slice_set course.calls actor mine) actor ∙ in_call_here course.calls actor mine in_calls ∙ kept_call (made_in course.ideal one.event one.found) (call_of course actor);
        others = λ other differ. kept_calls (seeing after) (slice_set course.calls actor mine) other ∙ in_call_other course.calls actor other mine differ;
      }

-- What is left of an actor's parts.

pub own_here : (actor : ℕ) (act : Act) (moments : List CoreMoment) → own_acts actor (record { actor = actor; act = act } ∷ moments) ≡ act ∷ own_acts actor moments
own_here actor act moments = ap (λ b. map (λ (m : CoreMoment). m.act) (cond b (record { actor = actor; act = act } ∷ filter (λ (m : CoreMoment). m.actor == actor) moments) (filter (λ (m : CoreMoment). m.actor == actor) moments))) (eq-eqb actor actor refl)

pub own_other : (actor other : ℕ) (act : Act) (moments : List CoreMoment) → other ≢ actor → own_acts other (record { actor = actor; act = act } ∷ moments) ≡ own_acts other moments
own_other actor other act moments differ = ap (λ b. map (λ (m : CoreMoment). m.act) (cond b (record { actor = actor; act = act } ∷ filter (λ (m : CoreMoment). m.actor == other) moments) (filter (λ (m : CoreMoment). m.actor == other) moments))) (ne_eqb actor other (λ e. differ (sym e)))

abbrev ArePartsOf : GuestShape → Course → List CoreMoment → Type 0
ArePartsOf shape course moments = (actor : ℕ) → actor < actor_count shape → IsTrue (are_parts shape actor (is_some (call_of course actor)) (own_acts actor moments))

-- the first of an actor's acts fits, and so do the others
pub parts_next : (shape : GuestShape) (actor : ℕ) (within : Bool) (act : Act) (acts : List Act) → IsTrue (are_parts shape actor within (act ∷ acts)) → IsTrue (are_parts shape actor (within_after within act) acts)
parts_next shape actor within (begins operation lrs) acts h = (and_parts (not within && has_registers shape actor lrs) (are_parts shape actor true acts) h).1
parts_next shape actor within (makes made) acts h = (and_parts within (are_parts shape actor within acts) h).1
parts_next shape actor within (ends answer) acts h = (and_parts within (are_parts shape actor false acts) h).1

module _ (shape : GuestShape) (good : IsShape shape) where
  parts_later : (course : Course) (later : CoreState) (actor : ℕ) (act : Act) (events : List Moment) (moments : List CoreMoment) → Advances shape course later actor act events → ArePartsOf shape course (record { actor = actor; act = act } ∷ moments) → ArePartsOf shape (course_of course events) moments
  parts_later course later actor act events moments step parts other there = elim (cases_eq other actor) [
    | inl e ↦
        subst (λ n. IsTrue (are_parts shape n (is_some (call_of (course_of course events) n)) (own_acts n moments))) (sym e)
        (subst (λ b. IsTrue (are_parts shape actor b (own_acts actor moments))) (sym step.mine)
        (parts_next shape actor (is_some (call_of course actor)) act (own_acts actor moments)
        (subst (λ acts. IsTrue (are_parts shape actor (is_some (call_of course actor)) acts)) (own_here actor act moments) (parts actor (subst (λ n. n < actor_count shape) e there)))))
    | inr differ ↦
        subst (λ b. IsTrue (are_parts shape other b (own_acts other moments))) (sym (step.others other differ))
        (subst (λ acts. IsTrue (are_parts shape other (is_some (call_of course other)) acts)) (own_other actor other act moments differ) (parts other there))
  ]

  -- a moment goes on
  advances :
      (state : CoreState) (course : Course) (actor : ℕ) (act : Act) (moments : List CoreMoment) → IsAt shape state course → actor < actor_count shape → IsTrue (are_parts shape actor (is_some (call_of course actor)) (act ∷ own_acts actor moments))
      → IsRun shape state (entries_of (record { actor = actor; act = act } ∷ moments)) → IsCallAt shape course actor act
      → Advances shape course (after_moment shape state (record { actor = actor; act = act })) actor act (ideal_moments shape (seat_at state actor) actor act) × IsRun shape (after_moment shape state (record { actor = actor; act = act })) (entries_of moments)
  advances state course actor (begins operation lrs) moments at there parts run is =
      let first = and_parts (not (is_some (call_of course actor)) && has_registers shape actor lrs) (are_parts shape actor true (own_acts actor moments)) parts in
      (begins_advance shape state course actor at there operation lrs (none_from (call_of course actor) (and_parts (not (is_some (call_of course actor))) (has_registers shape actor lrs) first.0).0), run)
  advances state course actor (makes made) moments at there parts run is =
      let entry = entry_by actor made in
      let next = steps_sound shape state entry good at.sound run.0 in
      let within = (and_parts (is_some (call_of course actor)) (are_parts shape actor (is_some (call_of course actor)) (own_acts actor moments)) parts).0 in
      (event_advances shape state course actor at there made (after shape state entry) (event_of shape state entry) within next (keeps_known shape state entry good at.sound run.0 next at.known) (entry_simulates shape state course.ideal entry good at.sound at.related at.known run.0), run.1)
  advances state course actor (ends answer) moments at there parts run is = (ends_advance shape state course actor at there answer is, run)

  -- what moments lead to: a history that goes on with the course, and a state beside its end, in which those actors are in a call that are in a part
  pub record LeadsTo (state : CoreState) (course : Course) (moments : List CoreMoment) : Type 0 where
    pub goes : GoesOn course (ideal_of shape state moments)
    pub at : IsAt shape (end_of_moments shape state moments) (course_of course (ideal_of shape state moments))
    pub calls : (actor : ℕ) → actor < actor_count shape → is_some (call_of (course_of course (ideal_of shape state moments)) actor) ≡ fold within_after (is_some (call_of course actor)) (own_acts actor moments)

  history_from :
      (state : CoreState) (course : Course) (moments : List CoreMoment) → IsAt shape state course → All (λ (m : CoreMoment). m.actor < actor_count shape) moments → ArePartsOf shape course moments → IsRun shape state (entries_of moments) → AreCalls shape state course moments
      → LeadsTo state course moments
  history_from state course [] at actors parts run calls = record { goes = tt; at = at; calls = λ actor there. refl }
  history_from state course (moment ∷ moments) at actors parts run calls =
      let there : moment.actor < actor_count shape = All-head (λ (m : CoreMoment). m.actor < actor_count shape) moment moments actors in
      let events = ideal_moments shape (seat_at state moment.actor) moment.actor moment.act in
      let mine = subst (λ acts. IsTrue (are_parts shape moment.actor (is_some (call_of course moment.actor)) acts)) (own_here moment.actor moment.act moments) (parts moment.actor there) in
      let step = advances state course moment.actor moment.act moments at there mine run calls.0 in
      let later = after_moment shape state moment in
      let rest = history_from later (course_of course events) moments step.0.at (All-tail (λ (m : CoreMoment). m.actor < actor_count shape) moment moments actors) (parts_later course later moment.actor moment.act events moments step.0 parts) step.1 calls.1 in
      let joined = fold-append gone_on course events (ideal_of shape later moments) in
      record {
        goes = goes_on course events (ideal_of shape later moments) step.0.goes rest.goes;
        at = subst (IsAt shape (end_of_moments shape later moments)) (sym joined) rest.at;
        calls = λ actor among. ap (λ c. is_some (call_of c actor)) joined ∙ rest.calls actor among ∙ elim (cases_eq actor moment.actor) [
          | inl e ↦ subst (λ n. fold within_after (is_some (call_of (course_of course events) n)) (own_acts n moments) ≡ fold within_after (is_some (call_of course n)) (own_acts n (moment ∷ moments))) (sym e)
              (ap (λ b. fold within_after b (own_acts moment.actor moments)) step.0.mine ∙ sym (ap (fold within_after (is_some (call_of course moment.actor))) (own_here moment.actor moment.act moments)))
          | inr differ ↦ ap (λ b. fold within_after b (own_acts actor moments)) (step.0.others actor differ) ∙ sym (ap (fold within_after (is_some (call_of course actor))) (own_other moment.actor actor moment.act moments differ))
        ];
      }

-- what every run leads to
pub run_leads : (guest : IdealGuest) (number : ℕ) (moments : List CoreMoment) → (good : CanOpen guest) → IsPartedRun guest number moments → AreCalls guest.shape (opening guest number) (opening_course guest) moments → LeadsTo guest.shape good.sound.shape (opening guest number) (opening_course guest) moments
run_leads guest number moments good parted calls =
    let shape = guest.shape in
    let course = opening_course guest in
    let none : (actor : ℕ) → actor < actor_count shape → is_some (call_of course actor) ≡ false = λ actor there. ap is_some (get_or-replicate (actor_count shape) actor None None there) in
    history_from shape good.sound.shape (opening guest number) course moments
    (record { sound = opens_sound guest number good; related = related_opens guest number good; known = known_opens guest number good; each = length-replicate (actor_count shape) None })
    parted.actors (λ actor there. subst (λ b. IsTrue (are_parts shape actor b (own_acts actor moments))) (sym (none actor there)) (parted.parts actor there)) parted.run calls

pub runs_history : Simulates
runs_history guest number moments good parted calls = let leads = run_leads guest number moments good parted calls in record { history = leads.goes; related = leads.at.related }
