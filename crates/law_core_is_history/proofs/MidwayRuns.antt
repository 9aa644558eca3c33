-- While a command is midway, its actor has changed an LPI since it took the ITS: in every run whose parts so far are calls.
use Rattle.std.proofs.Common.{◌≡◌, ◌≢◌, ℕ, zero, suc, ◌<◌, ◌||◌, ◌⊎◌, inl, inr, true≢false, Bool, true, false, All, List, [], ◌∷◌, ◌++◌, map, fold, length, Option, option_map, Some, None, is_some, if◌then◌else◌, slice_index_or, slice_set, refl, sym, ap, subst, ◌∙◌, arith}
use Rattle.std.specs.List.{list_any}
use Rattle.std.proofs.lemmas.Bool.{and_parts, cases_eq, cases_lt}
use Rattle.std.proofs.lemmas.Grind.{fold-append}
use Rattle.std.proofs.lemmas.List.{append_assoc, append-nil, get_or-set_same, get_or-set_other, get_or_past, length-set, map-append}
use Rattle.std.proofs.lemmas.List.Elements.{All-head, All-tail}
use Rattle.std.proofs.lemmas.Option.{none-some, same_Some}
use Rattle.law_lines_translate.specs.Words.{GuestShape}
use Rattle.law_lines_translate.specs.Registers.{Maps}
use Rattle.law_lines_translate.specs.Calls.{Event, Happened, ItsBegin, Begin, Operation}
use Rattle.law_lines_translate.specs.GicCall.declared.event.Moment.TheVariants.{End}
use Rattle.law_lines_translate.specs.GicCall.declared.event.Found.TheVariants.{Nothing}
use Rattle.law_lines_translate.specs.GicHistory.History.{begun, is_midway, midway_after, noted}
use Rattle.law_lines_translate.specs.Histories.{Call, Course, call_of, course_of, gone_on, happened, made as made_in, opening_course, seeing, IdealGuest, CanOpen}
use Rattle.law_lines_translate.specs.Core.{Made, CoreState, Seat, actor_count, after, after_moment, end_of_moments, entry_by, event_moments, ideal_moments, ideal_of, is_taking, no_seat, opening, seat_at, since_turn, stands_for, succeeds, Act, begins, makes, ends, CoreMoment, IsPartedRun, IsSound, Takes}
use Rattle.law_core_is_history.specs.Laws.{AreCalls}
use Rattle.law_lines_translate.proofs.CoreProper.PartLemmas.{ideal_append}
use Rattle.law_core_is_history.proofs.HistorySteps.{LeadsTo, run_leads}
use Rattle.law_histories.proofs.CourseLemmas.{begun_here, begun_other, course_both, ended_here, ended_other, made_here, made_other, nobody_opens, noted_piece}
use Rattle.law_lines_translate.proofs.PortCore.StepLemmas.{tables_handed}
use Rattle.law_core_is_history.proofs.PrefixLemmas.{calls_before, parted_before}
use Rattle.law_core_is_history.proofs.SyncRuns.{taken_at}
use Rattle.law_lines_translate.specs.Lines.{changes_one, has_changed}
use Rattle.law_lines_translate.proofs.LineSteps.{any_more, since_more}
use Rattle.law_core_is_history.proofs.MidwayLemmas.{midway_cases, step_changes, taking_is}

-- an actor whose call is midway has changed one
abbrev pub AreMidway : CoreState → Course → Type 0
AreMidway state course = (actor : ℕ) (call : Call) → call_of course actor ≡ Some call → is_midway call.piece ≡ true → has_changed (seat_at state actor).own ≡ true

-- Events of a call.

midway_more : (piece : List Happened) (one : Happened) → is_midway (piece ++ one ∷ []) ≡ midway_after (is_midway piece) one.event
midway_more piece one =
    ap (fold midway_after false) (map-append (λ (happened : Happened). happened.event) piece (one ∷ [])) ∙ fold-append midway_after false (map (λ (happened : Happened). happened.event) piece) (one.event ∷ [])

changed_more : (own : List Made) (made : Made) → made.tables ≡ None → has_changed (own ++ made ∷ []) ≡ (has_changed own || changes_one made.step)
changed_more own made none =
    ap (list_any (λ made. changes_one made.step)) (since_more own made ∙ ap (λ o. if is_some o then made ∷ [] else since_turn own ++ made ∷ []) none) ∙ any_more (λ made. changes_one made.step) (since_turn own) made

or_true : (a b : Bool) → (a ≡ true) ⊎ (b ≡ true) → (a || b) ≡ true
or_true a b (inl h) = ap (λ c. c || b) h
or_true true b (inr h) = refl
or_true false b (inr h) = h

-- an actor in no call

set_none : {X : Type 0} (xs : List (Option X)) (n : ℕ) → slice_index_or (slice_set xs n None) n None ≡ None
set_none xs n = elim (cases_lt n (length xs)) [
  | inl less ↦ get_or-set_same xs n None None less
  | inr past ↦ get_or_past (slice_set xs n None) n None (omega (arith, past, length-set xs n None))
]

mapped_none : {X : Type 0} (f : X → X) (xs : List (Option X)) (n : ℕ) → slice_index_or xs n None ≡ None → slice_index_or (map (option_map f) xs) n None ≡ None
mapped_none f [] n e = refl
mapped_none f (x ∷ xs) zero e = ap (option_map f) e
mapped_none f (x ∷ xs) (suc n) e = mapped_none f xs n e

-- A step.

module _ (shape : GuestShape) (state : CoreState) (course : Course) (actor : ℕ) (made : Made) (sound : IsSound shape state) (takes : Takes shape state (entry_by actor made)) (before : AreMidway state course) where
  abbrev own : List Made
  own = (seat_at state actor).own

  abbrev later : CoreState
  later = after shape state (entry_by actor made)

  abbrev stood : Option Happened
  stood = stands_for shape actor (seat_at state actor).local (seat_at state actor).own made.step made.found

  own_later : (seat_at later actor).own ≡ own ++ made ∷ []
  own_later = ap (λ (s : Seat). s.own) (get_or-set_same state.seats actor _ no_seat (subst (λ n. actor < n) (sym sound.actors) takes.actor))

  seat_other : (other : ℕ) → other ≢ actor → seat_at later other ≡ seat_at state other
  seat_other other differ = get_or-set_other state.seats actor other _ no_seat differ

  -- one that takes the ITS stands for that
  takes_some : is_some made.tables ≡ true → stood ≡ Some (record { event = ItsBegin; found = Nothing })
  takes_some some =
      let both = and_parts (is_taking made.step) (succeeds shape actor (seat_at state actor).local made.step made.found) (sym (tables_handed shape state (entry_by actor made) takes) ∙ some) in
      taking_is shape actor (seat_at state actor).local own made.found made.step both.0 both.1

  mine_stood : (one : Happened) → stood ≡ Some one → (b : Bool) → (b ≡ true → has_changed own ≡ true) → midway_after b one.event ≡ true → has_changed (seat_at later actor).own ≡ true
  mine_stood one e b was h = of made.tables refl
    where
      of : (o : Option Maps) → made.tables ≡ o → has_changed (seat_at later actor).own ≡ true
      of (Some maps) handed = absurd (true≢false (sym h ∙ ap (λ (x : Happened). midway_after b x.event) (same_Some one (record { event = ItsBegin; found = Nothing }) (sym e ∙ takes_some (ap is_some handed)))))
      of None none =
          ap has_changed own_later ∙ changed_more own made none
          ∙ or_true (has_changed own) (changes_one made.step) (elim (midway_cases b one.event h) [ inl midway ↦ inl (was midway) | inr changes ↦ inr (step_changes shape actor (seat_at state actor).local own made.found made.step one e changes) ])

  -- its own call, and every other one
  mine_later : (o : Option Happened) → stood ≡ o → (call : Call) → call_of (course_of course (event_moments actor o)) actor ≡ Some call → is_midway call.piece ≡ true → has_changed (seat_at later actor).own ≡ true
  mine_later None e call is h = of made.tables refl
    where
      of : (o : Option Maps) → made.tables ≡ o → has_changed (seat_at later actor).own ≡ true
      of (Some maps) handed = absurd (none-some _ (sym e ∙ takes_some (ap is_some handed)))
      of None none = ap has_changed own_later ∙ changed_more own made none ∙ or_true (has_changed own) (changes_one made.step) (inl (before actor call is h))
  mine_later (Some one) e call is h = of (call_of course actor) refl
    where
      -- an actor in no call is in none after
      not_made : call_of course actor ≡ None → call_of (course_of course (event_moments actor (Some one))) actor ≡ None
      not_made none =
          mapped_none (seeing (happened actor one.event course.ideal)) (slice_set course.calls actor (option_map (made_in course.ideal one.event one.found) (call_of course actor))) actor
          (ap (λ o. slice_index_or (slice_set course.calls actor o) actor None) (ap (option_map (made_in course.ideal one.event one.found)) none) ∙ set_none course.calls actor)

      of : (o : Option Call) → call_of course actor ≡ o → has_changed (seat_at later actor).own ≡ true
      of None none = absurd (none-some call (sym (not_made none) ∙ is))
      of (Some old) was =
          let call_is : seeing (happened actor one.event course.ideal) (made_in course.ideal one.event one.found old) ≡ call = same_Some (seeing (happened actor one.event course.ideal) (made_in course.ideal one.event one.found old)) call (sym (made_here course actor one.event one.found old was) ∙ is) in
          let piece : (noted course.ideal one.event old).piece ++ one ∷ [] ≡ call.piece = ap (λ (c : Call). c.piece) call_is in
          mine_stood one e (is_midway old.piece) (λ midway. before actor old was midway)
          (sym (midway_more old.piece one) ∙ ap (λ p. is_midway (p ++ one ∷ [])) (sym (noted_piece course.ideal one.event old)) ∙ ap is_midway piece ∙ h)

  other_later : (o : Option Happened) (other : ℕ) → other ≢ actor → (call : Call) → call_of (course_of course (event_moments actor o)) other ≡ Some call → is_midway call.piece ≡ true → has_changed (seat_at later other).own ≡ true
  other_later o other differ call is h = ap (λ (s : Seat). has_changed s.own) (seat_other other differ) ∙ of o is
    where
      seen : (event : Event) (p : Option Call) → call_of course other ≡ p → option_map (seeing (happened actor event course.ideal)) p ≡ Some call → has_changed (seat_at state other).own ≡ true
      seen event None was e = absurd (none-some call e)
      seen event (Some old) was e = before other old was (ap (λ (c : Call). is_midway c.piece) (same_Some (seeing (happened actor event course.ideal) old) call e) ∙ h)

      of : (o : Option Happened) → call_of (course_of course (event_moments actor o)) other ≡ Some call → has_changed (seat_at state other).own ≡ true
      of None is = before other call is h
      of (Some one) is = seen one.event (call_of course other) refl (sym (made_other course actor one.event one.found other differ) ∙ is)

  pub step_midway : AreMidway later (course_of course (event_moments actor stood))
  step_midway other call is h = elim (cases_eq other actor) [
    | inl mine ↦ subst (λ n. has_changed (seat_at later n).own ≡ true) (sym mine) (mine_later stood refl call (subst (λ n. call_of (course_of course (event_moments actor stood)) n ≡ Some call) mine is) h)
    | inr differ ↦ other_later stood other differ call is h
  ]

-- The begin and the end of a call.

module _ (state : CoreState) (course : Course) (actor : ℕ) (before : AreMidway state course) where
  pub begin_midway : (operation : Operation) → actor < length course.calls → AreMidway state (gone_on course (Begin actor operation))
  begin_midway operation there other call is h = elim (cases_eq other actor) [
    | inl mine ↦
        absurd
        (true≢false
        (sym h ∙ ap (λ (c : Call). is_midway c.piece) (same_Some call (begun course.ideal operation) (sym is ∙ ap (call_of (gone_on course (Begin actor operation))) mine ∙ begun_here course actor operation there))))
    | inr differ ↦ before other call (sym (begun_other course actor operation other differ) ∙ is) h
  ]

  pub end_midway : (answer : Option ℕ) → AreMidway state (gone_on course (End actor answer))
  end_midway answer other call is h = elim (cases_eq other actor) [
    | inl mine ↦ absurd (none-some call (sym (ap (call_of (gone_on course (End actor answer))) mine ∙ ended_here course actor answer) ∙ is))
    | inr differ ↦ before other call (sym (ended_other course actor answer other differ) ∙ is) h
  ]

-- Runs.

pub last_all : (P : CoreMoment → Type 0) (early : List CoreMoment) (moment : CoreMoment) → All P (early ++ moment ∷ []) → P moment
last_all P [] moment all = All-head P moment [] all
last_all P (first ∷ early) moment all = last_all P early moment (All-tail P first (early ++ moment ∷ []) all)

-- the course after one moment more
pub course_next : (guest : IdealGuest) (number : ℕ) (early : List CoreMoment) (moment : CoreMoment) → course_of (opening_course guest) (ideal_of guest.shape (opening guest number) (early ++ moment ∷ []))
    ≡ course_of (course_of (opening_course guest) (ideal_of guest.shape (opening guest number) early)) (ideal_moments guest.shape (seat_at (end_of_moments guest.shape (opening guest number) early) moment.actor) moment.actor moment.act)
course_next guest number early moment =
    let state = end_of_moments guest.shape (opening guest number) early in
    let course = course_of (opening_course guest) (ideal_of guest.shape (opening guest number) early) in
    ap (course_of (opening_course guest)) (ideal_append guest.shape (opening guest number) early (moment ∷ [])) ∙ course_both (opening_course guest) (ideal_of guest.shape (opening guest number) early) (ideal_of guest.shape state (moment ∷ []))
    ∙ ap (course_of course) (append-nil (ideal_moments guest.shape (seat_at state moment.actor) moment.actor moment.act))

module _ (guest : IdealGuest) (number : ℕ) (good : CanOpen guest) where
  abbrev At : List CoreMoment → Type 0
  At moments = AreMidway (end_of_moments guest.shape (opening guest number) moments) (course_of (opening_course guest) (ideal_of guest.shape (opening guest number) moments))

  -- one moment more
  next_midway : (early : List CoreMoment) (moment : CoreMoment) → IsPartedRun guest number (early ++ moment ∷ []) → AreCalls guest.shape (opening guest number) (opening_course guest) (early ++ moment ∷ []) → At early → At (early ++ moment ∷ [])
  next_midway early moment parted calls before =
      subst (λ s. AreMidway s (course_of (opening_course guest) (ideal_of guest.shape (opening guest number) (early ++ moment ∷ [])))) (sym (fold-append (after_moment guest.shape) (opening guest number) early (moment ∷ [])))
      (subst (AreMidway (after_moment guest.shape state moment)) (sym (course_next guest number early moment)) (of moment.act refl))
    where
      state : CoreState
      state = end_of_moments guest.shape (opening guest number) early

      course : Course
      course = course_of (opening_course guest) (ideal_of guest.shape (opening guest number) early)

      leads : LeadsTo guest.shape good.sound.shape (opening guest number) (opening_course guest) early
      leads = run_leads guest number early good (parted_before guest number early (moment ∷ []) parted) (calls_before guest.shape (opening guest number) (opening_course guest) early (moment ∷ []) calls)

      there : moment.actor < actor_count guest.shape
      there = last_all (λ (one : CoreMoment). one.actor < actor_count guest.shape) early moment parted.actors

      of : (act : Act) → moment.act ≡ act → AreMidway (after_moment guest.shape state (record { actor = moment.actor; act = act })) (course_of course (ideal_moments guest.shape (seat_at state moment.actor) moment.actor act))
      of (begins operation lrs) e = begin_midway state course moment.actor before operation (subst (λ n. moment.actor < n) (sym leads.at.each) there)
      of (ends answer) e = end_midway state course moment.actor before answer
      of (makes made) e =
          step_midway guest.shape state course moment.actor made leads.at.sound
          (taken_at guest number early [] moment.actor made (subst (λ act. IsPartedRun guest number (early ++ (let one : CoreMoment = record { actor = moment.actor; act = act } in one) ∷ [])) e parted)) before

  along : (early late : List CoreMoment) → IsPartedRun guest number (early ++ late) → AreCalls guest.shape (opening guest number) (opening_course guest) (early ++ late) → At early → At (early ++ late)
  along early [] parted calls before = subst At (sym (append-nil early)) before
  along early (moment ∷ late) parted calls before =
      let same : (early ++ moment ∷ []) ++ late ≡ early ++ moment ∷ late = append_assoc early (moment ∷ []) late in
      let whole = subst (IsPartedRun guest number) (sym same) parted in
      let called = subst (AreCalls guest.shape (opening guest number) (opening_course guest)) (sym same) calls in
      subst At same
      (along (early ++ moment ∷ []) late whole called
      (next_midway early moment (parted_before guest number (early ++ moment ∷ []) late whole) (calls_before guest.shape (opening guest number) (opening_course guest) (early ++ moment ∷ []) late called) before))

  pub are_midway : (moments : List CoreMoment) → IsPartedRun guest number moments → AreCalls guest.shape (opening guest number) (opening_course guest) moments → At moments
  are_midway moments parted calls = along [] moments parted calls (λ actor call is. absurd (none-some call (sym (nobody_opens guest actor) ∙ is)))
