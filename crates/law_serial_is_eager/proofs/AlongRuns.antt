-- The part of an actor as far as some of its steps, while nobody else acts and it made nothing but moves and reads.
use Rattle.std.proofs.Common.{◌≡◌, ℕ, ◌+◌, ◌<◌, inl, inr, Bool, true, false, IsTrue, All, List, [], ◌∷◌, ◌++◌, fold, length, map, Option, Some, None, refl, sym, ap, ◌∙◌, subst, arith}
use Rattle.std.specs.Option.{option_map_or}
use Rattle.std.proofs.lemmas.Bool.{cases_eq, and_from}
use Rattle.std.proofs.lemmas.List.{append-nil, append_assoc, map-append}
use Rattle.std.proofs.lemmas.List.Elements.{All-nil, All-cons, All-append, All-head, All-tail}
use Rattle.std.proofs.lemmas.List.Sums.{fold-append}
use Rattle.law_lone_calls_are_eager.specs.Words.{Key, GuestShape}
use Rattle.law_lone_calls_are_eager.specs.Calls.{Event, Cpu, Reach, Take, Leave, Found, Moment, Begin, Happens, Happened, is_beside, View}
use Rattle.law_lone_calls_are_eager.specs.GicCall.declared.event.Event.TheVariants.{Read}
use Rattle.law_lone_calls_are_eager.specs.GicCall.declared.event.Moment.TheVariants.{End}
use Rattle.law_lone_calls_are_eager.specs.Histories.{Doing, Track, doing_of, tracked, Course, IsHistory, course_of, gone_on, last_of, opening_course, happened, names, Ideal, IdealGuest, CanOpen}
use Rattle.law_lone_calls_are_eager.proofs.LawHistories.CourseLemmas.{goes_before}
use Rattle.law_lone_accesses_find_all.specs.Core.{Local, Made, actor_count, local_after, CoreState, Seat, opening, seat_at, stands_for, after_moment, end_of_moments, event_moments, ideal_moments, ideal_of, Act, makes, begins, ends, CoreMoment, Progress, progress_in, stepped, IsProperRun}
use Rattle.law_lone_accesses_find_all.proofs.CoreProper.PartLemmas.{ideal_append}
use Rattle.law_lone_accesses_find_all.specs.LawRegistersStand.Followed.{Followed, followed_by, follows, opening_followed}
use Rattle.law_lone_accesses_find_all.specs.LawScansMissNone.Excuse.{followed_in}
use Rattle.law_lone_accesses_find_all.specs.LawScansMissNone.Index.{owes_kick}
use Rattle.law_lone_accesses_find_all.proofs.LawScansMissNone.ProgressLemmas.{operation_on}
use Rattle.law_lone_accesses_find_all.proofs.LawScansMissNone.RunFrame.{IsNextOf, end_more, followed_more, proper_before, progress_more}
use Rattle.law_lone_accesses_find_all.proofs.LawScansMissNone.TrackLemmas.{doing_here}
use Rattle.law_lone_accesses_find_all.proofs.LawAccessesShowHome.StayLemmas.{stored_cases}
use Rattle.law_lone_accesses_find_all.specs.LawAccessesShowHome.UpToDate.{IsUpToDate, changes_nothing, moves_or_reads}
use Rattle.law_lone_accesses_find_all.proofs.LawAccessesShowHome.UpToDateRuns.{stays_up_to_date}
use Rattle.law_lone_accesses_find_all.specs.LawLateOnesLeave.Late.{AccessesComeFirst, has_done_none, is_access_first}
use Rattle.law_lone_accesses_find_all.proofs.LawLateOnesLeave.HistoryLemmas.{clause_from, kept_both}
use Rattle.law_lone_accesses_find_all.proofs.LawLateOnesLeave.LateRuns.{none_owed}
use Rattle.law_lone_accesses_find_all.proofs.LawLateOnesLeave.PollLemmas.{proper_so}
use Rattle.law_lone_accesses_find_all.specs.Lone.{IsAlone}
use Rattle.law_lone_accesses_find_all.proofs.HereLemmas.{end_is}
use Rattle.law_serial_is_eager.specs.Serial.{WholePart, moment_by, moments_in}
use Rattle.law_serial_is_eager.proofs.AloneRuns.{AllRest, next_at, progress_other}
use Rattle.law_serial_is_eager.proofs.PartLemmas.{seat_next}
use Rattle.law_serial_is_eager.proofs.WantLemmas.{wants_none}

-- A history and what it says of its state.

ideal_so : (moments : List Moment) (course : Course) (at : Followed) → course.ideal ≡ at.ideal → (course_of course moments).ideal ≡ (fold follows at moments).ideal
ideal_so [] course at same = same
ideal_so (Begin actor operation ∷ moments) course at same = ideal_so moments (gone_on course (Begin actor operation)) (follows at (Begin actor operation)) same
ideal_so (Happens actor event found ∷ moments) course at same = ideal_so moments (gone_on course (Happens actor event found)) (follows at (Happens actor event found)) (ap (happened actor event) same)
ideal_so (End actor answer ∷ moments) course at same = ideal_so moments (gone_on course (End actor answer)) (follows at (End actor answer)) same

pub state_so : (guest : IdealGuest) (moments : List Moment) → last_of guest moments ≡ (followed_by guest moments).ideal
state_so guest moments = ideal_so moments (opening_course guest) (opening_followed guest) refl

-- What is no access.

beside_moves : (vcpu : Option ℕ) (event : Event) → is_beside vcpu event ≡ true → moves_or_reads event ≡ true
beside_moves vcpu (Reach key w) h = refl
beside_moves vcpu (Take key w) h = refl
beside_moves vcpu (Leave key w) h = refl
beside_moves vcpu (Read place) h = refl
beside_moves vcpu event h = absurd (cc)

nothing_first : (at : Followed) (moment : Moment) → IsTrue (changes_nothing moment) → is_access_first at.ideal at.track moment ≡ true
nothing_first at (Begin actor operation) h = refl
nothing_first at (End actor answer) h = refl
nothing_first at (Happens actor event found) h = of event h
  where
    of : (e : Event) → moves_or_reads e ≡ true → is_access_first at.ideal at.track (Happens actor e found) ≡ true
    of (Cpu vcpu reg write) h = absurd (cc)
    of e h = refl

quiet_clause : (moments : List Moment) (at : Followed) → All (λ moment. IsTrue (changes_nothing moment)) moments → IsTrue (clause_from is_access_first at moments)
quiet_clause [] at quiet = refl
quiet_clause (moment ∷ moments) at quiet =
    and_from (is_access_first at.ideal at.track moment) (clause_from is_access_first (follows at moment) moments) (nothing_first at moment (All-head (λ m. IsTrue (changes_nothing m)) moment moments quiet))
    (quiet_clause moments (follows at moment) (All-tail (λ m. IsTrue (changes_nothing m)) moment moments quiet))

-- what is beside the events of a call is of no interrupt of it
beside_done : (ideal : Ideal) (track : Track) (actor : ℕ) (vcpu : Option ℕ) (event : Event) (found : Found) → is_beside vcpu event ≡ true → IsTrue (has_done_none (doing_of track actor).done)
    → IsTrue (has_done_none (doing_of (tracked ideal (Happens actor event found) track) actor).done)
beside_done ideal track actor vcpu (Read place) found h none = stored_cases (λ (d : Doing). IsTrue (has_done_none d.done)) track.doings actor actor _ _ none none
beside_done ideal track actor vcpu (Reach key w) found h none = stored_cases (λ (d : Doing). IsTrue (has_done_none d.done)) track.doings actor actor _ _ none none
beside_done ideal track actor vcpu (Take key w) found h none = stored_cases (λ (d : Doing). IsTrue (has_done_none d.done)) track.doings actor actor _ _ none none
beside_done ideal track actor vcpu (Leave key w) found h none = stored_cases (λ (d : Doing). IsTrue (has_done_none d.done)) track.doings actor actor _ _ none none
beside_done ideal track actor vcpu event found h none = absurd (cc)

not_true : (b : Bool) → (IsTrue b → ⊥) → b ≡ false
not_true true h = absurd (h refl)
not_true false h = refl

-- A part and where it is.

-- the part as far as some of its steps
abbrev pub acts_to : WholePart → List Made → List Act
acts_to part pre = begins part.operation part.lrs ∷ map makes pre

abbrev pub so_far : List CoreMoment → WholePart → List Made → List CoreMoment
so_far early part pre = early ++ map (moment_by part.actor) (acts_to part pre)

abbrev rest_of : WholePart → List Made → List CoreMoment
rest_of part late = map (moment_by part.actor) (map makes late ++ ends part.answer ∷ [])

-- its call names no interrupt
abbrev pub NamesNone : GuestShape → WholePart → Type 0
NamesNone shape part = (view : View) (key : Key) → names shape view part.actor part.operation key ≡ false

-- a vCPU's part while nobody else acts, after moments at whose end all are at rest and up to date
pub record IsLonePart (guest : IdealGuest) (number : ℕ) (early : List CoreMoment) (part : WholePart) : Type 0 where
  pub good : CanOpen guest
  pub proper : IsProperRun guest number (early ++ moments_in part)
  pub history : IsHistory guest (ideal_of guest.shape (opening guest number) (early ++ moments_in part))
  pub rest : AllRest guest number early
  pub first : AccessesComeFirst guest number early
  pub up : IsUpToDate guest.shape (followed_in guest number early)
  pub few : part.actor < guest.shape.vcpus

module _ (guest : IdealGuest) (number : ℕ) (early : List CoreMoment) (part : WholePart) where
  -- the core, the vCPU and what the part stands for so far
  abbrev pub state_at : List Made → CoreState
  state_at pre = end_of_moments guest.shape (opening guest number) (so_far early part pre)

  abbrev pub p_at : List Made → Progress
  p_at pre = progress_in guest number (so_far early part pre) part.actor

  abbrev pub more : List Made → List Moment
  more pre = ideal_of guest.shape (end_of_moments guest.shape (opening guest number) early) (map (moment_by part.actor) (acts_to part pre))

  pub ideal_at : (pre : List Made) → ideal_of guest.shape (opening guest number) (so_far early part pre) ≡ ideal_of guest.shape (opening guest number) early ++ more pre
  ideal_at pre = ideal_append guest.shape (opening guest number) early (map (moment_by part.actor) (acts_to part pre))

  -- while nothing but moves and reads came
  pub record IsAlong (pre : List Made) : Type 0 where
    pub quiet : All (λ moment. IsTrue (changes_nothing moment)) (more pre)
    pub done : IsTrue (has_done_none (doing_of (followed_in guest number (so_far early part pre)).track part.actor).done)
    pub operation : (p_at pre).operation ≡ Some part.operation
    pub wants : NamesNone guest.shape part → (p_at pre).wants ≡ []

  -- one more step
  pub one_on : (pre : List Made) (made : Made) → so_far early part (pre ++ made ∷ []) ≡ so_far early part pre ++ moment_by part.actor (makes made) ∷ []
  one_on pre made =
      ap (λ acts. early ++ map (moment_by part.actor) (begins part.operation part.lrs ∷ acts)) (map-append makes pre (made ∷ []))
      ∙ ap (λ ms. early ++ ms) (map-append (moment_by part.actor) (acts_to part pre) (makes made ∷ []))
      ∙ sym (append_assoc early (map (moment_by part.actor) (acts_to part pre)) (moment_by part.actor (makes made) ∷ []))

  pub p_on : (pre : List Made) (made : Made) → p_at (pre ++ made ∷ []) ≡ stepped guest.shape part.actor made (p_at pre)
  p_on pre made = ap (λ ms. progress_in guest number ms part.actor) (one_on pre made) ∙ progress_more guest number (so_far early part pre) part.actor (makes made)

  splits : (pre late : List Made) → part.steps ≡ pre ++ late → early ++ moments_in part ≡ so_far early part pre ++ rest_of part late
  splits pre late e =
      ap (λ xs. early ++ map (moment_by part.actor) (begins part.operation part.lrs ∷ map makes xs ++ ends part.answer ∷ [])) e
      ∙ ap (λ ys. early ++ map (moment_by part.actor) (begins part.operation part.lrs ∷ ys ++ ends part.answer ∷ [])) (map-append makes pre late)
      ∙ ap (λ zs. early ++ map (moment_by part.actor) (begins part.operation part.lrs ∷ zs)) (append_assoc (map makes pre) (map makes late) (ends part.answer ∷ []))
      ∙ ap (λ ms. early ++ ms) (map-append (moment_by part.actor) (acts_to part pre) (map makes late ++ ends part.answer ∷ []))
      ∙ sym (append_assoc early (map (moment_by part.actor) (acts_to part pre)) (rest_of part late))

  -- the whole part is its steps and its end
  pub whole_is : early ++ moments_in part ≡ so_far early part part.steps ++ moment_by part.actor (ends part.answer) ∷ []
  whole_is = splits part.steps [] (sym (append-nil part.steps))

module _ (guest : IdealGuest) (number : ℕ) (early : List CoreMoment) (part : WholePart) (lone : IsLonePart guest number early part) where
  abbrev shape : GuestShape
  shape = guest.shape

  abbrev start : CoreState
  start = opening guest number

  abbrev v : ℕ
  v = part.actor

  pub there : v < actor_count shape
  there = omega (arith, lone.few)

  pub proper_at : (pre late : List Made) → part.steps ≡ pre ++ late → IsProperRun guest number (so_far early part pre)
  proper_at pre late e = proper_before guest number (so_far early part pre) (rest_of part late) (subst (IsProperRun guest number) (splits guest number early part pre late e) lone.proper)

  pub history_at : (pre late : List Made) → part.steps ≡ pre ++ late → IsHistory guest (ideal_of shape start (so_far early part pre))
  history_at pre late e =
      (goes_before (opening_course guest) (ideal_of shape start (so_far early part pre)) (ideal_of shape (state_at guest number early part pre) (rest_of part late))
      (subst (IsHistory guest) (ap (ideal_of shape start) (splits guest number early part pre late e) ∙ ideal_append shape start (so_far early part pre) (rest_of part late)) lone.history)).0

  pub next_so : (pre late : List Made) (made : Made) → part.steps ≡ pre ++ made ∷ late → IsNextOf guest number (so_far early part pre) v (makes made)
  next_so pre late made e =
      next_at guest number lone.good (so_far early part pre) v (makes made) (subst (IsProperRun guest number) (one_on guest number early part pre made) (proper_at (pre ++ made ∷ []) late (e ∙ sym (append_assoc pre (made ∷ []) late))))

  pub opens_along : IsAlong guest number early part []
  opens_along = record {
    quiet = All-cons (λ m. IsTrue (changes_nothing m)) (Begin v part.operation) [] refl (All-nil (λ m. IsTrue (changes_nothing m)));
    done =
        subst (λ (f : Followed). IsTrue (has_done_none (doing_of f.track v).done)) (sym (followed_more guest number early (moment_by v (begins part.operation part.lrs))))
        (subst (λ (d : Doing). IsTrue (has_done_none d.done)) (sym (doing_here v (record { operation = Some part.operation; number = (doing_of (followed_in guest number early).track v).number + 1; done = []; fetched = false }) (followed_in guest number early).track in_doings)) refl);
    operation = ap (λ (q : Progress). q.operation) (progress_more guest number early v (begins part.operation part.lrs));
    wants = λ none. ap (λ (q : Progress). q.wants) (progress_more guest number early v (begins part.operation part.lrs)) ∙ (lone.rest v there).wants;
  }
    where
      in_doings : v < length (followed_in guest number early).track.doings
      in_doings = subst (λ n. v < n) (sym (end_is guest number lone.good early (proper_before guest number early (moments_in part) lone.proper)).doings_each) there

  -- what the actor has for itself after one more step
  pub seat_on : (pre late : List Made) (made : Made) → part.steps ≡ pre ++ made ∷ late → (local : Local) (own : List Made) → seat_at (state_at guest number early part pre) v ≡ record { local = local; own = own }
      → seat_at (state_at guest number early part (pre ++ made ∷ [])) v ≡ record { local = local_after shape v local made.step made.found; own = own ++ made ∷ [] }
  seat_on pre late made e local own seat_is =
      let in_seats = subst (λ n. v < n) (sym (end_is guest number lone.good (so_far early part pre) (proper_at pre (made ∷ late) e)).sound.actors) there in
      ap (λ ms. seat_at (end_of_moments shape start ms) v) (one_on guest number early part pre made) ∙ ap (λ (s : CoreState). seat_at s v) (end_more shape start (so_far early part pre) (moment_by v (makes made)))
      ∙ seat_next shape v made (state_at guest number early part pre) in_seats ∙ ap (λ (s : Seat). (let t : Seat = record { local = local_after shape v s.local made.step made.found; own = s.own ++ made ∷ [] } in t)) seat_is

  module _ (pre late : List Made) (made : Made) (e : part.steps ≡ pre ++ made ∷ late) (along : IsAlong guest number early part pre) where
    abbrev seat : Seat
    seat = seat_at (state_at guest number early part pre) v

    next : IsNextOf guest number (so_far early part pre) v (makes made)
    next = next_so pre late made e

    pub along_on : (o : Option Happened) → stands_for shape v (seat_at (state_at guest number early part pre) v).local (seat_at (state_at guest number early part pre) v).own made.step made.found ≡ o → IsTrue (option_map_or (λ one. is_beside (Some v) one.event) o true) → IsAlong guest number early part (pre ++ made ∷ [])
    along_on o stands beside = record {
      quiet = subst (All (λ m. IsTrue (changes_nothing m))) (sym more_on) (All-append (λ m. IsTrue (changes_nothing m)) (more guest number early part pre) (event_moments v o) along.quiet (quiet_so o beside));
      done =
          subst (λ (f : Followed). IsTrue (has_done_none (doing_of f.track v).done)) (sym (ap (followed_in guest number) (one_on guest number early part pre made) ∙ followed_more guest number (so_far early part pre) (moment_by v (makes made))))
          (subst (λ x. IsTrue (has_done_none (doing_of (fold follows (followed_in guest number (so_far early part pre)) (event_moments v x)).track v).done)) (sym stands) (done_so o beside));
      operation = ap (λ (q : Progress). q.operation) (p_on guest number early part pre made) ∙ operation_on shape v made (p_at guest number early part pre) ∙ along.operation;
      wants = λ none. ap (λ (q : Progress). q.wants) (p_on guest number early part pre made) ∙ wants_none shape v made (p_at guest number early part pre) part.operation none along.operation (proper_so guest number v lone.good (so_far early part pre) made next).want (along.wants none);
    }
      where
        state_is : end_of_moments shape (end_of_moments shape start early) (map (moment_by v) (acts_to part pre)) ≡ state_at guest number early part pre
        state_is = sym (fold-append (after_moment shape) start early (map (moment_by v) (acts_to part pre)))

        more_on : more guest number early part (pre ++ made ∷ []) ≡ more guest number early part pre ++ event_moments v o
        more_on =
            ap (λ acts. ideal_of shape (end_of_moments shape start early) (map (moment_by v) (begins part.operation part.lrs ∷ acts))) (map-append makes pre (made ∷ []))
            ∙ ap (ideal_of shape (end_of_moments shape start early)) (map-append (moment_by v) (acts_to part pre) (makes made ∷ []))
            ∙ ideal_append shape (end_of_moments shape start early) (map (moment_by v) (acts_to part pre)) (moment_by v (makes made) ∷ [])
            ∙ ap (λ (s : CoreState). more guest number early part pre ++ (ideal_moments shape (seat_at s v) v (makes made) ++ [])) state_is
            ∙ ap (λ ms. more guest number early part pre ++ ms) (append-nil (ideal_moments shape seat v (makes made)))
            ∙ ap (λ x. more guest number early part pre ++ event_moments v x) stands

        quiet_so : (o : Option Happened) → IsTrue (option_map_or (λ one. is_beside (Some v) one.event) o true) → All (λ m. IsTrue (changes_nothing m)) (event_moments v o)
        quiet_so None h = All-nil (λ m. IsTrue (changes_nothing m))
        quiet_so (Some one) h = All-cons (λ m. IsTrue (changes_nothing m)) (Happens v one.event one.found) [] (beside_moves (Some v) one.event h) (All-nil (λ m. IsTrue (changes_nothing m)))

        done_so : (o : Option Happened) → IsTrue (option_map_or (λ one. is_beside (Some v) one.event) o true) → IsTrue (has_done_none (doing_of (fold follows (followed_in guest number (so_far early part pre)) (event_moments v o)).track v).done)
        done_so None h = along.done
        done_so (Some one) h = beside_done (followed_in guest number (so_far early part pre)).ideal (followed_in guest number (so_far early part pre)).track v (Some v) one.event one.found h along.done

  -- what holds there
  module _ (pre late : List Made) (e : part.steps ≡ pre ++ late) (along : IsAlong guest number early part pre) where
    pub up_now : IsUpToDate shape (followed_in guest number (so_far early part pre))
    up_now =
        subst (λ ms. IsUpToDate shape (followed_by guest ms)) (sym (ideal_at guest number early part pre))
        (stays_up_to_date guest (ideal_of shape start early) (more guest number early part pre) lone.good (subst (IsHistory guest) (ideal_at guest number early part pre) (history_at pre late e)) along.quiet lone.up)

    first_now : AccessesComeFirst guest number (so_far early part pre)
    first_now =
        subst (λ ms. IsTrue (clause_from is_access_first (opening_followed guest) ms)) (sym (ideal_at guest number early part pre))
        (kept_both is_access_first (ideal_of shape start early) (more guest number early part pre) (opening_followed guest) lone.first (quiet_clause (more guest number early part pre) (fold follows (opening_followed guest) (ideal_of shape start early)) along.quiet))

    pub alone : (p_at guest number early part pre).local ≡ (seat_at (state_at guest number early part pre) v).local → IsAlone guest number (so_far early part pre) v
    alone mine = record {
      nobody = λ actor within differ. ap (λ (q : Progress). q.operation) (progress_other guest number early v actor (acts_to part pre) differ) ∙ (lone.rest actor within).operation;
      owes_none =
          not_true (owes_kick v (seat_at (state_at guest number early part pre) v).local)
          (λ owes. none_owed guest number (so_far early part pre) v lone.good (proper_at pre late e) lone.few first_now along.done (subst (λ l. IsTrue (owes_kick v l)) (sym mine) owes));
    }

    pub unwanted : NamesNone shape part → (actor : ℕ) → actor < actor_count shape → (progress_in guest number (so_far early part pre) actor).wants ≡ []
    unwanted none actor within = elim (cases_eq actor v) [
      | inl same ↦ subst (λ n. (progress_in guest number (so_far early part pre) n).wants ≡ []) (sym same) (along.wants none)
      | inr differ ↦ ap (λ (q : Progress). q.wants) (progress_other guest number early v actor (acts_to part pre) differ) ∙ (lone.rest actor within).wants
    ]
