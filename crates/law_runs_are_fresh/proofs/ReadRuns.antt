-- Whoever asks for an interrupt of a command of the ITS has begun to read that, as the history says it.
use Rattle.std.proofs.Common.{◌≡◌, ◌≢◌, ℕ, ◌+◌, ◌-◌, ◌/◌, ◌<◌, ◌==◌, ◌&&◌, ◌||◌, ◌⊎◌, inl, inr, not, true≢false, Bool, true, false, IsTrue, List, [], ◌∷◌, ◌++◌, fold, Option, Some, None, is_none, is_some, unwrap_or, nat_lt, if◌then◌else◌, refl, sym, ap, ◌∙◌, subst, arith}
use Rattle.std.specs.List.{list_any}
use Rattle.std.specs.Option.{option_map_or}
use Rattle.std.proofs.lemmas.Bool.{and_parts, and_from, cases_eq, cases_Bool, lt-ltb, le-ltb, ne_eqb}
use Rattle.std.proofs.lemmas.List.{append_assoc}
use Rattle.law_serial_is_eager.specs.Words.{Key, GuestShape, is_number}
use Rattle.law_serial_is_eager.specs.Registers.{queue_of}
use Rattle.law_serial_is_eager.specs.Calls.{Ram, Cbaser, Event, Put, Found, Moment, Begin, Happens, Operation, Happened, plain_at, vcpu_word_of, its_word_of, its_from, vcpus_from, queue_address, command_places}
use Rattle.law_serial_is_eager.specs.GicCall.declared.event.Event.TheVariants.{Read, Queue as QueueEvent}
use Rattle.law_serial_is_eager.specs.GicCall.declared.event.Found.TheVariants.{Word as FoundWord}
use Rattle.law_serial_is_eager.specs.GicCall.declared.event.Moment.TheVariants.{End}
use Rattle.law_serial_is_eager.specs.GicCall.declared.event.Place.TheVariants.{Word}
use Rattle.law_serial_is_eager.specs.Histories.{Ideal, Doing, Course, after_doing, happened, course_of, doing_of, ends_turn, gone_on, has_named, is_fetch, is_memory_at, last_of, opening_course, takes_commands, view_at, with_doing, word_at, IsHistory, IsWhole, IdealGuest, CanOpen}
use Rattle.law_serial_is_eager.specs.Core.{Local, Made, CoreStep, Look, RamLook, RamPut, CommandDone, Want, Queue, Plain, actor_count, fault_place, known, known_view, known_word, since_turn, has_begun, is_look_at, may_name, reading_of, is_settled, owes_nothing, IsSeatOf, has_key, keeps_want, word_after, succeeds, stands_for, word_of, CoreState, Seat, opening, seat_at, word_in, after_moment, end_of_moments, event_moments, ideal_moments, ideal_of, Act, begins, makes, ends, CoreMoment, entry_by, has_registers, Progress, opening_progress, progressed, progress_in, IsProperEnd, IsProperRun}
use Rattle.law_serial_is_eager.specs.CoreProper.Progress.{changed_by}
use Rattle.law_serial_is_eager.specs.LawCoreIsHistory.Simulates.{IsSimulatedAs}
use Rattle.law_serial_is_eager.specs.LawRegistersStand.Followed.{Followed, follows, opening_followed}
use Rattle.law_serial_is_eager.specs.LawScansMissNone.Excuse.{followed_in}
use Rattle.law_serial_is_eager.proofs.CoreProper.PartLemmas.{ideal_append}
use Rattle.law_serial_is_eager.proofs.CoreProper.ScanLemmas.{wants_on}
use Rattle.law_serial_is_eager.proofs.LawCoreIsHistory.KnownSteps.{queue_left, seat_other}
use Rattle.law_serial_is_eager.proofs.LawCoreIsHistory.SyncRuns.{known_since}
use Rattle.law_serial_is_eager.proofs.LawHistories.HeldLaw.{bases_are_held}
use Rattle.law_serial_is_eager.proofs.LawScansMissNone.Frame.{progress_is, simulated}
use Rattle.law_serial_is_eager.proofs.LawScansMissNone.ProgressLemmas.{operation_on}
use Rattle.law_serial_is_eager.proofs.LawScansMissNone.RunFrame.{IsNextOf, end_more, followed_more, progress_more, progress_still, runs_on}
use Rattle.law_serial_is_eager.proofs.LawScansMissNone.ScanSteps.{with_made}
use Rattle.law_serial_is_eager.proofs.LawScansMissNone.TrackLemmas.{doing_other, happens_here, happens_other}
use Rattle.law_serial_is_eager.proofs.LawLateOnesLeave.PollLemmas.{proper_so, seat_so}
use Rattle.law_serial_is_eager.proofs.AloneRuns.{none_wanted}
use Rattle.law_serial_is_eager.proofs.PortCore.OpeningLemmas.{seat_opens}
use Rattle.law_serial_is_eager.proofs.PortCore.StepTies.{number_is}
use Rattle.law_serial_is_eager.proofs.WantLemmas.{is_want, wants_stay}
use Rattle.law_runs_are_fresh.proofs.OwnLemmas.{own_wants}
use Rattle.law_runs_are_fresh.proofs.ReadLemmas.{IsReading, base_place, base_there, in_memory, is_done, own_reading, places_at, queue_at, word_stays}
use Rattle.law_runs_are_fresh.proofs.TurnLemmas.{ending}

-- The history says the same.

followed_ideal : (course : Course) (at : Followed) (moments : List Moment) → course.ideal ≡ at.ideal → (course_of course moments).ideal ≡ (fold follows at moments).ideal
followed_ideal course at [] same = same
followed_ideal course at (Begin actor operation ∷ moments) same = followed_ideal (gone_on course (Begin actor operation)) (follows at (Begin actor operation)) moments same
followed_ideal course at (Happens actor event found ∷ moments) same = followed_ideal (gone_on course (Happens actor event found)) (follows at (Happens actor event found)) moments (ap (λ ideal. happened actor event ideal) same)
followed_ideal course at (End actor answer ∷ moments) same = followed_ideal (gone_on course (End actor answer)) (follows at (End actor answer)) moments same

base_is : (shape : GuestShape) → plain_at shape (base_place shape) ≡ Cbaser
base_is shape =
    ap (λ b. if b then Ram (base_place shape) else (if nat_lt (base_place shape) (its_from shape) then vcpu_word_of (base_place shape - vcpus_from shape) else its_word_of (base_place shape - its_from shape))) (le-ltb (base_place shape) (vcpus_from shape) (omega arith))
    ∙ ap (λ b. if b then vcpu_word_of (base_place shape - vcpus_from shape) else its_word_of (base_place shape - its_from shape)) (le-ltb (base_place shape) (its_from shape) (omega arith))
    ∙ ap its_word_of one
  where
    one : base_place shape - its_from shape ≡ 1
    one = omega arith

ram_is : (shape : GuestShape) (index : ℕ) → index < shape.ram / 8 → plain_at shape index ≡ Ram index
ram_is shape index inside = ap (λ b. if b then Ram index else (if nat_lt index (its_from shape) then vcpu_word_of (index - vcpus_from shape) else its_word_of (index - its_from shape))) (lt-ltb index (vcpus_from shape) inside)

-- what was read stays so while no command ends
still_fetched : (ideal : Ideal) (actor : ℕ) (event : Event) (doing : Doing) → ends_turn event ≡ false → doing.fetched ≡ true → (after_doing ideal actor event doing).fetched ≡ true
still_fetched ideal actor (QueueEvent offset change) doing quiet before = absurd (true≢false quiet)
still_fetched ideal actor event doing quiet before = ap (λ b. b || is_fetch ideal actor event) before

known_is : (o : Option ℕ) → IsTrue (is_some o) → o ≡ Some (unwrap_or o 0)
known_is None h = absurd (true≢false (sym h))
known_is (Some n) h = refl

same_some : {X : Type 0} (x y : X) → Some x ≡ Some y → x ≡ y
same_some x y e = cc

-- Along a run, all of whose parts ended as calls.

-- the whole history
pub record IsWholeRun (guest : IdealGuest) (number : ℕ) (moments : List CoreMoment) : Type 0 where
  pub history : IsHistory guest (ideal_of guest.shape (opening guest number) moments)
  pub whole : IsWhole guest (ideal_of guest.shape (opening guest number) moments)

module _ (guest : IdealGuest) (number : ℕ) (good : CanOpen guest) (actor : ℕ) (there : actor < actor_count guest.shape) where
  abbrev shape : GuestShape
  shape = guest.shape

  abbrev StateOf : List CoreMoment → CoreState
  StateOf moments = end_of_moments guest.shape (opening guest number) moments

  abbrev At : List CoreMoment → Followed
  At moments = followed_in guest number moments

  abbrev Mine : List CoreMoment → Progress
  Mine moments = progress_in guest number moments actor

  -- what is kept: of the command that it reads, and of what it asks for
  record IsKept (state : CoreState) (at : Followed) (p : Progress) : Type 0 where
    pub reads : (read : List Made) → reading_of (seat_at state actor).own ≡ Some read → IsReading guest.shape actor state (doing_of at.track actor).fetched read
    pub wants : (p.wants ≡ [] → ⊥) → (operation : Operation) → p.operation ≡ Some operation → takes_commands guest.shape operation ≡ true → (doing_of at.track actor).fetched ≡ true

  abbrev KeptAt : List CoreMoment → Type 0
  KeptAt moments = (late : List CoreMoment) → IsWholeRun guest number (moments ++ late) → IsKept (end_of_moments guest.shape (opening guest number) moments) (followed_in guest number moments) (progress_in guest number moments actor)

  module _ (early : List CoreMoment) (other : ℕ) (act : Act) (next : IsNextOf guest number early other act) where
    abbrev moment : CoreMoment
    moment = record { actor = other; act = act }

    -- what another does

    other_begins : (doing : Doing) → other ≢ actor → IsKept (end_of_moments guest.shape (opening guest number) early) (followed_in guest number early) (progress_in guest number early actor)
        → IsKept (end_of_moments guest.shape (opening guest number) early) (record { ideal = (followed_in guest number early).ideal; track = with_doing other doing (followed_in guest number early).track }) (progress_in guest number early actor)
    other_begins doing differ kept =
        let same = ap (λ (d : Doing). d.fetched) (doing_other other actor doing (followed_in guest number early).track (λ e. differ (sym e))) in
        record {
          reads = λ read is. subst (λ b. IsReading guest.shape actor (end_of_moments guest.shape (opening guest number) early) b read) (sym same) (kept.reads read is);
          wants = λ some operation is takes. same ∙ kept.wants some operation is takes;
        }

  -- nobody else stores where the queue is
  module _ (early : List CoreMoment) (other : ℕ) (made : Made) (next : IsNextOf guest number early other (makes made)) (differ : other ≢ actor) (turn : IsTrue (seat_at (end_of_moments guest.shape (opening guest number) early) actor).local.turn) where
    state : CoreState
    state = end_of_moments guest.shape (opening guest number) early

    has : (queue_of (word_in guest.shape (end_of_moments guest.shape (opening guest number) early) Queue)).turn ≡ Some actor
    has = number_is actor _ (next.at.sound.ties actor Queue there refl ∙ turn)

    never_stored :
        (late : List CoreMoment) → IsWholeRun guest number (early ++ (record { actor = other; act = makes made } ∷ late)) → (value : ℕ) (found : Found)
        → stands_for guest.shape other (seat_at (end_of_moments guest.shape (opening guest number) early) other).local (seat_at (end_of_moments guest.shape (opening guest number) early) other).own made.step made.found ≡ Some (record { event = Put Cbaser value; found = found }) → ⊥
    never_stored late all value found e =
        let rest = ideal_of guest.shape (after_moment guest.shape (end_of_moments guest.shape (opening guest number) early) (record { actor = other; act = makes made })) late in
        let split : ideal_of guest.shape (opening guest number) (early ++ (record { actor = other; act = makes made } ∷ late)) ≡ ideal_of guest.shape (opening guest number) early ++ (Happens other (Put Cbaser value) found ∷ rest) =
        ideal_append guest.shape (opening guest number) early (record { actor = other; act = makes made } ∷ late) ∙ ap (λ o. ideal_of guest.shape (opening guest number) early ++ (event_moments other o ++ rest)) e in
        let held = bases_are_held guest (ideal_of guest.shape (opening guest number) early) rest other value found good (subst (IsHistory guest) split all.history) (subst (IsWhole guest) split all.whole) in
        let ideal : (last_of guest (ideal_of guest.shape (opening guest number) early)) ≡ (followed_in guest number early).ideal = followed_ideal (opening_course guest) (opening_followed guest) (ideal_of guest.shape (opening guest number) early) refl in
        differ (same_some other actor (sym held ∙ ap (λ (i : Ideal). i.has_its) ideal ∙ (next.at.related.words Queue refl).turn ∙ has))

    foreign_base : (late : List CoreMoment) → IsWholeRun guest number (early ++ (record { actor = other; act = makes made } ∷ late)) → (step : CoreStep) → made.step ≡ step → word_of guest.shape other step ≡ Plain (base_place guest.shape)
        → word_after guest.shape other (seat_at (end_of_moments guest.shape (opening guest number) early) other).local step made.found ≡ made.found
    foreign_base late all (Look w) is on = refl
    foreign_base late all (RamLook index) is on = refl
    foreign_base late all (RamPut index seen value) is on = of (succeeds guest.shape other (seat_at (end_of_moments guest.shape (opening guest number) early) other).local (RamPut index seen value) made.found) refl
      where
        index_is : Plain index ≡ Plain (base_place guest.shape) → index ≡ base_place guest.shape
        index_is e = cc

        of : (b : Bool) → succeeds guest.shape other (seat_at (end_of_moments guest.shape (opening guest number) early) other).local (RamPut index seen value) made.found ≡ b → (if b then value else made.found) ≡ made.found
        of false e = refl
        of true e =
            absurd
            (never_stored late all value (FoundWord made.found)
            (ap (λ s. stands_for guest.shape other (seat_at (end_of_moments guest.shape (opening guest number) early) other).local (seat_at (end_of_moments guest.shape (opening guest number) early) other).own s made.found) is
            ∙ ap (λ b. if b then (if index == fault_place guest.shape then None else Some (let h : Happened = record { event = Put (plain_at guest.shape index) value; found = FoundWord made.found } in h)) else None) e
            ∙ ap (λ b. if b then None else Some (let h : Happened = record { event = Put (plain_at guest.shape index) value; found = FoundWord made.found } in h)) (ne_eqb index (fault_place guest.shape) (λ same. apart (sym (index_is on) ∙ same)))
            ∙ ap (λ word. Some (let h : Happened = record { event = Put word value; found = FoundWord made.found } in h)) (ap (plain_at guest.shape) (index_is on) ∙ base_is guest.shape)))
          where
            apart : base_place guest.shape ≡ fault_place guest.shape → ⊥
            apart e = omega (arith, e)
    foreign_base late all step is on = absurd (cc)

    abbrev later : CoreState
    later = after_moment guest.shape (end_of_moments guest.shape (opening guest number) early) (record { actor = other; act = makes made })

    same_seat : seat_at (after_moment guest.shape (end_of_moments guest.shape (opening guest number) early) (record { actor = other; act = makes made })) actor ≡ seat_at (end_of_moments guest.shape (opening guest number) early) actor
    same_seat = seat_other guest.shape (end_of_moments guest.shape (opening guest number) early) (entry_by other made) good.sound.shape next.at.sound next.acts.run.0 actor (λ e. differ (sym e))

    none : (seat_at (end_of_moments guest.shape (opening guest number) early) other).local.turn ≡ true → ⊥
    none h = differ (same_some other actor (sym (number_is other _ (next.at.sound.ties other Queue next.acts.there refl ∙ h)) ∙ has))

    pub other_reading : (late : List CoreMoment) → IsWholeRun guest number (early ++ (record { actor = other; act = makes made } ∷ late)) → (fetched : Bool) (read : List Made) → IsReading guest.shape actor (end_of_moments guest.shape (opening guest number) early) fetched read
        → IsReading guest.shape actor (after_moment guest.shape (end_of_moments guest.shape (opening guest number) early) (record { actor = other; act = makes made })) fetched read
    other_reading late all fetched read before =
        let queue : word_in guest.shape (after_moment guest.shape (end_of_moments guest.shape (opening guest number) early) (record { actor = other; act = makes made })) Queue ≡ word_in guest.shape (end_of_moments guest.shape (opening guest number) early) Queue =
        word_stays guest.shape good.sound.shape (end_of_moments guest.shape (opening guest number) early) other made next.at.sound next.acts.run.0 Queue refl
        (λ on. queue_left guest.shape (end_of_moments guest.shape (opening guest number) early) (entry_by other made) good.sound.shape next.at.sound next.acts.run.0 actor
        (ap (λ n. (queue_of n).turn) (next.acts.run.0.found ∙ ap (word_in guest.shape (end_of_moments guest.shape (opening guest number) early)) on) ∙ has) none on) in
        let base : word_in guest.shape (after_moment guest.shape (end_of_moments guest.shape (opening guest number) early) (record { actor = other; act = makes made })) (Plain (base_place guest.shape)) ≡ word_in guest.shape (end_of_moments guest.shape (opening guest number) early) (Plain (base_place guest.shape)) =
        word_stays guest.shape good.sound.shape (end_of_moments guest.shape (opening guest number) early) other made next.at.sound next.acts.run.0 (Plain (base_place guest.shape)) (base_there guest.shape) (λ on. next.acts.run.0.left ∙ foreign_base late all made.step refl on) in
        let at : queue_at guest.shape (after_moment guest.shape (end_of_moments guest.shape (opening guest number) early) (record { actor = other; act = makes made })) ≡ queue_at guest.shape (end_of_moments guest.shape (opening guest number) early) =
        ap (λ n. queue_address n + (queue_of (word_in guest.shape (after_moment guest.shape (end_of_moments guest.shape (opening guest number) early) (record { actor = other; act = makes made })) Queue)).offset) base
        ∙ ap (λ n. queue_address (word_in guest.shape (end_of_moments guest.shape (opening guest number) early) (Plain (base_place guest.shape))) + (queue_of n).offset) queue in
        record {
          turn = ap (λ (s : Seat). s.local.turn) same_seat ∙ before.turn;
          queue = ap (λ (s : Seat). is_some (known guest.shape actor (since_turn s.own) Queue)) same_seat ∙ before.queue;
          cbaser = λ n e. base ∙ before.cbaser n (sym (ap (λ (s : Seat). known guest.shape actor (since_turn s.own) (Plain (base_place guest.shape))) same_seat) ∙ e);
          looked = λ h. before.looked (subst (λ from. IsTrue (list_any (λ made. is_look_at (places_at guest.shape from) made.step) read)) at h);
        }

  abbrev After : List CoreMoment → ℕ → Act → CoreState
  After early other act = after_moment guest.shape (end_of_moments guest.shape (opening guest number) early) (record { actor = other; act = act })

  abbrev Then : List CoreMoment → ℕ → Act → Followed
  Then early other act = fold follows (followed_in guest number early) (ideal_moments guest.shape (seat_at (end_of_moments guest.shape (opening guest number) early) other) other act)

  -- a moment of another
  other_keeps : (early : List CoreMoment) (other : ℕ) (act : Act) → IsNextOf guest number early other act → other ≢ actor → (late : List CoreMoment) → IsWholeRun guest number (early ++ (record { actor = other; act = act } ∷ late))
      → IsKept (end_of_moments guest.shape (opening guest number) early) (followed_in guest number early) (progress_in guest number early actor)
      → IsKept (after_moment guest.shape (end_of_moments guest.shape (opening guest number) early) (record { actor = other; act = act })) (fold follows (followed_in guest number early) (ideal_moments guest.shape (seat_at (end_of_moments guest.shape (opening guest number) early) other) other act)) (progress_in guest number early actor)
  other_keeps early other (begins operation lrs) next differ late all kept = other_begins early other (begins operation lrs) next _ differ kept
  other_keeps early other (ends answer) next differ late all kept = other_begins early other (ends answer) next _ differ kept
  other_keeps early other (makes made) next differ late all kept =
      record {
        reads = λ read is.
            (let before = kept.reads read (sym (ap (λ (s : Seat). reading_of s.own) (seat_other guest.shape (end_of_moments guest.shape (opening guest number) early) (entry_by other made) good.sound.shape next.at.sound next.acts.run.0 actor (λ e. differ (sym e)))) ∙ is) in
            subst (λ b. IsReading guest.shape actor (after_moment guest.shape (end_of_moments guest.shape (opening guest number) early) (record { actor = other; act = makes made })) b read) (sym fetched) (other_reading early other made next differ before.turn late all (doing_of (followed_in guest number early).track actor).fetched read before));
        wants = λ some operation is takes. fetched ∙ kept.wants some operation is takes;
      }
    where
      of : (o : Option Happened) → IsSimulatedAs guest.shape (after_moment guest.shape (end_of_moments guest.shape (opening guest number) early) (record { actor = other; act = makes made })) (followed_in guest number early).ideal other o
          → (doing_of (fold follows (followed_in guest number early) (event_moments other o)).track actor).fetched ≡ (doing_of (followed_in guest number early).track actor).fetched
      of None sim = refl
      of (Some one) sim = ap (λ (d : Doing). d.fetched) (happens_other guest.shape good.sound.shape (followed_in guest number early).ideal other one.event one.found (followed_in guest number early).track actor next.at.related.shape_is sim.can (λ e. differ (sym e)))

      fetched : (doing_of (fold follows (followed_in guest number early) (ideal_moments guest.shape (seat_at (end_of_moments guest.shape (opening guest number) early) other) other (makes made))).track actor).fetched ≡ (doing_of (followed_in guest number early).track actor).fetched
      fetched = of (stands_for guest.shape other (seat_at (end_of_moments guest.shape (opening guest number) early) other).local (seat_at (end_of_moments guest.shape (opening guest number) early) other).own made.step made.found)
          (simulated guest.shape good.sound.shape (end_of_moments guest.shape (opening guest number) early) (followed_in guest number early) _ other made next.at next.acts)

  -- Its own moments.

  no_turn : (local : Local) → IsTrue (is_settled local) → IsTrue local.turn → ⊥
  no_turn local settled turn =
      let marks = (and_parts (owes_nothing local && not local.turn && not local.ctlr) (is_none local.line) settled).0 in
      let both = and_parts (owes_nothing local && not local.turn) (not local.ctlr) marks in
      of local.turn (and_parts (owes_nothing local) (not local.turn) both.0).1 turn
    where
      of : (b : Bool) → IsTrue (not b) → IsTrue b → ⊥
      of true h k = true≢false (sym h)
      of false h k = true≢false (sym k)

  rested : (state : CoreState) (at : Followed) (p : Progress) (fetched : Bool) (next : Followed) (q : Progress) → IsTrue (is_settled (seat_at state actor).local) → q.wants ≡ [] → IsKept state at p → IsKept state next q
  rested state at p fetched next q settled none kept = record { reads = λ read is. absurd (no_turn (seat_at state actor).local settled (kept.reads read is).turn); wants = λ some operation is takes. absurd (some none) }

  module _ (early : List CoreMoment) (made : Made) (next : IsNextOf guest number early actor (makes made)) (kept : IsKept (end_of_moments guest.shape (opening guest number) early) (followed_in guest number early) (progress_in guest number early actor)) where
    abbrev p : Progress
    p = progress_in guest number early actor

    abbrev doing : Doing
    doing = doing_of (followed_in guest number early).track actor

    abbrev what : Option Happened
    what = stands_for guest.shape actor (seat_at (end_of_moments guest.shape (opening guest number) early) actor).local (seat_at (end_of_moments guest.shape (opening guest number) early) actor).own made.step made.found

    sim : IsSimulatedAs guest.shape (after_moment guest.shape (end_of_moments guest.shape (opening guest number) early) (record { actor = actor; act = makes made })) (followed_in guest number early).ideal actor
        (stands_for guest.shape actor (seat_at (end_of_moments guest.shape (opening guest number) early) actor).local (seat_at (end_of_moments guest.shape (opening guest number) early) actor).own made.step made.found)
    sim = simulated guest.shape good.sound.shape (end_of_moments guest.shape (opening guest number) early) (followed_in guest number early) _ actor made next.at next.acts

    abbrev Now : Option Happened → Bool
    Now o = (doing_of (fold follows (followed_in guest number early) (event_moments actor o)).track actor).fetched

    now_is : (one : Happened) → IsSimulatedAs guest.shape (after_moment guest.shape (end_of_moments guest.shape (opening guest number) early) (record { actor = actor; act = makes made })) (followed_in guest number early).ideal actor (Some one)
        → (doing_of (fold follows (followed_in guest number early) (event_moments actor (Some one))).track actor).fetched ≡ (after_doing (followed_in guest number early).ideal actor one.event (doing_of (followed_in guest number early).track actor)).fetched
    now_is one is = ap (λ (d : Doing). d.fetched) (happens_here guest.shape good.sound.shape (followed_in guest number early).ideal actor one.event one.found (followed_in guest number early).track next.at.related.shape_is is.can (subst (λ n. actor < n) (sym next.at.doings_each) there))

    keeps : is_done made.step ≡ false → (doing_of (followed_in guest number early).track actor).fetched ≡ true
        → (doing_of (fold follows (followed_in guest number early) (event_moments actor (stands_for guest.shape actor (seat_at (end_of_moments guest.shape (opening guest number) early) actor).local (seat_at (end_of_moments guest.shape (opening guest number) early) actor).own made.step made.found))).track actor).fetched ≡ true
    keeps undone before = of (stands_for guest.shape actor (seat_at (end_of_moments guest.shape (opening guest number) early) actor).local (seat_at (end_of_moments guest.shape (opening guest number) early) actor).own made.step made.found) refl sim
      where
        of : (o : Option Happened) → stands_for guest.shape actor (seat_at (end_of_moments guest.shape (opening guest number) early) actor).local (seat_at (end_of_moments guest.shape (opening guest number) early) actor).own made.step made.found ≡ o
            → IsSimulatedAs guest.shape (after_moment guest.shape (end_of_moments guest.shape (opening guest number) early) (record { actor = actor; act = makes made })) (followed_in guest number early).ideal actor o
            → (doing_of (fold follows (followed_in guest number early) (event_moments actor o)).track actor).fetched ≡ true
        of None e is = before
        of (Some one) e is = now_is one is ∙ still_fetched (followed_in guest number early).ideal actor one.event (doing_of (followed_in guest number early).track actor) (quiet (ends_turn one.event) refl) before
          where
            quiet : (b : Bool) → ends_turn one.event ≡ b → ends_turn one.event ≡ false
            quiet false h = h
            quiet true h = absurd (true≢false (sym (ending guest.shape actor (seat_at (end_of_moments guest.shape (opening guest number) early) actor).local (seat_at (end_of_moments guest.shape (opening guest number) early) actor).own made.step made.found one e h) ∙ undone))

    -- where the next command is, as the history has it
    same_places : command_places (followed_in guest number early).ideal.guest.shape (view_at (followed_in guest number early).ideal) ≡ places_at guest.shape (queue_at guest.shape (end_of_moments guest.shape (opening guest number) early))
    same_places =
        let base = (next.at.related.words (Plain (base_place guest.shape)) (base_there guest.shape)).stored (ne_eqb (base_place guest.shape) (fault_place guest.shape) (λ e. omega (arith, e))) in
        let word : word_at (followed_in guest number early).ideal.guest Cbaser ≡ word_in guest.shape (end_of_moments guest.shape (opening guest number) early) (Plain (base_place guest.shape)) = ap (word_at (followed_in guest number early).ideal.guest) (sym (base_is guest.shape)) ∙ base in
        ap (λ s. places_at s (queue_address (word_at (followed_in guest number early).ideal.guest Cbaser) + (followed_in guest number early).ideal.guest.offset)) next.at.related.shape_is
        ∙ ap (λ n. places_at guest.shape (queue_address n + (followed_in guest number early).ideal.guest.offset)) word
        ∙ ap (λ n. places_at guest.shape (queue_address (word_in guest.shape (end_of_moments guest.shape (opening guest number) early) (Plain (base_place guest.shape))) + n)) (next.at.related.words Queue refl).offset

    looks : (index : ℕ) → made.step ≡ RamLook index → IsTrue (list_any (is_memory_at index) (places_at guest.shape (queue_at guest.shape (end_of_moments guest.shape (opening guest number) early)))) → (seat_at (end_of_moments guest.shape (opening guest number) early) actor).local.turn ≡ true
        → (doing_of (fold follows (followed_in guest number early) (event_moments actor (stands_for guest.shape actor (seat_at (end_of_moments guest.shape (opening guest number) early) actor).local (seat_at (end_of_moments guest.shape (opening guest number) early) actor).own made.step made.found))).track actor).fetched ≡ true
    looks index is here turn =
        let inside = in_memory guest.shape (queue_at guest.shape (end_of_moments guest.shape (opening guest number) early)) index here in
        let one : Happened = record { event = Read (Word (Ram index)); found = FoundWord made.found } in
        let at : stands_for guest.shape actor (seat_at (end_of_moments guest.shape (opening guest number) early) actor).local (seat_at (end_of_moments guest.shape (opening guest number) early) actor).own made.step made.found ≡ Some one =
        ap (λ s. stands_for guest.shape actor (seat_at (end_of_moments guest.shape (opening guest number) early) actor).local (seat_at (end_of_moments guest.shape (opening guest number) early) actor).own s made.found) is
        ∙ ap (λ b. if b then None else Some (let h : Happened = record { event = Read (Word (plain_at guest.shape index)); found = FoundWord made.found } in h)) (ne_eqb index (fault_place guest.shape) (λ e. omega (arith, e, inside)))
        ∙ ap (λ word. Some (let h : Happened = record { event = Read (Word word); found = FoundWord made.found } in h)) (ram_is guest.shape index inside) in
        let its : is_number actor (followed_in guest number early).ideal.has_its ≡ true = ap (is_number actor) (next.at.related.words Queue refl).turn ∙ next.at.sound.ties actor Queue there refl ∙ turn in
        let read : is_fetch (followed_in guest number early).ideal actor (Read (Word (Ram index))) ≡ true =
        and_from (is_number actor (followed_in guest number early).ideal.has_its) (list_any (is_memory_at index) (command_places (followed_in guest number early).ideal.guest.shape (view_at (followed_in guest number early).ideal))) its
        (ap (list_any (is_memory_at index)) same_places ∙ here) in
        ap (λ o. (doing_of (fold follows (followed_in guest number early) (event_moments actor o)).track actor).fetched) at
        ∙ now_is one (subst (IsSimulatedAs guest.shape (after_moment guest.shape (end_of_moments guest.shape (opening guest number) early) (record { actor = actor; act = makes made })) (followed_in guest number early).ideal actor) at sim)
        ∙ or_late (doing_of (followed_in guest number early).track actor).fetched (is_fetch (followed_in guest number early).ideal actor (Read (Word (Ram index)))) read
      where
        or_late : (a b : Bool) → b ≡ true → (a || b) ≡ true
        or_late true b h = refl
        or_late false b h = h

    -- what it asks for
    asked : (key : Key) → made.step ≡ Want key → (operation : Operation) → (progress_in guest number early actor).operation ≡ Some operation → takes_commands guest.shape operation ≡ true → (doing_of (followed_in guest number early).track actor).fetched ≡ true
    asked key is operation op takes =
        let q = progress_in guest number early actor in
        let own = (seat_so guest number actor good early made next).own in
        let proper : IsTrue (option_map_or (λ operation. may_name guest.shape actor q.own operation key) q.operation false) = subst (λ s. IsTrue (keeps_want guest.shape actor q s)) is (proper_so guest number actor good early made next).want in
        let named : IsTrue (may_name guest.shape actor q.own operation key) = subst (λ o. IsTrue (option_map_or (λ operation. may_name guest.shape actor q.own operation key) o false)) op proper in
        let begun : IsTrue (has_begun guest.shape actor (seat_at (end_of_moments guest.shape (opening guest number) early) actor).own) =
        subst (λ own. IsTrue (has_begun guest.shape actor own)) own (subst (λ b. IsTrue (not b || has_begun guest.shape actor q.own)) takes (and_parts _ (not (takes_commands guest.shape operation) || has_begun guest.shape actor q.own) named).1) in
        let parts = and_parts (is_some (known guest.shape actor (since_turn (seat_at (end_of_moments guest.shape (opening guest number) early) actor).own) (Plain (base_place guest.shape)))) _ begun in
        of parts.0 (reading_of (seat_at (end_of_moments guest.shape (opening guest number) early) actor).own) refl parts.1
      where
        of : IsTrue (is_some (known guest.shape actor (since_turn (seat_at (end_of_moments guest.shape (opening guest number) early) actor).own) (Plain (base_place guest.shape)))) → (o : Option (List Made)) → reading_of (seat_at (end_of_moments guest.shape (opening guest number) early) actor).own ≡ o
            → IsTrue (option_map_or (λ read. list_any (λ made. is_look_at (command_places guest.shape (known_view guest.shape actor (seat_at (end_of_moments guest.shape (opening guest number) early) actor).own)) made.step) read) o false) → (doing_of (followed_in guest number early).track actor).fetched ≡ true
        of base None e h = absurd (true≢false (sym h))
        of base (Some read) e h =
            let own = (seat_at (end_of_moments guest.shape (opening guest number) early) actor).own in
            let before = kept.reads read e in
            let cbaser : known_word guest.shape actor (since_turn own) (Plain (base_place guest.shape)) ≡ word_in guest.shape (end_of_moments guest.shape (opening guest number) early) (Plain (base_place guest.shape)) =
            sym (before.cbaser (known_word guest.shape actor (since_turn own) (Plain (base_place guest.shape))) (known_is (known guest.shape actor (since_turn own) (Plain (base_place guest.shape))) base)) in
            let all = known_since guest.shape actor Queue own _ (known_is (known guest.shape actor (since_turn own) Queue) before.queue) in
            let queue : known_word guest.shape actor (since_turn own) Queue ≡ word_in guest.shape (end_of_moments guest.shape (opening guest number) early) Queue = ap (λ o. unwrap_or o 0) (sym all ∙ (next.at.known actor there before.turn).queue) in
            let from : queue_address (known_word guest.shape actor (since_turn own) (Plain (base_place guest.shape))) + (queue_of (known_word guest.shape actor (since_turn own) Queue)).offset ≡ queue_at guest.shape (end_of_moments guest.shape (opening guest number) early) =
            ap (λ n. queue_address n + (queue_of (known_word guest.shape actor (since_turn own) Queue)).offset) cbaser ∙ ap (λ n. queue_address (word_in guest.shape (end_of_moments guest.shape (opening guest number) early) (Plain (base_place guest.shape))) + (queue_of n).offset) queue in
            before.looked (subst (λ from. IsTrue (list_any (λ made. is_look_at (places_at guest.shape from) made.step) read)) from h)

    own_wants_next : ((progressed guest.shape actor (progress_in guest number early actor) (makes made)).wants ≡ [] → ⊥) → (operation : Operation) → (progressed guest.shape actor (progress_in guest number early actor) (makes made)).operation ≡ Some operation → takes_commands guest.shape operation ≡ true
        → (doing_of (fold follows (followed_in guest number early) (event_moments actor (stands_for guest.shape actor (seat_at (end_of_moments guest.shape (opening guest number) early) actor).local (seat_at (end_of_moments guest.shape (opening guest number) early) actor).own made.step made.found))).track actor).fetched ≡ true
    own_wants_next some operation is takes = by_step made.step refl (cases_Bool (is_want made.step))
      where
        same : (progress_in guest number early actor).operation ≡ Some operation
        same = sym (operation_on guest.shape actor made (progress_in guest number early actor)) ∙ is

        wants_nothing_next : is_want made.step ≡ false → (progress_in guest number early actor).wants ≡ [] → (progressed guest.shape actor (progress_in guest number early actor) (makes made)).wants ≡ []
        wants_nothing_next w none =
            let q = progress_in guest number early actor in
            wants_on guest.shape actor (with_made guest.shape actor made q (changed_by guest.shape actor made.step made.found (succeeds guest.shape actor q.local made.step made.found) q))
            ∙ wants_stay guest.shape actor made.step made.found (succeeds guest.shape actor q.local made.step made.found) q w none

        by_done : is_want made.step ≡ false → (b : Bool) → is_done made.step ≡ b → (doing_of (fold follows (followed_in guest number early) (event_moments actor (stands_for guest.shape actor (seat_at (end_of_moments guest.shape (opening guest number) early) actor).local (seat_at (end_of_moments guest.shape (opening guest number) early) actor).own made.step made.found))).track actor).fetched ≡ true
        by_done w false d = keeps d (kept.wants (λ none. some (wants_nothing_next w none)) operation same takes)
        by_done w true d = absurd (some (wants_nothing_next w (nothing made.step d (proper_so guest number actor good early made next).want)))
          where
            nothing : (s : CoreStep) → is_done s ≡ true → IsTrue (keeps_want guest.shape actor (progress_in guest number early actor) s) → (progress_in guest number early actor).wants ≡ []
            nothing (CommandDone offset stalled ending) d h = none_wanted (progress_in guest number early actor).wants h
            nothing s d h = absurd (true≢false (sym d))

        wanting : (s : CoreStep) → made.step ≡ s → is_want s ≡ true → (key : Key) × (made.step ≡ Want key)
        wanting (Want key) e w = (key, e)
        wanting s e w = absurd (cc)

        by_step : (s : CoreStep) → made.step ≡ s → (is_want made.step ≡ true) ⊎ (is_want made.step ≡ false) → (doing_of (fold follows (followed_in guest number early) (event_moments actor (stands_for guest.shape actor (seat_at (end_of_moments guest.shape (opening guest number) early) actor).local (seat_at (end_of_moments guest.shape (opening guest number) early) actor).own made.step made.found))).track actor).fetched ≡ true
        by_step s e (inr w) = by_done w (is_done made.step) refl
        by_step s e (inl w) = let want = wanting made.step refl w in keeps (ap is_done want.1) (asked want.0 want.1 operation same takes)

    own_made : IsKept (after_moment guest.shape (end_of_moments guest.shape (opening guest number) early) (record { actor = actor; act = makes made })) (fold follows (followed_in guest number early) (ideal_moments guest.shape (seat_at (end_of_moments guest.shape (opening guest number) early) actor) actor (makes made)))
        (progressed guest.shape actor (progress_in guest number early actor) (makes made))
    own_made = record {
      reads = own_reading guest.shape good.sound.shape (end_of_moments guest.shape (opening guest number) early) actor made next.at.sound next.acts.run.0 (doing_of (followed_in guest number early).track actor).fetched _ keeps looks kept.reads;
      wants = own_wants_next;
    }

  own_keeps : (early : List CoreMoment) (act : Act) → IsNextOf guest number early actor act → IsKept (end_of_moments guest.shape (opening guest number) early) (followed_in guest number early) (progress_in guest number early actor)
      → IsKept (after_moment guest.shape (end_of_moments guest.shape (opening guest number) early) (record { actor = actor; act = act })) (fold follows (followed_in guest number early) (ideal_moments guest.shape (seat_at (end_of_moments guest.shape (opening guest number) early) actor) actor act)) (progressed guest.shape actor (progress_in guest number early actor) act)
  own_keeps early (begins operation lrs) next kept =
      let fit = subst (λ (q : Progress). IsTrue (not (is_some q.operation) && has_registers guest.shape actor lrs)) (progress_is guest.shape early (opening_progress guest number) actor) next.acts.fit in
      let none = out_of (progress_in guest number early actor).operation (and_parts (not (is_some (progress_in guest number early actor).operation)) (has_registers guest.shape actor lrs) fit).0 in
      rested (end_of_moments guest.shape (opening guest number) early) (followed_in guest number early) (progress_in guest number early actor) false _ (progressed guest.shape actor (progress_in guest number early actor) (begins operation lrs))
      (next.at.rests actor there (ap (λ (q : Progress). q.operation) (progress_is guest.shape early (opening_progress guest number) actor) ∙ none)) ((own_wants guest number early next.before actor there).out none) kept
    where
      out_of : {X : Type 0} (o : Option X) → IsTrue (not (is_some o)) → o ≡ None
      out_of None h = refl
      out_of (Some x) h = absurd (true≢false (sym h))
  own_keeps early (ends answer) next kept =
      let end : IsProperEnd (progress_in guest number early actor) = subst IsProperEnd (progress_is guest.shape early (opening_progress guest number) actor) next.acts.proper in
      let seat = subst (λ q. IsSeatOf q (seat_at (end_of_moments guest.shape (opening guest number) early) actor)) (progress_is guest.shape early (opening_progress guest number) actor) (next.at.seats actor there) in
      rested (end_of_moments guest.shape (opening guest number) early) (followed_in guest number early) (progress_in guest number early actor) false _ (progressed guest.shape actor (progress_in guest number early actor) (ends answer))
      (subst (λ l. IsTrue (is_settled l)) seat.local end.settled) (none_wanted (progress_in guest number early actor).wants end.want) kept
  own_keeps early (makes made) next kept = own_made early made next kept

  one_more : (early : List CoreMoment) (other : ℕ) (act : Act) → IsNextOf guest number early other act → KeptAt early → KeptAt (early ++ record { actor = other; act = act } ∷ [])
  one_more early other act next kept late all =
      let moment : CoreMoment = record { actor = other; act = act } in
      let whole : IsWholeRun guest number (early ++ (moment ∷ late)) = subst (IsWholeRun guest number) (append_assoc early (moment ∷ []) late) all in
      let before = kept (moment ∷ late) whole in
      subst (λ s. IsKept s (followed_in guest number (early ++ record { actor = other; act = act } ∷ [])) (progress_in guest number (early ++ record { actor = other; act = act } ∷ []) actor)) (sym (end_more guest.shape (opening guest number) early moment))
      (subst (λ f. IsKept (after_moment guest.shape (end_of_moments guest.shape (opening guest number) early) (record { actor = other; act = act })) f (progress_in guest number (early ++ record { actor = other; act = act } ∷ []) actor)) (sym (followed_more guest number early moment))
      (elim (cases_eq other actor) [
        | inl same ↦
            subst (λ n. IsNextOf guest number early n act → IsKept (after_moment guest.shape (end_of_moments guest.shape (opening guest number) early) (record { actor = n; act = act })) (fold follows (followed_in guest number early) (ideal_moments guest.shape (seat_at (end_of_moments guest.shape (opening guest number) early) n) n act)) (progress_in guest number (early ++ record { actor = n; act = act } ∷ []) actor)) (sym same)
            (λ mine. subst (IsKept (after_moment guest.shape (end_of_moments guest.shape (opening guest number) early) (record { actor = actor; act = act })) (fold follows (followed_in guest number early) (ideal_moments guest.shape (seat_at (end_of_moments guest.shape (opening guest number) early) actor) actor act))) (sym (progress_more guest number early actor act)) (own_keeps early act mine before)) next
        | inr differ ↦
            subst (IsKept (after_moment guest.shape (end_of_moments guest.shape (opening guest number) early) (record { actor = other; act = act })) (fold follows (followed_in guest number early) (ideal_moments guest.shape (seat_at (end_of_moments guest.shape (opening guest number) early) other) other act))) (sym (progress_still guest number early other actor act (λ e. differ (sym e))))
            (other_keeps early other act next differ late whole before)
      ]))

  opens : KeptAt []
  opens late all = record {
    reads = λ read is. none_read read (sym (ap (λ (s : Seat). reading_of s.own) (seat_opens guest number actor there)) ∙ is);
    wants = λ some operation is takes. absurd (some refl);
  }
    where
      none_read : (read : List Made) → None ≡ Some read → IsReading guest.shape actor (end_of_moments guest.shape (opening guest number) []) (doing_of (followed_in guest number []).track actor).fetched read
      none_read read e = absurd (cc)

  -- who wants an interrupt has named it
  pub wants_named : (early late : List CoreMoment) → IsProperRun guest number early → IsWholeRun guest number (early ++ late) → (doing_of (followed_in guest number early).track actor).operation ≡ (progress_in guest number early actor).operation → (key : Key) → IsTrue (has_key key (progress_in guest number early actor).wants)
      → IsTrue (has_named guest.shape (doing_of (followed_in guest number early).track actor))
  wants_named early late proper all same key wants = of (doing_of (followed_in guest number early).track actor).operation refl
    where
      kept : IsKept (end_of_moments guest.shape (opening guest number) early) (followed_in guest number early) (progress_in guest number early actor)
      kept = runs_on guest number good KeptAt one_more opens early proper late all

      some : (progress_in guest number early actor).wants ≡ [] → ⊥
      some none = true≢false (sym wants ∙ ap (has_key key) none)

      of : (o : Option Operation) → (doing_of (followed_in guest number early).track actor).operation ≡ o → IsTrue (not (option_map_or (takes_commands guest.shape) (doing_of (followed_in guest number early).track actor).operation false) || (doing_of (followed_in guest number early).track actor).fetched)
      of None e = ap (λ o. not (option_map_or (takes_commands guest.shape) o false) || (doing_of (followed_in guest number early).track actor).fetched) e
      of (Some operation) e = ap (λ o. not (option_map_or (takes_commands guest.shape) o false) || (doing_of (followed_in guest number early).track actor).fetched) e ∙ by (takes_commands guest.shape operation) refl
        where
          by : (b : Bool) → takes_commands guest.shape operation ≡ b → (not b || (doing_of (followed_in guest number early).track actor).fetched) ≡ true
          by false t = refl
          by true t = kept.wants some operation (sym same ∙ e) t
