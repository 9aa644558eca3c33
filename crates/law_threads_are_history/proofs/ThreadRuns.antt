-- What actors do side by side: each part that ends is its call.
use Rattle.std.proofs.Common.{◌≡◌, ◌≢◌, ℕ, ◌<◌, ◌⊎◌, inl, inr, Bool, true, false, IsTrue, All, List, [], ◌∷◌, ◌++◌, Option, option_map, Some, None, is_none, slice_index_or, slice_set, refl, sym, ap, ◌∙◌, subst}
use Rattle.std.proofs.lemmas.Bool.{and_from, cases_eq, eq-eqb, eqb-true, ne_eqb}
use Rattle.std.proofs.lemmas.List.{append_assoc, get_or-set_other, get_or-set_same, length-map, length-replicate, length-set}
use Rattle.std.proofs.lemmas.List.Elements.{All-head, All-tail}
use Rattle.std.proofs.lemmas.List.Sums.{fold-append}
use Rattle.law_found_parts_are_calls.specs.Histories.{AreForNone}
use Rattle.law_ends_agree.specs.Words.{Lpi, GuestShape, has_interrupt, IsShape, is_number, target_in, irq_of}
use Rattle.law_ends_agree.specs.Calls.{Event, ItsBegin, Begin, Happens, Operation, Happened}
use Rattle.law_ends_agree.specs.GicCall.declared.event.Moment.TheVariants.{End}
use Rattle.law_ends_agree.specs.Histories.{irq_at, Ideal, happened, is_allowed, Call, Course, IsCallEnded, begun, call_of, course_of, gone_on, made as made_by, opening_course, seeing, targets_in, IdealGuest, CanOpen}
use Rattle.law_ends_agree.proofs.GicHistory.CallLemmas.{ended_as}
use Rattle.law_ends_agree.proofs.IdealGuests.KeyLemmas.{IsWhole}
use Rattle.law_found_parts_are_calls.proofs.LawHistories.CourseLemmas.{begun_here, begun_other, ended_other, made_here, made_other, mark_is}
use Rattle.law_ends_agree.specs.Registers.{IsValid}
use Rattle.law_ends_agree.specs.Core.{Entry, Made, Look, Irq as IrqWord, Queue, actor_count, is_on, place_of_word, CoreState, IsRun, IsSound, Seat, Takes, after, no_seat, opening, seat_at, word_in, CanStep, word_of, after_moment, end_of_moments, event_moments, ideal_moments, ideal_of, Act, CoreMoment, begins, ends, entries_of, entry_by, makes, own_acts, IsPartedRun}
use Rattle.law_ends_agree.proofs.PortCore.OpeningLemmas.{opens_sound}
use Rattle.law_ends_agree.proofs.PortCore.StepLemmas.{steps_sound}
use Rattle.law_found_parts_are_calls.specs.LawCoreIsHistory.Known.{IsKnown}
use Rattle.law_found_parts_are_calls.specs.LawCoreIsHistory.Laws.{AreCalls, IsCallAt, followed_by}
use Rattle.law_found_parts_are_calls.specs.LawCoreIsHistory.Related.{Related}
use Rattle.law_found_parts_are_calls.specs.LawCoreIsHistory.Simulates.{IsEventOf, IsSimulatedAs}
use Rattle.law_found_parts_are_calls.proofs.LawCoreIsHistory.HistorySteps.{IsAt, own_here, own_other}
use Rattle.law_found_parts_are_calls.proofs.LawCoreIsHistory.KnownSteps.{keeps_known}
use Rattle.law_found_parts_are_calls.proofs.LawCoreIsHistory.PrefixLemmas.{parted_before}
use Rattle.law_found_parts_are_calls.proofs.LawCoreIsHistory.RunSteps.{entry_simulates, known_opens, related_opens}
use Rattle.law_found_parts_are_calls.proofs.LawCoreIsHistory.MidwayRuns.{course_next}
use Rattle.law_found_parts_are_calls.proofs.CommandRuns.{whole_so}
use Rattle.law_found_parts_are_calls.proofs.LookRuns.{word_route}
use Rattle.law_found_parts_are_calls.proofs.PostCalls.{calls_both}
use Rattle.law_found_parts_are_calls.proofs.SteadyLemmas.{is_steady}
use Rattle.law_found_parts_are_calls.specs.PeMem.Found.{takes_its_by}
use Rattle.pe_place.specs.Parts.{IsCallFound, IsPartFound}
use Rattle.law_threads_are_history.proofs.EventTargets.{holder_kept}
use Rattle.law_threads_are_history.proofs.FreeParts.{FreeEnds, FreeSteps, IsFree, free_begins, free_ends, free_makes, free_seen, passes, stands}
use Rattle.law_threads_are_history.proofs.HeldParts.{HoldingSteps, ReleasedSteps, before_ends_none, holding_ends_none, holding_makes, released_ends, released_makes}
use Rattle.law_threads_are_history.proofs.ItsParts.{BeforeSteps, IsBefore, IsHolding, IsReleased, IsStepHere, before_makes, before_seen, holding_seen, its_begins, released_seen}
use Rattle.law_threads_are_history.proofs.PostParts.{IsPosting, posting_begins, posting_ends, posting_idle, posting_makes, posting_waits}
use Rattle.law_threads_are_history.proofs.ToldParts.{Begins, IsIdle, idle_begins, idle_ends_none, idle_makes_none, next_seat, partly_begins_none, told_by}
use Rattle.law_threads_are_history.proofs.TurnSteps.{TakesNone, TakesTurn, turn_cases}
use Rattle.law_threads_are_history.proofs.TurnPieces.{none_steady}
use Rattle.law_threads_are_history.proofs.WindowLemmas.{call_next}

-- Where an actor is: in no part, or in one, with a call that it began; where it holds the ITS, in one that took it to change it.

abbrev pub IsOpen : IdealGuest → ℕ → List CoreMoment → ℕ → Bool → Ideal → Seat → Call → List Act → Type 0
IsOpen guest number past actor true ideal now call acts = IsHolding guest actor ideal now call acts
IsOpen guest number past actor false ideal now call acts = IsFree guest actor ideal now call acts ⊎ (IsBefore guest actor ideal now call acts ⊎ (IsReleased guest actor now call acts ⊎ IsPosting guest number actor past now acts))

pub record IsWithin (guest : IdealGuest) (number : ℕ) (past : List CoreMoment) (actor : ℕ) (holds : Bool) (now : Seat) (ideal : Ideal) (o : Option Call) (acts : List Act) : Type 0 where
  pub call : Call
  pub call_is : o ≡ Some call
  pub is : IsOpen guest number past actor holds ideal now call acts

abbrev pub Stands : IdealGuest → ℕ → List CoreMoment → ℕ → Bool → Seat → Ideal → Option Call → List Act → Type 0
Stands guest number past actor true now ideal o acts = IsWithin guest number past actor true now ideal o acts
Stands guest number past actor false now ideal o acts = IsIdle guest actor now acts ⊎ IsWithin guest number past actor false now ideal o acts

-- another actor acts meanwhile
stands_on : (guest : IdealGuest) (number : ℕ) (past : List CoreMoment) (moment : CoreMoment) (actor : ℕ) (holds : Bool) (now : Seat) (ideal : Ideal) (o : Option Call) (acts : List Act) → actor ≢ moment.actor
    → Stands guest number past actor holds now ideal o acts → Stands guest number (past ++ moment ∷ []) actor holds now ideal o acts
stands_on guest number past moment actor true now ideal o acts differ is = record { call = is.call; call_is = is.call_is; is = is.is }
stands_on guest number past moment actor false now ideal o acts differ (inl idle) = inl idle
stands_on guest number past moment actor false now ideal o acts differ (inr is) = inr (record { call = is.call; call_is = is.call_is; is = of is.is })
  where
    of : IsOpen guest number past actor false ideal now is.call acts → IsOpen guest number (past ++ moment ∷ []) actor false ideal now is.call acts
    of (inl one) = inl one
    of (inr (inl one)) = inr (inl one)
    of (inr (inr (inl one))) = inr (inr (inl one))
    of (inr (inr (inr one))) = inr (inr (inr (posting_waits guest number actor past now acts moment differ one)))

-- a part of it begins
module _ (guest : IdealGuest) (number : ℕ) (past : List CoreMoment) (actor : ℕ) (now : Seat) (ideal : Ideal) (operation : Operation) (lrs : ℕ) (acts : List Act) where
  abbrev begun_past : List CoreMoment
  begun_past = past ++ (record { actor = actor; act = begins operation lrs }) ∷ []

  opens : now ≡ seat_at (end_of_moments guest.shape (opening guest number) past) actor → Begins guest actor now operation acts → IsOpen guest number begun_past actor false ideal now (begun ideal operation) acts
  opens here begin = of begin.told
    where
      called : IsCallFound (told_by guest actor begin.base now) begin.part → (b : Bool) → takes_its_by guest.shape begin.part.operation ≡ b → IsOpen guest number begun_past actor false ideal now (begun ideal operation) acts
      called told false e = inl (free_begins guest actor ideal now operation acts begin told e)
      called told true e = inr (inl (its_begins guest actor ideal now operation acts begin told e))

      of : IsPartFound (told_by guest actor begin.base now) begin.part → IsOpen guest number begun_past actor false ideal now (begun ideal operation) acts
      of (inl told) = called told (takes_its_by guest.shape begin.part.operation) refl
      of (inr post) = inr (inr (inr (posting_begins guest number actor past now operation lrs acts begin post here)))

  none_open : (holds : Bool) (call : Call) → IsOpen guest number past actor holds ideal now call (begins operation lrs ∷ acts) → ⊥
  none_open true call is = partly_begins_none guest actor now is.seat is.part operation lrs acts is.todo is.partly
  none_open false call (inl is) = partly_begins_none guest actor now is.seat is.part operation lrs acts is.todo is.partly
  none_open false call (inr (inl is)) = partly_begins_none guest actor now is.seat is.part operation lrs acts is.todo is.partly
  none_open false call (inr (inr (inl is))) = partly_begins_none guest actor now is.seat is.part operation lrs acts is.todo is.partly
  none_open false call (inr (inr (inr is))) = partly_begins_none guest actor now is.seat is.part operation lrs acts is.todo is.partly

  begins_mine : (holds : Bool) (o : Option Call) → now ≡ seat_at (end_of_moments guest.shape (opening guest number) past) actor → Stands guest number past actor holds now ideal o (begins operation lrs ∷ acts)
      → Stands guest number begun_past actor holds now ideal (Some (begun ideal operation)) acts
  begins_mine true o here is = absurd (none_open true is.call is.is)
  begins_mine false o here (inl idle) = inr (record { call = begun ideal operation; call_is = refl; is = opens here (idle_begins guest actor now operation lrs acts idle) })
  begins_mine false o here (inr is) = absurd (none_open false is.call is.is)

-- what is a call without a lone raise is one whatever was raised
any_signals : (signals : Bool) (shape : GuestShape) (actor : ℕ) (o : Option Call) (answer : Option ℕ) → IsCallEnded false shape actor o answer → IsCallEnded signals shape actor o answer
any_signals signals shape actor None answer is = absurd is
any_signals signals shape actor (Some call) answer is = ended_as signals shape actor call answer is

-- one ends, and is its call
record EndsCall (guest : IdealGuest) (number actor : ℕ) (signals holds : Bool) (now : Seat) (ideal : Ideal) (o : Option Call) (answer : Option ℕ) (acts : List Act) : Type 0 where
  ended : IsCallEnded signals guest.shape actor o answer
  stand : (later : List CoreMoment) (other : Option Call) → Stands guest number later actor holds now ideal other acts

module _ (guest : IdealGuest) (number : ℕ) (past : List CoreMoment) (actor : ℕ) (signals : Bool) (now : Seat) (ideal : Ideal) (answer : Option ℕ) (acts : List Act) (o : Option Call) (posted : IsPosting guest number actor past now (ends answer ∷ acts) → IsCallEnded signals guest.shape actor o answer) where
  ends_lone : (call : Call) → o ≡ Some call → FreeEnds guest actor now call answer acts → EndsCall guest number actor signals false now ideal o answer acts
  ends_lone call call_is over =
      record { ended = any_signals signals guest.shape actor o answer (subst (λ o. IsCallEnded false guest.shape actor o answer) (sym call_is) over.ended); stand = λ later other. inl over.idle }

  ends_open : (call : Call) → o ≡ Some call → IsOpen guest number past actor false ideal now call (ends answer ∷ acts) → EndsCall guest number actor signals false now ideal o answer acts
  ends_open call call_is (inl is) = ends_lone call call_is (free_ends guest actor ideal now call answer acts is)
  ends_open call call_is (inr (inl is)) = absurd (before_ends_none guest actor ideal now call answer acts is)
  ends_open call call_is (inr (inr (inl is))) = let over = released_ends guest actor now call answer acts is in ends_lone call call_is (record { ended = over.ended; idle = over.idle })
  ends_open call call_is (inr (inr (inr is))) = record { ended = posted is; stand = λ later other. inl (posting_idle guest number actor past now acts answer is) }

  ends_mine : (holds : Bool) → Stands guest number past actor holds now ideal o (ends answer ∷ acts) → EndsCall guest number actor signals holds now ideal o answer acts
  ends_mine true is = absurd (holding_ends_none guest actor ideal now is.call answer acts is.is)
  ends_mine false (inl idle) = absurd (idle_ends_none guest actor now answer acts idle)
  ends_mine false (inr is) = ends_open is.call is.call_is is.is

-- it makes a step

-- what that makes of a part while its actor does not hold the ITS: the step moves no LPI, or takes it
abbrev OpenSteps : ℕ → List CoreMoment → IdealGuest → ℕ → Ideal → Seat → Call → List Act → Option Happened → Type 0
OpenSteps number past guest actor ideal next call acts None = IsOpen guest number past actor false ideal next call acts
OpenSteps number past guest actor ideal next call acts (Some one) =
    (IsTrue (is_steady one.event) × IsOpen guest number past actor false (happened actor one.event ideal) next (call_next ideal (happened actor one.event ideal) one.event one.found call) acts)
    ⊎ ((one.event ≡ ItsBegin) × (AreForNone ideal.guest → IsHolding guest actor (happened actor one.event ideal) next (call_next ideal (happened actor one.event ideal) one.event one.found call) acts))

record MakesStep (guest : IdealGuest) (actor : ℕ) (ideal : Ideal) (next : Seat) (o : Option Call) (acts : List Act) (Steps : IdealGuest → ℕ → Ideal → Seat → Call → List Act → Option Happened → Type 0) (happens : Option Happened) : Type 0 where
  call : Call
  call_is : o ≡ Some call
  steps : Steps guest actor ideal next call acts happens

module _ (guest : IdealGuest) (number : ℕ) (past : List CoreMoment) (actor : ℕ) (now : Seat) (ideal : Ideal) (made : Made) (acts : List Act) (here : IsStepHere guest.shape actor now ideal made)
    (finds : (id : ℕ) → made.step ≡ Look (IrqWord (Lpi id)) → targets_in ideal id ≡ target_in (irq_of made.found).route guest.shape) where
  abbrev then : Seat
  then = next_seat guest.shape actor now made

  abbrev step_past : List CoreMoment
  step_past = past ++ (record { actor = actor; act = makes made }) ∷ []

  open_makes : (call : Call) → IsOpen guest number past actor false ideal now call (makes made ∷ acts) → OpenSteps number step_past guest actor ideal then call acts (stands guest.shape actor now made)
  open_makes call (inl is) = of (stands guest.shape actor now made) (free_makes guest actor ideal now call made acts is here.turn finds)
    where
      of : (o : Option Happened) → FreeSteps guest actor ideal (next_seat guest.shape actor now made) call acts o → OpenSteps number step_past guest actor ideal (next_seat guest.shape actor now made) call acts o
      of None steps = inl steps
      of (Some one) steps = inl (steps.0, inl steps.1)
  open_makes call (inr (inl is)) = of (stands guest.shape actor now made) (before_makes guest actor ideal now call made acts is here)
    where
      of : (o : Option Happened) → BeforeSteps guest actor ideal (next_seat guest.shape actor now made) call acts o → OpenSteps number step_past guest actor ideal (next_seat guest.shape actor now made) call acts o
      of None steps = inr (inl steps)
      of (Some one) (inl steps) = inl (steps.0, inr (inl steps.1))
      of (Some one) (inr steps) = inr steps
  open_makes call (inr (inr (inl is))) = of (stands guest.shape actor now made) (released_makes guest actor ideal now call made acts is)
    where
      of : (o : Option Happened) → ReleasedSteps guest actor ideal (next_seat guest.shape actor now made) call acts o → OpenSteps number step_past guest actor ideal (next_seat guest.shape actor now made) call acts o
      of None steps = inr (inr (inl steps))
      of (Some one) steps = inl (steps.0, inr (inr (inl steps.1)))
  open_makes call (inr (inr (inr is))) = let made_one = posting_makes guest number actor past now acts made is in of (stands guest.shape actor now made) made_one.0 made_one.1
    where
      of : (o : Option Happened) → IsTrue (passes is_steady o) → IsPosting guest number actor step_past (next_seat guest.shape actor now made) acts → OpenSteps number step_past guest actor ideal (next_seat guest.shape actor now made) call acts o
      of None steady is = inr (inr (inr is))
      of (Some one) steady is = inl (steady, inr (inr (inr is)))

  free_mine : (o : Option Call) → Stands guest number past actor false now ideal o (makes made ∷ acts) → MakesStep guest actor ideal then o acts (OpenSteps number step_past) (stands guest.shape actor now made)
  free_mine o (inl idle) = absurd (idle_makes_none guest actor now made acts idle)
  free_mine o (inr is) = record { call = is.call; call_is = is.call_is; steps = open_makes is.call is.is }

  held_mine : (o : Option Call) → Stands guest number past actor true now ideal o (makes made ∷ acts) → MakesStep guest actor ideal then o acts HoldingSteps (stands guest.shape actor now made)
  held_mine o is = record { call = is.call; call_is = is.call_is; steps = holding_makes guest actor ideal now is.call made acts is.is here }

-- another actor makes an event: where this one holds the ITS, one that moves no LPI
module _ (guest : IdealGuest) (number : ℕ) (past : List CoreMoment) (actor other : ℕ) (now : Seat) (before : Ideal) (event : Event) (acts : List Act) (differ : actor ≢ other) (allowed : IsTrue (is_allowed before other event)) where
  abbrev after_other : Ideal
  after_other = happened other event before

  seen_open : (call : Call) → IsOpen guest number past actor false before now call acts → IsOpen guest number past actor false after_other now (seeing after_other call) acts
  seen_open call (inl is) = inl (free_seen guest actor before after_other now call acts is)
  seen_open call (inr (inl is)) = inr (inl (before_seen guest actor before after_other now call acts is))
  seen_open call (inr (inr (inl is))) = inr (inr (inl (released_seen guest actor after_other now call acts is)))
  seen_open call (inr (inr (inr is))) = inr (inr (inr is))

  seen_other : (holds : Bool) (o : Option Call) → (holds ≡ true → IsTrue (is_steady event)) → Stands guest number past actor holds now before o acts → Stands guest number past actor holds now after_other (option_map (seeing after_other) o) acts
  seen_other true o steady is = record {
    call = seeing after_other is.call;
    call_is = ap (option_map (seeing after_other)) is.call_is;
    is = holding_seen guest actor other before event now is.call acts (steady refl) (holder_kept other actor event before differ allowed is.is.holds) is.is;
  }
  seen_other false o steady (inl idle) = inl idle
  seen_other false o steady (inr is) = inr (record { call = seeing after_other is.call; call_is = ap (option_map (seeing after_other)) is.call_is; is = seen_open is.call is.is })

-- Moment by moment.

-- what is so of a step in a run
module _ (shape : GuestShape) (good : IsShape shape) (actor : ℕ) (state : CoreState) (ideal : Ideal) (made : Made) (there : actor < actor_count shape) (sound : IsSound shape state) (related : Related shape state ideal) (takes : Takes shape state (entry_by actor made))
    (sound_next : IsSound shape (after shape state (entry_by actor made))) (simulated : IsSimulatedAs shape (after shape state (entry_by actor made)) ideal actor (stands shape actor (seat_at state actor) made)) where
  abbrev next_ideal : Ideal
  next_ideal = followed_by actor (stands shape actor (seat_at state actor) made) ideal

  related_next : Related shape (after shape state (entry_by actor made)) next_ideal
  related_next = of (stands shape actor (seat_at state actor) made) simulated
    where
      of : (o : Option Happened) → IsSimulatedAs shape (after shape state (entry_by actor made)) ideal actor o → Related shape (after shape state (entry_by actor made)) (followed_by actor o ideal)
      of None is = is
      of (Some one) is = is.related

  found_target : (id : ℕ) → IsTrue (has_interrupt shape (Lpi id)) → made.found ≡ word_in shape state (IrqWord (Lpi id)) → targets_in ideal id ≡ target_in (irq_of made.found).route shape
  found_target id has found =
      ap (λ s. target_in (irq_at ideal.guest (Lpi id)).route s) related.shape_is
      ∙ ap (λ r. target_in r shape) (sym (word_route shape state ideal id sound related has) ∙ ap (λ n. (irq_of n).route) (sym found))

  pub look_finds : (id : ℕ) → made.step ≡ Look (IrqWord (Lpi id)) → targets_in ideal id ≡ target_in (irq_of made.found).route shape
  look_finds id is = found_target id (subst (CanStep shape actor) is takes.can) (takes.found ∙ ap (λ step. word_in shape state (word_of shape actor step)) is)

  word_off : (id : ℕ) → is_on shape actor (IrqWord (Lpi id)) made ≡ false → word_in shape (after shape state (entry_by actor made)) (IrqWord (Lpi id)) ≡ word_in shape state (IrqWord (Lpi id))
  word_off id off =
      get_or-set_other state.words (place_of_word shape (word_of shape actor made.step)) (place_of_word shape (IrqWord (Lpi id))) made.left 0
      (λ same. absurd (let no = sym (eq-eqb (place_of_word shape (word_of shape actor made.step)) (place_of_word shape (IrqWord (Lpi id))) (sym same)) ∙ off in cc))

  keeps_off : (id : ℕ) → IsTrue (has_interrupt shape (Lpi id)) → is_on shape actor (IrqWord (Lpi id)) made ≡ false → targets_in next_ideal id ≡ targets_in ideal id
  keeps_off id has off =
      ap (λ s. target_in (irq_at next_ideal.guest (Lpi id)).route s) related_next.shape_is
      ∙ ap (λ r. target_in r shape)
      (sym (word_route shape (after shape state (entry_by actor made)) next_ideal id sound_next related_next has) ∙ ap (λ n. (irq_of n).route) (word_off id off) ∙ word_route shape state ideal id sound related has)
      ∙ sym (ap (λ s. target_in (irq_at ideal.guest (Lpi id)).route s) related.shape_is)

  has_turn : ideal.has_its ≡ Some actor → (seat_at state actor).local.turn ≡ true
  has_turn holds = sym (sound.ties actor Queue there refl) ∙ ap (is_number actor) (sym (related.words Queue refl).turn ∙ holds) ∙ eq-eqb actor actor refl

  pub step_here : IsStepHere shape actor (seat_at state actor) ideal made
  step_here = record {
    finds = λ id has on. found_target id has (takes.found ∙ ap (λ place. slice_index_or state.words place 0) (eqb-true (place_of_word shape (word_of shape actor made.step)) (place_of_word shape (IrqWord (Lpi id))) on));
    keeps = keeps_off;
    known = λ holds. related.maps ∙ sym (sound.known actor there (has_turn holds));
    valid_now = subst (IsValid shape) (sym related.maps) sound.maps;
    valid = subst (IsValid shape) (sym related_next.maps) sound_next.maps;
    whole = whole_so shape good state ideal related;
    turn = subst (λ maps. TakesTurn maps made.tables (stands shape actor (seat_at state actor) made) ⊎ TakesNone made.tables (stands shape actor (seat_at state actor) made)) (sym related.maps) (turn_cases shape actor state made takes);
  }

number_other : (actor n : ℕ) (o : Option ℕ) → o ≡ Some actor → n ≢ actor → is_number n o ≡ false
number_other actor n o is differ = ap (is_number n) is ∙ ne_eqb actor n (λ e. differ (sym e))

-- these moments came before, each of whose parts was its call
record IsPast (guest : IdealGuest) (number : ℕ) (past : List CoreMoment) (state : CoreState) (course : Course) (moments : List CoreMoment) : Type 0 where
  state_is : state ≡ end_of_moments guest.shape (opening guest number) past
  course_is : course ≡ course_of (opening_course guest) (ideal_of guest.shape (opening guest number) past)
  calls : AreCalls guest.shape (opening guest number) (opening_course guest) past
  parted : IsPartedRun guest number (past ++ moments)

-- and one more
past_next : (guest : IdealGuest) (number : ℕ) (past : List CoreMoment) (state : CoreState) (course : Course) (moment : CoreMoment) (moments : List CoreMoment) → IsPast guest number past state course (moment ∷ moments) → IsCallAt guest.shape course moment.actor moment.act
    → IsPast guest number (past ++ moment ∷ []) (after_moment guest.shape state moment) (course_of course (ideal_moments guest.shape (seat_at state moment.actor) moment.actor moment.act)) moments
past_next guest number past state course moment moments is call =
    let shape = guest.shape in
    let start = opening guest number in
    let so_far = course_of (opening_course guest) (ideal_of shape start past) in
    record {
      state_is = ap (λ s. after_moment shape s moment) is.state_is ∙ sym (fold-append (after_moment shape) start past (moment ∷ []));
      course_is =
          ap (λ c. course_of c (ideal_moments shape (seat_at state moment.actor) moment.actor moment.act)) is.course_is
          ∙ ap (λ s. course_of so_far (ideal_moments shape (seat_at s moment.actor) moment.actor moment.act)) is.state_is
          ∙ sym (course_next guest number past moment);
      calls = calls_both shape start (opening_course guest) past (moment ∷ []) is.calls (subst (λ c. IsCallAt shape c moment.actor moment.act) is.course_is call, tt);
      parted = subst (IsPartedRun guest number) (sym (append_assoc past (moment ∷ []) moments)) is.parted;
    }

module _ (guest : IdealGuest) (number : ℕ) (can : CanOpen guest) where
  good : IsShape guest.shape
  good = can.sound.shape

  abbrev shape : GuestShape
  shape = guest.shape

  -- where all actors are, one of which may hold the ITS
  abbrev AllStand : List CoreMoment → Option ℕ → CoreState → Course → List CoreMoment → Type 0
  AllStand past holder state course moments = (n : ℕ) → n < actor_count guest.shape → Stands guest number past n (is_number n holder) (seat_at state n) course.ideal (call_of course n) (own_acts n moments)

  -- where none does, LPIs that the maps give no vCPU are for none
  abbrev IsCalm : Option ℕ → Ideal → Type 0
  IsCalm None ideal = AreForNone ideal.guest
  IsCalm (Some actor) ideal = actor < actor_count guest.shape

  calm_held : (holder : Option ℕ) (actor : ℕ) (before later : Ideal) → holder ≡ Some actor → IsCalm holder before → IsCalm holder later
  calm_held None actor before later is calm = absurd (cc)
  calm_held (Some h) actor before later is calm = calm

  calm_steady : (holder : Option ℕ) (actor : ℕ) (event : Event) (ideal : Ideal) → IsTrue (is_steady event) → IsWhole ideal.guest → IsCalm holder ideal → IsCalm holder (happened actor event ideal)
  calm_steady None actor event ideal steady whole calm = none_steady actor (event ∷ []) ideal (and_from (is_steady event) true steady refl) whole calm
  calm_steady (Some h) actor event ideal steady whole calm = calm

  abbrev Later : List CoreMoment → Type 0
  Later moments =
      (past : List CoreMoment) (holder : Option ℕ) (state : CoreState) (course : Course) → IsPast guest number past state course moments → IsAt guest.shape state course → IsRun guest.shape state (entries_of moments) → IsCalm holder course.ideal
      → AllStand past holder state course moments → AreCalls guest.shape state course moments

  module _ (past : List CoreMoment) (holder : Option ℕ) (state : CoreState) (course : Course) (actor : ℕ) (at : IsAt guest.shape state course) (there : actor < actor_count guest.shape) (calm : IsCalm holder course.ideal) (moments : List CoreMoment) (later : Later moments) where
    abbrev then_past : Act → List CoreMoment
    then_past act = past ++ (record { actor = actor; act = act }) ∷ []

    mine_before : (act : Act) → AllStand past holder state course (record { actor = actor; act = act } ∷ moments) → Stands guest number past actor (is_number actor holder) (seat_at state actor) course.ideal (call_of course actor) (act ∷ own_acts actor moments)
    mine_before act all = subst (Stands guest number past actor (is_number actor holder) (seat_at state actor) course.ideal (call_of course actor)) (own_here actor act moments) (all actor there)

    other_before : (act : Act) (n : ℕ) → n < actor_count guest.shape → n ≢ actor → AllStand past holder state course (record { actor = actor; act = act } ∷ moments)
        → Stands guest number (then_past act) n (is_number n holder) (seat_at state n) course.ideal (call_of course n) (own_acts n moments)
    other_before act n among differ all =
        stands_on guest number past (record { actor = actor; act = act }) n (is_number n holder) (seat_at state n) course.ideal (call_of course n) (own_acts n moments) differ
        (subst (Stands guest number past n (is_number n holder) (seat_at state n) course.ideal (call_of course n)) (own_other actor n act moments differ) (all n among))

    -- from the actor and the others
    all_from : (later_past : List CoreMoment) (holds : Option ℕ) (next : CoreState) (after_all : Course) → Stands guest number later_past actor (is_number actor holds) (seat_at next actor) after_all.ideal (call_of after_all actor) (own_acts actor moments)
        → ((n : ℕ) → n < actor_count guest.shape → n ≢ actor → Stands guest number later_past n (is_number n holds) (seat_at next n) after_all.ideal (call_of after_all n) (own_acts n moments)) → AllStand later_past holds next after_all moments
    all_from later_past holds next after_all mine others n among = elim (cases_eq n actor) [
      | inl e ↦ subst (λ n. Stands guest number later_past n (is_number n holds) (seat_at next n) after_all.ideal (call_of after_all n) (own_acts n moments)) (sym e) mine
      | inr differ ↦ others n among differ
    ]

    begins_step : (operation : Operation) (lrs : ℕ) → IsPast guest number past state course (record { actor = actor; act = begins operation lrs } ∷ moments) → IsRun guest.shape state (entries_of moments) → AllStand past holder state course (record { actor = actor; act = begins operation lrs } ∷ moments)
        → AreCalls guest.shape state (gone_on course (Begin actor operation)) moments
    begins_step operation lrs before run all =
        let act = begins operation lrs in
        let next = gone_on course (Begin actor operation) in
        later (then_past act) holder state next (past_next guest number past state course (record { actor = actor; act = act }) moments before tt) (record { sound = at.sound; related = at.related; known = at.known; each = length-set course.calls actor _ ∙ at.each }) run calm
        (all_from (then_past act) holder state next
        (subst (λ o. Stands guest number (then_past act) actor (is_number actor holder) (seat_at state actor) course.ideal o (own_acts actor moments)) (sym (begun_here course actor operation (subst (λ n. actor < n) (sym at.each) there)))
        (begins_mine guest number past actor (seat_at state actor) course.ideal operation lrs (own_acts actor moments) (is_number actor holder) (call_of course actor) (ap (λ s. seat_at s actor) before.state_is) (mine_before act all)))
        (λ n among differ.
        subst (λ o. Stands guest number (then_past act) n (is_number n holder) (seat_at state n) course.ideal o (own_acts n moments)) (sym (begun_other course actor operation n differ)) (other_before act n among differ all)))

    ends_step : (answer : Option ℕ) → IsPast guest number past state course (record { actor = actor; act = ends answer } ∷ moments) → IsRun guest.shape state (entries_of moments) → AllStand past holder state course (record { actor = actor; act = ends answer } ∷ moments)
        → IsCallEnded (course.signals actor) guest.shape actor (call_of course actor) answer × AreCalls guest.shape state (gone_on course (End actor answer)) moments
    ends_step answer before run all =
        let act = ends answer in
        let over = ends_mine guest number past actor (course.signals actor) (seat_at state actor) course.ideal answer (own_acts actor moments) (call_of course actor) posted (is_number actor holder) (mine_before act all) in
        let next = gone_on course (End actor answer) in (
          over.ended,
          later (then_past act) holder state next (past_next guest number past state course (record { actor = actor; act = act }) moments before over.ended)
              (record { sound = at.sound; related = at.related; known = at.known; each = length-set course.calls actor _ ∙ at.each }) run calm
              (all_from (then_past act) holder state next (over.stand (then_past act) (call_of next actor))
              (λ n among differ.
              subst (λ o. Stands guest number (then_past act) n (is_number n holder) (seat_at state n) course.ideal o (own_acts n moments)) (sym (ended_other course actor answer n differ)) (other_before act n among differ all))),
        )
      where
        posted : IsPosting guest number actor past (seat_at state actor) (ends answer ∷ own_acts actor moments) → IsCallAt guest.shape course actor (ends answer)
        posted is =
            subst (λ c. IsCallAt guest.shape c actor (ends answer)) (sym before.course_is)
            (posting_ends guest number actor past (seat_at state actor) (own_acts actor moments) answer is can (parted_before guest number past (record { actor = actor; act = ends answer } ∷ moments) before.parted) before.calls there)

    module _ (made : Made) (takes : Takes guest.shape state (entry_by actor made)) (before : IsPast guest number past state course (record { actor = actor; act = makes made } ∷ moments)) (run : IsRun guest.shape (after guest.shape state (entry_by actor made)) (entries_of moments)) (all : AllStand past holder state course (record { actor = actor; act = makes made } ∷ moments)) where
      abbrev entry : Entry
      entry = entry_by actor made

      abbrev next : CoreState
      next = after guest.shape state (entry_by actor made)

      abbrev now : Seat
      now = seat_at state actor

      abbrev seat : Seat
      seat = next_seat guest.shape actor (seat_at state actor) made

      abbrev ideal : Ideal
      ideal = course.ideal

      abbrev past_then : List CoreMoment
      past_then = then_past (makes made)

      abbrev happens : Option Happened
      happens = stands guest.shape actor (seat_at state actor) made

      seat_is : seat_at next actor ≡ seat
      seat_is = get_or-set_same state.seats actor (next_seat guest.shape actor (seat_at state actor) made) no_seat (subst (λ n. actor < n) (sym at.sound.actors) there)

      seat_other : (n : ℕ) → n ≢ actor → seat_at next n ≡ seat_at state n
      seat_other n differ = get_or-set_other state.seats actor n (next_seat guest.shape actor (seat_at state actor) made) no_seat differ

      sound : IsSound guest.shape next
      sound = steps_sound guest.shape state entry good at.sound takes

      known : IsKnown guest.shape next
      known = keeps_known guest.shape state entry good at.sound takes sound at.known

      simulated : IsSimulatedAs guest.shape next ideal actor happens
      simulated = entry_simulates guest.shape state ideal entry good at.sound at.related at.known takes

      here : IsStepHere guest.shape actor now ideal made
      here = step_here guest.shape good actor state ideal made there at.sound at.related takes sound simulated

      finds : (id : ℕ) → made.step ≡ Look (IrqWord (Lpi id)) → targets_in ideal id ≡ target_in (irq_of made.found).route guest.shape
      finds = look_finds guest.shape good actor state ideal made there at.sound at.related takes sound simulated

      -- a step that stands for nothing
      goes_none : (call : Call) → call_of course actor ≡ Some call → IsPast guest number past_then next course moments → Related guest.shape next ideal → IsOpen guest number past_then actor (is_number actor holder) ideal seat call (own_acts actor moments) → AreCalls guest.shape next course moments
      goes_none call call_is now_past related is =
          later past_then holder next course now_past (record { sound = sound; related = related; known = known; each = at.each }) run calm
          (all_from past_then holder next course (subst (λ s. Stands guest number past_then actor (is_number actor holder) s ideal (call_of course actor) (own_acts actor moments)) (sym seat_is) (stand (is_number actor holder) is))
          (λ n among differ.
          subst (λ s. Stands guest number past_then n (is_number n holder) s ideal (call_of course n) (own_acts n moments)) (sym (seat_other n differ)) (other_before (makes made) n among differ all)))
        where
          stand : (b : Bool) → IsOpen guest number past_then actor b course.ideal (next_seat guest.shape actor (seat_at state actor) made) call (own_acts actor moments)
              → Stands guest number past_then actor b (next_seat guest.shape actor (seat_at state actor) made) course.ideal (call_of course actor) (own_acts actor moments)
          stand true is = record { call = call; call_is = call_is; is = is }
          stand false is = inr (record { call = call; call_is = call_is; is = is })

      -- and one that stands for an event
      module _ (one : Happened) (is : IsEventOf guest.shape next ideal actor one) (call : Call) (call_is : call_of course actor ≡ Some call) (now_past : IsPast guest number past_then next (gone_on course (Happens actor one.event one.found)) moments) where
        abbrev happening : Course
        happening = gone_on course (Happens actor one.event one.found)

        abbrev call_after : Call
        call_after = call_next ideal (happened actor one.event ideal) one.event one.found call

        goes_on : (holds : Option ℕ) → IsCalm holds happening.ideal → IsOpen guest number past_then actor (is_number actor holds) happening.ideal seat call_after (own_acts actor moments)
            → ((n : ℕ) → n ≢ actor → is_number n holds ≡ is_number n holder) → ((n : ℕ) → n ≢ actor → is_number n holder ≡ true → IsTrue (is_steady one.event)) → AreCalls guest.shape next happening moments
        goes_on holds calm_next mine same steady =
            let mine_call = option_map (made_by ideal one.event one.found) (call_of course actor) in
            later past_then holds next happening now_past
            (record {
              sound = sound;
              related = is.related;
              known = known;
              each = length-map (slice_set course.calls actor mine_call) (option_map (seeing (happened actor one.event ideal))) ∙ length-set course.calls actor mine_call ∙ at.each;
            }) run calm_next
            (all_from past_then holds next happening (subst (λ s. Stands guest number past_then actor (is_number actor holds) s happening.ideal (call_of happening actor) (own_acts actor moments)) (sym seat_is) (stand (is_number actor holds) mine))
            (λ n among differ.
            subst (λ s. Stands guest number past_then n (is_number n holds) s happening.ideal (call_of happening n) (own_acts n moments)) (sym (seat_other n differ))
            (subst (λ b. Stands guest number past_then n b (seat_at state n) happening.ideal (call_of happening n) (own_acts n moments)) (sym (same n differ))
            (subst (λ o. Stands guest number past_then n (is_number n holder) (seat_at state n) happening.ideal o (own_acts n moments)) (sym (made_other course actor one.event one.found n differ))
            (seen_other guest number past_then n actor (seat_at state n) ideal one.event (own_acts n moments) differ is.allowed (is_number n holder) (call_of course n) (steady n differ) (other_before (makes made) n among differ all))))))
          where
            stand : (b : Bool) → IsOpen guest number past_then actor b (happened actor one.event course.ideal) (next_seat guest.shape actor (seat_at state actor) made) (call_next course.ideal (happened actor one.event course.ideal) one.event one.found call) (own_acts actor moments)
                → Stands guest number past_then actor b (next_seat guest.shape actor (seat_at state actor) made) (happened actor one.event course.ideal) (call_of (gone_on course (Happens actor one.event one.found)) actor) (own_acts actor moments)
            stand true mine = record { call = call_after; call_is = made_here course actor one.event one.found call call_is; is = mine }
            stand false mine = inr (record { call = call_after; call_is = made_here course actor one.event one.found call call_is; is = mine })

        -- where nobody holds the ITS, or another actor does, and this step does not take it
        goes_steady : is_number actor holder ≡ false → IsTrue (is_steady one.event) → IsOpen guest number past_then actor false happening.ideal seat call_after (own_acts actor moments) → AreCalls guest.shape next happening moments
        goes_steady none steady mine =
            goes_on holder (calm_steady holder actor one.event ideal steady here.whole calm) (subst (λ b. IsOpen guest number past_then actor b happening.ideal seat call_after (own_acts actor moments)) (sym none) mine) (λ n differ. refl) (λ n differ e. steady)

        -- it takes it
        goes_taking : one.event ≡ ItsBegin → (AreForNone ideal.guest → IsHolding guest actor happening.ideal seat call_after (own_acts actor moments)) → AreCalls guest.shape next happening moments
        goes_taking begin mine = of holder refl calm
          where
            of : (h : Option ℕ) → holder ≡ h → IsCalm h course.ideal → AreCalls guest.shape next (gone_on course (Happens actor one.event one.found)) moments
            of None e none =
                goes_on (Some actor) there (subst (λ b. IsOpen guest number past_then actor b happening.ideal seat call_after (own_acts actor moments)) (sym (eq-eqb actor actor refl)) (mine none))
                (λ n differ. ne_eqb actor n (λ e. differ (sym e)) ∙ sym (ap (is_number n) e)) (λ n differ h. absurd (let no = sym h ∙ ap (is_number n) e in cc))
            of (Some h) e among =
                let stand = subst (λ b. Stands guest number past h b (seat_at state h) ideal (call_of course h) (own_acts h (record { actor = actor; act = makes made } ∷ moments))) (ap (is_number h) e ∙ eq-eqb h h refl) (all h among) in
                absurd (let no = sym (subst (λ event. IsTrue (is_allowed ideal actor event)) begin is.allowed) ∙ ap is_none stand.is.holds in cc)

        -- this one holds it
        goes_held : holder ≡ Some actor → (IsHolding guest actor happening.ideal seat call_after (own_acts actor moments) ⊎ ((AreForNone happening.ideal.guest) × IsReleased guest actor seat call_after (own_acts actor moments))) → AreCalls guest.shape next happening moments
        goes_held held (inl mine) =
            goes_on holder (calm_held holder actor ideal happening.ideal held calm) (subst (λ b. IsOpen guest number past_then actor b happening.ideal seat call_after (own_acts actor moments)) (sym (ap (is_number actor) held ∙ eq-eqb actor actor refl)) mine) (λ n differ. refl)
            (λ n differ e. absurd (let no = sym e ∙ number_other actor n holder held differ in cc))
        goes_held held (inr over) =
            goes_on None over.0 (inr (inr (inl over.1))) (λ n differ. sym (number_other actor n holder held differ)) (λ n differ e. absurd (let no = sym e ∙ number_other actor n holder held differ in cc))

      free_step : is_number actor holder ≡ false → MakesStep guest actor ideal seat (call_of course actor) (own_acts actor moments) (OpenSteps number past_then) happens → AreCalls guest.shape next (course_of course (event_moments actor happens)) moments
      free_step none mine = of happens simulated (past_next guest number past state course (record { actor = actor; act = makes made }) moments before tt) mine.steps
        where
          of : (o : Option Happened) → IsSimulatedAs guest.shape (after guest.shape state (entry_by actor made)) course.ideal actor o → IsPast guest number past_then (after guest.shape state (entry_by actor made)) (course_of course (event_moments actor o)) moments
              → OpenSteps number past_then guest actor course.ideal (next_seat guest.shape actor (seat_at state actor) made) mine.call (own_acts actor moments) o → AreCalls guest.shape (after guest.shape state (entry_by actor made)) (course_of course (event_moments actor o)) moments
          of None related now_past steps = goes_none mine.call mine.call_is now_past related (subst (λ b. IsOpen guest number past_then actor b ideal seat mine.call (own_acts actor moments)) (sym none) steps)
          of (Some one) is now_past (inl steps) = goes_steady one is mine.call mine.call_is now_past none steps.0 steps.1
          of (Some one) is now_past (inr steps) = goes_taking one is mine.call mine.call_is now_past steps.0 steps.1

      held_step : is_number actor holder ≡ true → MakesStep guest actor ideal seat (call_of course actor) (own_acts actor moments) HoldingSteps happens → AreCalls guest.shape next (course_of course (event_moments actor happens)) moments
      held_step held mine = of happens simulated (past_next guest number past state course (record { actor = actor; act = makes made }) moments before tt) mine.steps
        where
          of : (o : Option Happened) → IsSimulatedAs guest.shape (after guest.shape state (entry_by actor made)) course.ideal actor o → IsPast guest number past_then (after guest.shape state (entry_by actor made)) (course_of course (event_moments actor o)) moments
              → HoldingSteps guest actor course.ideal (next_seat guest.shape actor (seat_at state actor) made) mine.call (own_acts actor moments) o → AreCalls guest.shape (after guest.shape state (entry_by actor made)) (course_of course (event_moments actor o)) moments
          of None related now_past steps = goes_none mine.call mine.call_is now_past related (subst (λ b. IsOpen guest number past_then actor b ideal seat mine.call (own_acts actor moments)) (sym held) steps)
          of (Some one) is now_past steps = goes_held one is mine.call mine.call_is now_past (mark_is actor holder held) steps

      makes_step : AreCalls guest.shape next (course_of course (event_moments actor happens)) moments
      makes_step = of (is_number actor holder) refl (mine_before (makes made) all)
        where
          of : (b : Bool) → is_number actor holder ≡ b → Stands guest number past actor b (seat_at state actor) course.ideal (call_of course actor) (makes made ∷ own_acts actor moments)
              → AreCalls guest.shape (after guest.shape state (entry_by actor made)) (course_of course (event_moments actor (stands guest.shape actor (seat_at state actor) made))) moments
          of false e mine = free_step e (free_mine guest number past actor now ideal made (own_acts actor moments) here finds (call_of course actor) mine)
          of true e mine = held_step e (held_mine guest number past actor now ideal made (own_acts actor moments) here finds (call_of course actor) mine)

    one_moment : (act : Act) → IsPast guest number past state course (record { actor = actor; act = act } ∷ moments) → IsRun guest.shape state (entries_of (record { actor = actor; act = act } ∷ moments)) → AllStand past holder state course (record { actor = actor; act = act } ∷ moments)
        → AreCalls guest.shape state course (record { actor = actor; act = act } ∷ moments)
    one_moment (begins operation lrs) before run all = (tt, begins_step operation lrs before run all)
    one_moment (makes made) before run all = (tt, makes_step made run.0 before run.1 all)
    one_moment (ends answer) before run all = ends_step answer before run all

  calls_from : (moments past : List CoreMoment) (holder : Option ℕ) (state : CoreState) (course : Course) → IsPast guest number past state course moments → All (λ (moment : CoreMoment). moment.actor < actor_count guest.shape) moments → IsAt guest.shape state course
      → IsRun guest.shape state (entries_of moments) → IsCalm holder course.ideal → AllStand past holder state course moments → AreCalls guest.shape state course moments
  calls_from [] past holder state course before actors at run calm all = tt
  calls_from (moment ∷ moments) past holder state course before actors at run calm all =
      one_moment past holder state course moment.actor at (All-head (λ (moment : CoreMoment). moment.actor < actor_count guest.shape) moment moments actors) calm moments
      (λ later_past holds next after_all before_next at_next run_next calm_next stand.
      calls_from moments later_past holds next after_all before_next (All-tail (λ (moment : CoreMoment). moment.actor < actor_count guest.shape) moment moments actors) at_next run_next calm_next stand) moment.act before run all

-- From where a guest opens.

pub opens_at : (guest : IdealGuest) (number : ℕ) → CanOpen guest → IsAt guest.shape (opening guest number) (opening_course guest)
opens_at guest number good = record { sound = opens_sound guest number good; related = related_opens guest number good; known = known_opens guest number good; each = length-replicate (actor_count guest.shape) None }

pub calls_open :
    (guest : IdealGuest) (number : ℕ) (moments : List CoreMoment) → CanOpen guest → IsPartedRun guest number moments → ((n : ℕ) → n < actor_count guest.shape → IsIdle guest n (seat_at (opening guest number) n) (own_acts n moments))
    → AreCalls guest.shape (opening guest number) (opening_course guest) moments
calls_open guest number moments good parted idle =
    calls_from guest number good moments [] None (opening guest number) (opening_course guest) (record { state_is = refl; course_is = refl; calls = tt; parted = parted }) parted.actors (opens_at guest number good) parted.run good.none (λ n among. inl (idle n among))
