-- A part that does not take the ITS to change it, while other actors act beside it.
use Rattle.std.proofs.Common.{◌≡◌, ℕ, ◌⊎◌, inl, inr, Bool, true, false, cond, IsTrue, Contains, List, [], ◌∷◌, ◌++◌, Option, Some, None, refl, sym, ap, ◌∙◌, subst, slice_index_or}
use Rattle.std.specs.List.{cons_option, filter_map, list_all}
use Rattle.std.specs.Option.{option_map_or, option_to_list}
use Rattle.std.proofs.lemmas.Bool.{and_parts}
use Rattle.std.proofs.lemmas.List.{append-nil, append_assoc}
use Rattle.law_ends_agree.specs.Words.{Lpi, GuestShape, target_in, irq_of}
use Rattle.law_ends_agree.specs.Calls.{Event, ItsBegin, Operation, Beside, Happened, IsCall}
use Rattle.law_ends_agree.specs.GicCall.declared.event.Found.TheVariants.{Nothing}
use Rattle.law_ends_agree.specs.Histories.{Ideal, happened, Call, IsEnded, begun, is_passed, seeing, targets_in, vcpu_of, IdealGuest}
use Rattle.law_found_parts_are_calls.proofs.LawHistories.CourseLemmas.{noted_piece}
use Rattle.law_ends_agree.specs.Registers.{Maps}
use Rattle.law_runs_are_fresh.proofs.LawEagerIsHistory.WindowLemmas.{is_no_turn}
use Rattle.law_runs_are_fresh.proofs.LawLoneCallsAreEager.RunLemmas.{events_of as lone_events}
use Rattle.law_ends_agree.specs.Core.{Made, Look, Irq, succeeds, no_maps, Seen, events_of, local_by, Seat, stands_for, maps_taken, Act, ends, makes}
use Rattle.law_found_parts_are_calls.specs.PeMem.Found.{Agrees, Finding, IsFinding, by_commands, by_looks, is_by_commands, takes_its_by}
use Rattle.law_found_parts_are_calls.specs.PeMem.Looked.{all_events, comes_after, comes_before}
use Rattle.law_found_parts_are_calls.proofs.SteadyLemmas.{is_steady}
use Rattle.pe_place.specs.Parts.{IsCallFound, Part}
use Rattle.law_threads_are_history.proofs.BesideLemmas.{call_again, is_message}
use Rattle.law_threads_are_history.proofs.CallLemmas.{call_once, call_steady, take_once}
use Rattle.law_threads_are_history.proofs.ToldParts.{Begins, Ends, IsIdle, IsPartly, Makes, next_seat, partly_ends, partly_makes, told_by}
use Rattle.law_threads_are_history.proofs.TurnSteps.{TakesNone, TakesTurn, no_turn}
use Rattle.law_threads_are_history.proofs.WindowLemmas.{IsWindowed, after_kept, before_kept, call_next, next_maps, next_operation, seen_in, windowed_begun, windowed_made, windowed_seen}

-- what a step of an actor stands for, and some
abbrev pub stands : GuestShape → ℕ → Seat → Made → Option Happened
stands shape actor seat made = stands_for shape actor seat.local seat.own made.step made.found

abbrev pub events_from : GuestShape → ℕ → Seat → List Made → List Happened
events_from shape actor seat steps = events_of shape actor seat.local seat.own steps

abbrev pub passes : (Event → Bool) → Option Happened → Bool
passes test o = option_map_or (λ (one : Happened). test one.event) o true

-- Events of steps, one after the other.

all_more : (test : Event → Bool) (o : Option Happened) (later : List Happened) → IsTrue (all_events test (option_to_list o ++ later)) → IsTrue (passes test o) × IsTrue (all_events test later)
all_more test None later h = (refl, h)
all_more test (Some one) later h = and_parts (test one.event) (all_events test later) h

-- an LPI is looked at in its place among some steps, and found to be for this vCPU, or for none
pub record IsLook (shape : GuestShape) (actor id : ℕ) (t : Option ℕ) (seat : Seat) (made : Made) (later : List Made) : Type 0 where
  pub step_is : made.step ≡ Look (Irq (Lpi id))
  pub target_is : t ≡ target_in (irq_of made.found).route shape
  pub after : IsTrue (all_events (comes_after id) (events_from shape actor (next_seat shape actor seat made) later))

abbrev pub Comes : GuestShape → ℕ → ℕ → Option ℕ → Seat → List Made → Type 0
Comes shape actor id t seat [] = ⊥
Comes shape actor id t seat (made ∷ steps) =
    IsLook shape actor id t seat made steps ⊎ (IsTrue (passes (comes_before id) (stands shape actor seat made)) × Comes shape actor id t (next_seat shape actor seat made) steps)

comes_by :
    (shape : GuestShape) (actor id : ℕ) (t : Option ℕ) (look : Made) (late early : List Made) (seat : Seat) → look.step ≡ Look (Irq (Lpi id)) → t ≡ target_in (irq_of look.found).route shape
    → IsTrue (all_events (comes_before id) (events_from shape actor seat early)) → IsTrue (all_events (comes_after id) (events_of shape actor (local_by shape actor seat.local (early ++ look ∷ [])) (seat.own ++ (early ++ look ∷ [])) late))
    → Comes shape actor id t seat (early ++ look ∷ late)
comes_by shape actor id t look late [] seat step target before after = inl (record { step_is = step; target_is = target; after = after })
comes_by shape actor id t look late (made ∷ early) seat step target before after =
    let parts = all_more (comes_before id) (stands shape actor seat made) (events_from shape actor (next_seat shape actor seat made) early) before in
    inr (
      parts.0,
      comes_by shape actor id t look late early (next_seat shape actor seat made) step target parts.1
          (subst (λ own. IsTrue (all_events (comes_after id) (events_of shape actor (local_by shape actor (next_seat shape actor seat made).local (early ++ look ∷ [])) own late))) (sym (append_assoc seat.own (made ∷ []) (early ++ look ∷ []))) after),
    )

-- What a part goes by.

pub record IsGoing (shape : GuestShape) (actor : ℕ) (seat : Seat) (part : Part) : Type 0 where
  pub targets : ℕ → Option ℕ
  pub goes_by : ℕ → Bool
  pub comes : (id : ℕ) → goes_by id ≡ true → Comes shape actor id (targets id) seat part.steps
  pub call :
      (maps : Maps) (t : ℕ → Option ℕ) (commands : List (ℕ → Option ℕ)) → (is_message part.operation ≡ true → maps ≡ maps_taken part.steps) → ((id : ℕ) → goes_by id ≡ true → t id ≡ targets id)
      → IsCall shape (record { maps = maps; targets = t; commands = commands; signals = false }) (vcpu_of shape actor) part.operation (events_from shape actor seat part.steps) part.answer
  pub steady : IsTrue (list_all is_steady (lone_events (events_from shape actor seat part.steps)))
  pub once : is_message part.operation ≡ true → IsTrue (take_once (lone_events (events_from shape actor seat part.steps)))

pub going_of : (guest : IdealGuest) (actor : ℕ) (base : Seen) (seat : Seat) (part : Part) → takes_its_by guest.shape part.operation ≡ false → IsCallFound (told_by guest actor base seat) part → IsGoing guest.shape actor seat part
going_of guest actor base seat part free told = of told.found.finding (told.found.kind ∙ free) told.found.is_finding told.found.call
  where
    beside : Beside
    beside = told.made.beside

    is_call : IsCall guest.shape told.made.beside (vcpu_of guest.shape actor) part.operation (events_from guest.shape actor seat part.steps) part.answer
    is_call = told.made.call

    steady_so : IsTrue (list_all is_steady (lone_events (events_from guest.shape actor seat part.steps)))
    steady_so = call_steady guest.shape beside (vcpu_of guest.shape actor) part.operation (events_from guest.shape actor seat part.steps) part.answer free is_call

    once_so : is_message part.operation ≡ true → IsTrue (take_once (lone_events (events_from guest.shape actor seat part.steps)))
    once_so message = call_once guest.shape beside (vcpu_of guest.shape actor) part.operation (events_from guest.shape actor seat part.steps) part.answer message is_call

    of : (finding : Finding) → is_by_commands finding ≡ false → IsFinding (told_by guest actor base seat) part.steps finding
        → ((other : Beside) → other.maps ≡ maps_taken part.steps → Agrees finding other → IsCall guest.shape other (vcpu_of guest.shape actor) part.operation (events_from guest.shape actor seat part.steps) part.answer) → IsGoing guest.shape actor seat part
    of (by_looks goes_by targets) kind looked call = record {
      targets = targets;
      goes_by = goes_by;
      comes = λ id goes.
          let is = looked id goes in
          subst (Comes guest.shape actor id (targets id) seat) (sym is.split)
          (comes_by guest.shape actor id (targets id) is.look is.late is.early seat is.step_is is.target_is is.before is.after);
      call = λ maps t commands message agree.
          call_again guest.shape (maps_taken part.steps) maps t commands (vcpu_of guest.shape actor) part.operation (events_from guest.shape actor seat part.steps) part.answer free message
          (call (record { maps = maps_taken part.steps; targets = t; commands = commands; signals = false }) refl agree);
      steady = steady_so;
      once = once_so;
    }
    of (by_commands commands) kind took call = absurd (cc)

-- The part as it goes on.

-- an LPI is still to be looked at, and the call has not passed it; or it was looked at, and what was found is in its window
pub record IsToLook (shape : GuestShape) (actor id : ℕ) (t : Option ℕ) (now : Seat) (todo : List Made) (call : Call) : Type 0 where
  pub comes : Comes shape actor id t now todo
  pub unpassed : is_passed call.place id ≡ false

pub record HasLooked (shape : GuestShape) (actor id : ℕ) (t : Option ℕ) (events : List Happened) (call : Call) : Type 0 where
  pub after : IsTrue (all_events (comes_after id) events)
  pub there : Contains (call.targets id) t

abbrev pub IsPlacing : GuestShape → ℕ → ℕ → Option ℕ → Seat → List Made → Call → Type 0
IsPlacing shape actor id t now todo call = IsToLook shape actor id t now todo call ⊎ HasLooked shape actor id t (events_from shape actor now todo) call

-- the maps that a message takes: it did not take the ITS yet, or it did, and will not again
abbrev pub tables_in : List Made → List Maps
tables_in steps = filter_map (λ (made : Made). made.tables) steps

pub record IsUntaken (part : Part) (tables : List Maps) (events : List Event) (call : Call) : Type 0 where
  pub all : tables_in part.steps ≡ tables
  pub none : call.maps ≡ no_maps
  pub once : IsTrue (take_once events)

pub record IsTaken (part : Part) (tables : List Maps) (events : List Event) (call : Call) : Type 0 where
  pub all : tables_in part.steps ≡ call.maps ∷ tables
  pub once : IsTrue (list_all is_no_turn events)

abbrev pub IsTakingOnce : Part → List Maps → List Event → Call → Type 0
IsTakingOnce part tables events call = IsUntaken part tables events call ⊎ IsTaken part tables events call

-- an actor is in such a part
pub record IsFree (guest : IdealGuest) (actor : ℕ) (ideal : Ideal) (now : Seat) (call : Call) (acts : List Act) : Type 0 where
  pub seat : Seat
  pub part : Part
  pub todo : List Made
  pub partly : IsPartly guest actor now acts seat part todo
  pub going : IsGoing guest.shape actor seat part
  pub operation : call.operation ≡ part.operation
  pub piece : events_from guest.shape actor seat part.steps ≡ call.piece ++ events_from guest.shape actor now todo
  pub maps : is_message part.operation ≡ true → IsTakingOnce part (tables_in todo) (lone_events (events_from guest.shape actor now todo)) call
  pub steady : IsTrue (list_all is_steady (lone_events (events_from guest.shape actor now todo)))
  pub windowed : IsWindowed ideal call
  pub placing : (id : ℕ) → going.goes_by id ≡ true → IsPlacing guest.shape actor id (going.targets id) now todo call

-- it begins
pub free_begins : (guest : IdealGuest) (actor : ℕ) (ideal : Ideal) (now : Seat) (operation : Operation) (acts : List Act) (begins : Begins guest actor now operation acts) → IsCallFound (told_by guest actor begins.base now) begins.part → takes_its_by guest.shape begins.part.operation ≡ false → IsFree guest actor ideal now (begun ideal operation) acts
free_begins guest actor ideal now operation acts begins told free =
    let part = begins.part in
    let going = going_of guest actor begins.base now part free told in
    record {
      seat = now;
      part = part;
      todo = part.steps;
      partly = begins.partly;
      going = going;
      operation = sym begins.operation_is;
      piece = refl;
      maps = λ message. inl (record { all = refl; none = refl; once = going.once message });
      steady = going.steady;
      windowed = windowed_begun ideal operation;
      placing = λ id goes. inl (record { comes = going.comes id goes; unpassed = refl });
    }

-- another actor makes an event
pub free_seen : (guest : IdealGuest) (actor : ℕ) (before after : Ideal) (now : Seat) (call : Call) (acts : List Act) → IsFree guest actor before now call acts → IsFree guest actor after now (seeing after call) acts
free_seen guest actor before after now call acts is =
    record {
      seat = is.seat;
      part = is.part;
      todo = is.todo;
      partly = is.partly;
      going = is.going;
      operation = is.operation;
      piece = is.piece;
      maps = λ message. maps_so (is.maps message);
      steady = is.steady;
      windowed = windowed_seen before after call is.windowed;
      placing = λ id goes. placing_so id (is.placing id goes);
    }
  where
    maps_so : IsTakingOnce is.part (tables_in is.todo) (lone_events (events_from guest.shape actor now is.todo)) call → IsTakingOnce is.part (tables_in is.todo) (lone_events (events_from guest.shape actor now is.todo)) (seeing after call)
    maps_so (inl none) = inl (record { all = none.all; none = none.none; once = none.once })
    maps_so (inr taken) = inr (record { all = taken.all; once = taken.once })

    placing_so : (id : ℕ) → IsPlacing guest.shape actor id (is.going.targets id) now is.todo call → IsPlacing guest.shape actor id (is.going.targets id) now is.todo (seeing after call)
    placing_so id (inl later) = inl (record { comes = later.comes; unpassed = later.unpassed })
    placing_so id (inr found) = inr (record { after = found.after; there = seen_in after call id (is.going.targets id) found.there })

-- it makes a step

-- what a step makes of it
abbrev pub FreeSteps : IdealGuest → ℕ → Ideal → Seat → Call → List Act → Option Happened → Type 0
FreeSteps guest actor ideal next call acts None = IsFree guest actor ideal next call acts
FreeSteps guest actor ideal next call acts (Some one) =
    IsTrue (is_steady one.event) × IsFree guest actor (happened actor one.event ideal) next (call_next ideal (happened actor one.event ideal) one.event one.found call) acts

look_quiet : (shape : GuestShape) (actor id : ℕ) (seat : Seat) (made : Made) → made.step ≡ Look (Irq (Lpi id)) → stands shape actor seat made ≡ None
look_quiet shape actor id seat made is = ap (λ step. stands_for shape actor seat.local seat.own step made.found) is ∙ of (succeeds shape actor seat.local (Look (Irq (Lpi id))) made.found)
  where
    none : Option Happened
    none = None

    of : (b : Bool) → cond b none none ≡ none
    of true = refl
    of false = refl

module _ (guest : IdealGuest) (actor : ℕ) (ideal : Ideal) (now : Seat) (call : Call) (made : Made) (acts : List Act) (is : IsFree guest actor ideal now call (makes made ∷ acts))
    (turn : TakesTurn ideal.guest.tables made.tables (stands guest.shape actor now made) ⊎ TakesNone made.tables (stands guest.shape actor now made))
    (finds : (id : ℕ) → made.step ≡ Look (Irq (Lpi id)) → targets_in ideal id ≡ target_in (irq_of made.found).route guest.shape) where
  abbrev shape : GuestShape
  shape = guest.shape

  abbrev next : Seat
  next = next_seat guest.shape actor now made

  goes : Makes guest actor now is.seat is.part made acts is.todo
  goes = partly_makes guest actor now is.seat is.part made acts is.todo is.partly

  abbrev more : List Made
  more = goes.more

  abbrev later : List Happened
  later = events_from guest.shape actor (next_seat guest.shape actor now made) goes.more

  -- the same of the steps to come
  piece_so : events_from guest.shape actor is.seat is.part.steps ≡ call.piece ++ (option_to_list (stands guest.shape actor now made) ++ later)
  piece_so = subst (λ todo. events_from guest.shape actor is.seat is.part.steps ≡ call.piece ++ events_from guest.shape actor now todo) goes.todo_is is.piece

  steady_so : IsTrue (list_all is_steady (lone_events (option_to_list (stands guest.shape actor now made) ++ later)))
  steady_so = subst (λ todo. IsTrue (list_all is_steady (lone_events (events_from guest.shape actor now todo)))) goes.todo_is is.steady

  maps_so : is_message is.part.operation ≡ true → IsTakingOnce is.part (cons_option made.tables (tables_in more)) (lone_events (option_to_list (stands guest.shape actor now made) ++ later)) call
  maps_so message = subst (λ todo. IsTakingOnce is.part (tables_in todo) (lone_events (events_from guest.shape actor now todo)) call) goes.todo_is (is.maps message)

  placing_so : (id : ℕ) → is.going.goes_by id ≡ true → IsPlacing guest.shape actor id (is.going.targets id) now (made ∷ more) call
  placing_so id by = subst (λ todo. IsPlacing guest.shape actor id (is.going.targets id) now todo call) goes.todo_is (is.placing id by)

  -- a look at an LPI that the call has not passed finds what is in its window
  looked : (id : ℕ) (t : Option ℕ) → is_passed call.place id ≡ false → IsLook guest.shape actor id t now made more → HasLooked guest.shape actor id t later call
  looked id t unpassed look = record { after = look.after; there = subst (Contains (call.targets id)) (finds id look.step_is ∙ sym look.target_is) (is.windowed.now id unpassed) }

  -- a step that stands for nothing
  module _ (quiet : stands guest.shape actor now made ≡ None) where
    maps_none : IsTakingOnce is.part (cons_option made.tables (tables_in more)) (lone_events (option_to_list (stands guest.shape actor now made) ++ later)) call → TakesTurn ideal.guest.tables made.tables (stands guest.shape actor now made) ⊎ TakesNone made.tables (stands guest.shape actor now made)
        → IsTakingOnce is.part (tables_in more) (lone_events later) call
    maps_none taking (inl taken) = absurd (let e = sym quiet ∙ taken.event in cc)
    maps_none (inl untaken) (inr idle) = inl (record {
      all = untaken.all ∙ ap (λ t. cons_option t (tables_in more)) idle.none;
      none = untaken.none;
      once = subst (λ o. IsTrue (take_once (lone_events (option_to_list o ++ later)))) quiet untaken.once;
    })
    maps_none (inr taken) (inr idle) = inr (record {
      all = taken.all ∙ ap (λ t. call.maps ∷ cons_option t (tables_in more)) idle.none;
      once = subst (λ o. IsTrue (list_all is_no_turn (lone_events (option_to_list o ++ later)))) quiet taken.once;
    })

    placing_none : (id : ℕ) (t : Option ℕ) → IsPlacing guest.shape actor id t now (made ∷ more) call → IsPlacing guest.shape actor id t next more call
    placing_none id t (inl later_on) = of later_on.comes
      where
        of : Comes guest.shape actor id t now (made ∷ goes.more) → IsPlacing guest.shape actor id t (next_seat guest.shape actor now made) goes.more call
        of (inl look) = inr (looked id t later_on.unpassed look)
        of (inr comes) = inl (record { comes = comes.1; unpassed = later_on.unpassed })
    placing_none id t (inr found) = inr (record { after = subst (λ o. IsTrue (all_events (comes_after id) (option_to_list o ++ later))) quiet found.after; there = found.there })

    steps_none : IsFree guest actor ideal next call acts
    steps_none = record {
      seat = is.seat;
      part = is.part;
      todo = more;
      partly = goes.partly;
      going = is.going;
      operation = is.operation;
      piece = piece_so ∙ ap (λ o. call.piece ++ (option_to_list o ++ later)) quiet;
      maps = λ message. maps_none (maps_so message) turn;
      steady = subst (λ o. IsTrue (list_all is_steady (lone_events (option_to_list o ++ later)))) quiet steady_so;
      windowed = is.windowed;
      placing = λ id by. placing_none id (is.going.targets id) (placing_so id by);
    }

  -- and one that stands for an event
  module _ (one : Happened) (stands_is : stands guest.shape actor now made ≡ Some one) where
    abbrev after : Ideal
    after = happened actor one.event ideal

    abbrev call_after : Call
    call_after = call_next ideal (happened actor one.event ideal) one.event one.found call

    steady_both : IsTrue (is_steady one.event) × IsTrue (list_all is_steady (lone_events later))
    steady_both = and_parts (is_steady one.event) (list_all is_steady (lone_events later)) (subst (λ o. IsTrue (list_all is_steady (lone_events (option_to_list o ++ later)))) stands_is steady_so)

    maps_one : IsTakingOnce is.part (cons_option made.tables (tables_in more)) (lone_events (option_to_list (stands guest.shape actor now made) ++ later)) call → TakesTurn ideal.guest.tables made.tables (stands guest.shape actor now made) ⊎ TakesNone made.tables (stands guest.shape actor now made)
        → IsTakingOnce is.part (tables_in more) (lone_events later) call_after
    maps_one (inl untaken) (inl taken) = inr (record {
      all = untaken.all ∙ ap (λ t. cons_option t (tables_in more)) taken.handed ∙ ap (λ m. m ∷ tables_in more) (sym (taken_maps (sym stands_is ∙ taken.event)));
      once = subst (λ o. IsTrue (take_once (lone_events (option_to_list o ++ later)))) taken.event untaken.once;
    })
      where
        event_is : (x y : Happened) → Some x ≡ Some y → x ≡ y
        event_is x y e = cc

        taken_maps : Some one ≡ Some (record { event = ItsBegin; found = Nothing }) → (call_next ideal (happened actor one.event ideal) one.event one.found call).maps ≡ ideal.guest.tables
        taken_maps e = ap (λ (h : Happened). (call_next ideal (happened actor h.event ideal) h.event h.found call).maps) (event_is one (record { event = ItsBegin; found = Nothing }) e)
    maps_one (inr before) (inl taken) = absurd (let no = subst (λ o. IsTrue (list_all is_no_turn (lone_events (option_to_list o ++ later)))) taken.event before.once in cc)
    maps_one (inl untaken) (inr idle) =
        let quiet : is_no_turn one.event ≡ true = subst (λ o. IsTrue (no_turn o)) stands_is idle.event in
        inl (record {
          all = untaken.all ∙ ap (λ t. cons_option t (tables_in more)) idle.none;
          none = next_maps ideal after one.event one.found call quiet ∙ untaken.none;
          once = ap (λ b. cond b (take_once (lone_events later)) (list_all is_no_turn (lone_events later))) (sym quiet) ∙ subst (λ o. IsTrue (take_once (lone_events (option_to_list o ++ later)))) stands_is untaken.once;
        })
    maps_one (inr taken) (inr idle) =
        let quiet : is_no_turn one.event ≡ true = subst (λ o. IsTrue (no_turn o)) stands_is idle.event in
        inr (record {
          all = taken.all ∙ ap (λ t. call.maps ∷ cons_option t (tables_in more)) idle.none ∙ ap (λ m. m ∷ tables_in more) (sym (next_maps ideal after one.event one.found call quiet));
          once = (and_parts (is_no_turn one.event) (list_all is_no_turn (lone_events later)) (subst (λ o. IsTrue (list_all is_no_turn (lone_events (option_to_list o ++ later)))) stands_is taken.once)).1;
        })

    placing_one : (id : ℕ) (t : Option ℕ) → IsPlacing guest.shape actor id t now (made ∷ more) call → IsPlacing guest.shape actor id t next more call_after
    placing_one id t (inl later_on) = of later_on.comes
      where
        of : Comes guest.shape actor id t now (made ∷ goes.more) → IsPlacing guest.shape actor id t (next_seat guest.shape actor now made) goes.more (call_next ideal (happened actor one.event ideal) one.event one.found call)
        of (inl look) = absurd (let e = sym stands_is ∙ look_quiet guest.shape actor id now made look.step_is in cc)
        of (inr comes) = inl (record {
          comes = comes.1;
          unpassed = before_kept ideal after one.event one.found call id (subst (λ o. IsTrue (passes (comes_before id) o)) stands_is comes.0) later_on.unpassed;
        })
    placing_one id t (inr found) =
        let parts = all_more (comes_after id) (Some one) later (subst (λ o. IsTrue (all_events (comes_after id) (option_to_list o ++ later))) stands_is found.after) in
        inr (record { after = parts.1; there = after_kept ideal after one.event one.found call id t steady_both.0 parts.0 found.there })

    steps_one : IsFree guest actor after next call_after acts
    steps_one = record {
      seat = is.seat;
      part = is.part;
      todo = more;
      partly = goes.partly;
      going = is.going;
      operation = next_operation ideal after one.event one.found call ∙ is.operation;
      piece =
          piece_so ∙ ap (λ o. call.piece ++ (option_to_list o ++ later)) stands_is ∙ sym (append_assoc call.piece (one ∷ []) later)
          ∙ ap (λ p. (p ++ one ∷ []) ++ later) (sym (noted_piece ideal one.event call));
      maps = λ message. maps_one (maps_so message) turn;
      steady = steady_both.1;
      windowed = windowed_made ideal after one.event one.found call steady_both.0 is.windowed;
      placing = λ id by. placing_one id (is.going.targets id) (placing_so id by);
    }

  pub free_makes : FreeSteps guest actor ideal next call acts (stands guest.shape actor now made)
  free_makes = of (stands guest.shape actor now made) refl
    where
      of : (o : Option Happened) → stands guest.shape actor now made ≡ o → FreeSteps guest actor ideal (next_seat guest.shape actor now made) call acts o
      of None e = steps_none e
      of (Some one) e = ((steady_both one e).0, steps_one one e)

-- It ends.

pub record FreeEnds (guest : IdealGuest) (actor : ℕ) (now : Seat) (call : Call) (answer : Option ℕ) (acts : List Act) : Type 0 where
  pub ended : IsEnded guest.shape actor call answer
  pub idle : IsIdle guest actor now acts

module _ (guest : IdealGuest) (actor : ℕ) (ideal : Ideal) (now : Seat) (call : Call) (answer : Option ℕ) (acts : List Act) (is : IsFree guest actor ideal now call (ends answer ∷ acts)) where
  over : Ends guest actor now is.seat is.part answer acts is.todo
  over = partly_ends guest actor now is.seat is.part answer acts is.todo is.partly

  -- a moment of each LPI: what it went by, where it did
  target_of : Bool → ℕ → Option ℕ
  target_of true id = is.going.targets id
  target_of false id = (is.windowed.some id).0

  chosen : ℕ → Option ℕ
  chosen id = target_of (is.going.goes_by id) id

  chosen_so : (id : ℕ) → is.going.goes_by id ≡ true → chosen id ≡ is.going.targets id
  unfolding target_of chosen
  chosen_so id by = ap (λ b. target_of b id) by

  found_there : (id : ℕ) → is.going.goes_by id ≡ true → Contains (call.targets id) (is.going.targets id)
  found_there id by = of (subst (λ todo. IsPlacing guest.shape actor id (is.going.targets id) now todo call) over.todo_is (is.placing id by))
    where
      of : IsPlacing guest.shape actor id (is.going.targets id) now [] call → Contains (call.targets id) (is.going.targets id)
      of (inl later) = absurd later.comes
      of (inr found) = found.there

  chosen_there : (id : ℕ) → Contains (call.targets id) (chosen id)
  unfolding target_of chosen
  chosen_there id = of (is.going.goes_by id) refl
    where
      of : (b : Bool) → is.going.goes_by id ≡ b → Contains (call.targets id) (target_of b id)
      of true e = found_there id e
      of false e = (is.windowed.some id).1

  maps_are : is_message is.part.operation ≡ true → call.maps ≡ maps_taken is.part.steps
  maps_are message = of (subst (λ todo. IsTakingOnce is.part (tables_in todo) (lone_events (events_from guest.shape actor now todo)) call) over.todo_is (is.maps message))
    where
      of : IsTakingOnce is.part [] [] call → call.maps ≡ maps_taken is.part.steps
      of (inl untaken) = untaken.none ∙ sym (ap (λ tables. slice_index_or tables 0 no_maps) untaken.all)
      of (inr taken) = sym (ap (λ tables. slice_index_or tables 0 no_maps) taken.all)

  piece_is : events_from guest.shape actor is.seat is.part.steps ≡ call.piece
  piece_is = is.piece ∙ ap (λ todo. call.piece ++ events_from guest.shape actor now todo) over.todo_is ∙ append-nil call.piece

  abbrev beside : Beside
  beside = record { maps = call.maps; targets = chosen; commands = call.commands; signals = false }

  pub free_ends : FreeEnds guest actor now call answer acts
  free_ends = record {
    ended = record {
      beside = beside;
      maps = refl;
      commands = refl;
      targets = chosen_there;
      right = λ h. h;
      is_call =
          subst (λ op. IsCall guest.shape beside (vcpu_of guest.shape actor) op call.piece answer) (sym is.operation)
          (subst (λ xs. IsCall guest.shape beside (vcpu_of guest.shape actor) is.part.operation xs answer) piece_is
          (subst (IsCall guest.shape beside (vcpu_of guest.shape actor) is.part.operation (events_from guest.shape actor is.seat is.part.steps)) (sym over.answer_is)
          (is.going.call call.maps chosen call.commands maps_are chosen_so)));
    };
    idle = over.idle;
  }
