-- A part that takes the ITS to change it, while other actors act beside it: before its turn, in it, and after it.
use Rattle.std.proofs.Common.{◌≡◌, ℕ, ◌⊎◌, inl, inr, true, false, cond, IsTrue, List, [], ◌∷◌, ◌++◌, Option, Some, None, refl, sym, ap, ◌∙◌, subst, slice_index_or}
use Rattle.std.specs.List.{cons_option, list_all}
use Rattle.std.specs.Option.{option_to_list}
use Rattle.std.proofs.lemmas.Bool.{and_from, and_parts}
use Rattle.std.proofs.lemmas.List.{append_assoc}
use Rattle.law_found_parts_are_calls.specs.Histories.{AreForNone}
use Rattle.law_ends_agree.specs.Words.{Lpi, GuestShape, has_interrupt, target_in, irq_of}
use Rattle.law_ends_agree.specs.Calls.{Event, Enable, ItsBegin, Touch, Operation, Happened, IsCall, is_beside}
use Rattle.law_ends_agree.specs.GicCall.declared.event.Event.TheVariants.{ItsEnd, Queue}
use Rattle.law_ends_agree.specs.GicCall.declared.event.Found.TheVariants.{Nothing}
use Rattle.law_ends_agree.specs.Registers.{IsValid}
use Rattle.law_ends_agree.proofs.IdealGuests.KeyLemmas.{IsWhole}
use Rattle.law_ends_agree.specs.Histories.{Ideal, happened, Call, begun, made as call_made, noted, seeing, targets_in, vcpu_of, IdealGuest}
use Rattle.law_found_parts_are_calls.proofs.LawHistories.CourseLemmas.{noted_piece}
use Rattle.law_found_parts_are_calls.proofs.LawHistories.TurnSteps.{tables_are}
use Rattle.law_runs_are_fresh.proofs.LawEagerIsHistory.CourseLemmas.{state_after}
use Rattle.law_runs_are_fresh.proofs.LawEagerIsHistory.WindowLemmas.{Targets, is_no_turn}
use Rattle.law_runs_are_fresh.proofs.LawLoneCallsAreEager.MapsLemmas.{tables_kept}
use Rattle.law_runs_are_fresh.proofs.LawLoneCallsAreEager.RunLemmas.{events_of as lone_events}
use Rattle.law_ends_agree.specs.Core.{Made, Irq, is_on, known_maps, no_maps, Seen, Seat, Act, makes}
use Rattle.law_found_parts_are_calls.specs.LawCoreIsHistory.Laws.{followed_by}
use Rattle.law_found_parts_are_calls.specs.PeMem.Found.{takes_its_by}
use Rattle.law_found_parts_are_calls.proofs.SteadyLemmas.{beside_steady, is_steady, steady_maps}
use Rattle.law_found_parts_are_calls.proofs.WindowRuns.{begun_after}
use Rattle.pe_place.specs.Parts.{IsCallFound, Part}
use Rattle.law_threads_are_history.proofs.EventTargets.{SameTargets, same_beside}
use Rattle.law_threads_are_history.proofs.FreeParts.{events_from, stands, tables_in}
use Rattle.law_threads_are_history.proofs.HeldWindows.{HasNoted, AreSame, noted_seen, sees_some}
use Rattle.law_threads_are_history.proofs.MatchRuns.{Matches, closes, is_end, seat_on}
use Rattle.law_threads_are_history.proofs.ToldParts.{Begins, IsPartly, Makes, next_seat, partly_makes, told_by}
use Rattle.law_threads_are_history.proofs.TurnLaws.{IsTurned, firsts_from, its_turn}
use Rattle.law_threads_are_history.proofs.TurnPieces.{is_inner}
use Rattle.law_threads_are_history.proofs.TurnSteps.{TakesNone, TakesTurn, no_turn}
use Rattle.law_threads_are_history.proofs.WindowLemmas.{IsWindowed, call_next, next_operation, windowed_begun, windowed_made, windowed_seen}

-- what is so of a step of an actor in a state: the LPIs are for the vCPUs that it finds, and it moves none but by a step on its word; who has the ITS knows its maps
pub record IsStepHere (shape : GuestShape) (actor : ℕ) (now : Seat) (ideal : Ideal) (made : Made) : Type 0 where
  pub finds : (id : ℕ) → IsTrue (has_interrupt shape (Lpi id)) → is_on shape actor (Irq (Lpi id)) made ≡ true → targets_in ideal id ≡ target_in (irq_of made.found).route shape
  pub keeps : (id : ℕ) → IsTrue (has_interrupt shape (Lpi id)) → is_on shape actor (Irq (Lpi id)) made ≡ false → targets_in (followed_by actor (stands shape actor now made) ideal) id ≡ targets_in ideal id
  pub known : ideal.has_its ≡ Some actor → ideal.guest.tables ≡ known_maps now.own
  pub valid_now : IsValid shape ideal.guest.tables
  pub valid : IsValid shape (followed_by actor (stands shape actor now made) ideal).guest.tables
  pub whole : IsWhole ideal.guest
  pub turn : TakesTurn ideal.guest.tables made.tables (stands shape actor now made) ⊎ TakesNone made.tables (stands shape actor now made)

-- Before its turn.

-- the turn that is to come among some events
pub record IsTurnAhead (who : Option ℕ) (events : List Event) : Type 0 where
  pub early : List Event
  pub inner : List Event
  pub late : List Event
  pub split : events ≡ early ++ (ItsBegin ∷ (inner ++ (ItsEnd ∷ late)))
  pub before : IsTrue (list_all (is_beside who) early)
  pub within : IsTrue (list_all is_inner inner)
  pub after : IsTrue (list_all (is_beside who) late)

pub record IsBefore (guest : IdealGuest) (actor : ℕ) (ideal : Ideal) (now : Seat) (call : Call) (acts : List Act) : Type 0 where
  pub base : Seen
  pub seat : Seat
  pub part : Part
  pub todo : List Made
  pub partly : IsPartly guest actor now acts seat part todo
  pub told : IsCallFound (told_by guest actor base seat) part
  pub takes : takes_its_by guest.shape part.operation ≡ true
  pub operation : call.operation ≡ part.operation
  pub piece : events_from guest.shape actor seat part.steps ≡ call.piece ++ events_from guest.shape actor now todo
  pub past : List Made
  pub past_is : part.steps ≡ past ++ todo
  pub now_is : now ≡ seat_on guest.shape actor seat past
  pub beside : IsTrue (list_all (is_beside (vcpu_of guest.shape actor)) (lone_events (events_from guest.shape actor seat past)))
  pub ahead : IsTurnAhead (vcpu_of guest.shape actor) (lone_events (events_from guest.shape actor now todo))
  pub commands : call.commands ≡ []
  pub place : call.place ≡ None
  pub untaken : tables_in part.steps ≡ tables_in todo
  pub windowed : IsWindowed ideal call

pub its_begins : (guest : IdealGuest) (actor : ℕ) (ideal : Ideal) (now : Seat) (operation : Operation) (acts : List Act) (begins : Begins guest actor now operation acts) → IsCallFound (told_by guest actor begins.base now) begins.part → takes_its_by guest.shape begins.part.operation ≡ true → IsBefore guest actor ideal now (begun ideal operation) acts
its_begins guest actor ideal now operation acts begins told takes =
    let part = begins.part in
    let turn = its_turn guest.shape told.made.beside (vcpu_of guest.shape actor) part.operation (events_from guest.shape actor now part.steps) part.answer takes told.made.call in
    record {
      base = begins.base;
      seat = now;
      part = part;
      todo = part.steps;
      partly = begins.partly;
      told = told;
      takes = takes;
      operation = sym begins.operation_is;
      piece = refl;
      past = [];
      past_is = refl;
      now_is = refl;
      beside = refl;
      ahead = record { early = turn.early; inner = turn.inner; late = turn.late; split = turn.split; before = turn.before; within = turn.within; after = turn.after };
      commands = refl;
      place = refl;
      untaken = refl;
      windowed = windowed_begun ideal operation;
    }

pub before_seen : (guest : IdealGuest) (actor : ℕ) (before after : Ideal) (now : Seat) (call : Call) (acts : List Act) → IsBefore guest actor before now call acts → IsBefore guest actor after now (seeing after call) acts
before_seen guest actor before after now call acts is = record {
  base = is.base;
  seat = is.seat;
  part = is.part;
  todo = is.todo;
  partly = is.partly;
  told = is.told;
  takes = is.takes;
  operation = is.operation;
  piece = is.piece;
  past = is.past;
  past_is = is.past_is;
  now_is = is.now_is;
  beside = is.beside;
  ahead = is.ahead;
  commands = is.commands;
  place = is.place;
  untaken = is.untaken;
  windowed = windowed_seen before after call is.windowed;
}

-- In its turn.

-- the rest of a turn among some events
pub record IsTurnOn (who : Option ℕ) (events : List Event) : Type 0 where
  pub inner : List Event
  pub late : List Event
  pub split : events ≡ inner ++ (ItsEnd ∷ late)
  pub within : IsTrue (list_all is_inner inner)
  pub after : IsTrue (list_all (is_beside who) late)

-- beside the ideal controller as if nobody else acted since it took the ITS
pub record IsHolding (guest : IdealGuest) (actor : ℕ) (ideal : Ideal) (now : Seat) (call : Call) (acts : List Act) : Type 0 where
  pub seat : Seat
  pub part : Part
  pub todo : List Made
  pub partly : IsPartly guest actor now acts seat part todo
  pub operation : call.operation ≡ part.operation
  pub piece : events_from guest.shape actor seat part.steps ≡ call.piece ++ events_from guest.shape actor now todo
  pub first : Seat
  pub start : Ideal
  pub more : List Made
  pub turned : IsTurned guest actor seat part first start more
  pub ghost : Ideal
  pub matches : Matches guest.shape actor true now ghost todo → Matches guest.shape actor true first start more
  pub leads : state_after actor (lone_events (events_from guest.shape actor now todo)) ghost ≡ state_after actor (lone_events (events_from guest.shape actor first more)) start
  pub same : SameTargets ghost ideal
  pub tables : ghost.guest.tables ≡ ideal.guest.tables
  pub holds : ideal.has_its ≡ Some actor
  pub turn : IsTurnOn (vcpu_of guest.shape actor) (lone_events (events_from guest.shape actor now todo))
  pub maps : call.maps ≡ start.guest.tables
  pub early : List Targets
  pub firsts : firsts_from guest.shape actor first start more ≡ early ++ begun_after actor (lone_events (events_from guest.shape actor now todo)) ghost
  pub noted : HasNoted call early

-- another actor makes an event that moves no LPI, and leaves it the turn
pub holding_seen :
    (guest : IdealGuest) (actor other : ℕ) (before : Ideal) (event : Event) (now : Seat) (call : Call) (acts : List Act) → is_steady event ≡ true → (happened other event before).has_its ≡ Some actor → IsHolding guest actor before now call acts
    → IsHolding guest actor (happened other event before) now (seeing (happened other event before) call) acts
holding_seen guest actor other before event now call acts steady holds is = record {
  seat = is.seat;
  part = is.part;
  todo = is.todo;
  partly = is.partly;
  operation = is.operation;
  piece = is.piece;
  first = is.first;
  start = is.start;
  more = is.more;
  turned = is.turned;
  ghost = is.ghost;
  matches = is.matches;
  leads = is.leads;
  same = same_beside other is.ghost before event steady is.same;
  tables = is.tables ∙ sym (tables_are other event before ∙ tables_kept event before.guest.tables (steady_maps event steady));
  holds = holds;
  turn = is.turn;
  maps = is.maps;
  early = is.early;
  firsts = is.firsts;
  noted = noted_seen (happened other event before) call is.early is.noted;
}

-- After its turn.

pub record IsReleased (guest : IdealGuest) (actor : ℕ) (now : Seat) (call : Call) (acts : List Act) : Type 0 where
  pub seat : Seat
  pub part : Part
  pub todo : List Made
  pub partly : IsPartly guest actor now acts seat part todo
  pub operation : call.operation ≡ part.operation
  pub piece : events_from guest.shape actor seat part.steps ≡ call.piece ++ events_from guest.shape actor now todo
  pub firsts : List Targets
  pub is_call :
      (targets : Targets) (commands : List Targets) → AreSame firsts commands
      → IsCall guest.shape (record { maps = call.maps; targets = targets; commands = commands; signals = false }) (vcpu_of guest.shape actor) part.operation (events_from guest.shape actor seat part.steps) part.answer
  pub beside : IsTrue (list_all (is_beside (vcpu_of guest.shape actor)) (lone_events (events_from guest.shape actor now todo)))
  pub noted : HasNoted call firsts

pub released_seen : (guest : IdealGuest) (actor : ℕ) (after : Ideal) (now : Seat) (call : Call) (acts : List Act) → IsReleased guest actor now call acts → IsReleased guest actor now (seeing after call) acts
released_seen guest actor after now call acts is = record {
  seat = is.seat;
  part = is.part;
  todo = is.todo;
  partly = is.partly;
  operation = is.operation;
  piece = is.piece;
  firsts = is.firsts;
  is_call = is.is_call;
  beside = is.beside;
  noted = noted_seen after call is.firsts is.noted;
}

-- Steps.

pub event_is : (x y : Happened) → Some x ≡ Some y → x ≡ y
event_is x y e = cc

pub same_head : (one two : Event) (first next : List Event) → one ∷ first ≡ two ∷ next → one ≡ two
same_head one two first next e = cc

pub same_tail : (one two : Event) (first next : List Event) → one ∷ first ≡ two ∷ next → first ≡ next
same_tail one two first next e = cc

seat_last : (shape : GuestShape) (actor : ℕ) (made : Made) (steps : List Made) (seat : Seat) → seat_on shape actor seat (steps ++ made ∷ []) ≡ next_seat shape actor (seat_on shape actor seat steps) made
seat_last shape actor made [] seat = refl
seat_last shape actor made (first ∷ steps) seat = seat_last shape actor made steps (next_seat shape actor seat first)

-- more steps whose events are beside
beside_last : (shape : GuestShape) (actor : ℕ) (who : Option ℕ) (made : Made) (steps : List Made) (seat : Seat) → IsTrue (list_all (is_beside who) (lone_events (events_from shape actor seat steps)))
    → IsTrue (list_all (is_beside who) (lone_events (option_to_list (stands shape actor (seat_on shape actor seat steps) made)))) → IsTrue (list_all (is_beside who) (lone_events (events_from shape actor seat (steps ++ made ∷ []))))
beside_last shape actor who made [] seat h k = of (stands shape actor seat made) k
  where
    of : (o : Option Happened) → IsTrue (list_all (is_beside who) (lone_events (option_to_list o))) → IsTrue (list_all (is_beside who) (lone_events (option_to_list o ++ [])))
    of None k = refl
    of (Some one) k = k
beside_last shape actor who made (first ∷ steps) seat h k = of (stands shape actor seat first) h (λ rest. beside_last shape actor who made steps (next_seat shape actor seat first) rest k)
  where
    of : (o : Option Happened) → IsTrue (list_all (is_beside who) (lone_events (option_to_list o ++ events_from shape actor (next_seat shape actor seat first) steps)))
        → (IsTrue (list_all (is_beside who) (lone_events (events_from shape actor (next_seat shape actor seat first) steps))) → IsTrue (list_all (is_beside who) (lone_events (events_from shape actor (next_seat shape actor seat first) (steps ++ made ∷ [])))))
        → IsTrue (list_all (is_beside who) (lone_events (option_to_list o ++ events_from shape actor (next_seat shape actor seat first) (steps ++ made ∷ []))))
    of None h later = later h
    of (Some one) h later =
        let parts = and_parts (is_beside who one.event) (list_all (is_beside who) (lone_events (events_from shape actor (next_seat shape actor seat first) steps))) h in
        and_from (is_beside who one.event) (list_all (is_beside who) (lone_events (events_from shape actor (next_seat shape actor seat first) (steps ++ made ∷ [])))) parts.0 (later parts.1)

-- what is beside stores no EnableLPIs
beside_commands : (who : Option ℕ) (ideal : Ideal) (event : Event) (call : Call) → is_beside who event ≡ true → (noted ideal event call).commands ≡ call.commands
beside_commands who ideal (Enable vcpu) call h = refl
beside_commands who ideal (Touch key touching) call h = refl
beside_commands who ideal ItsBegin call h = absurd (cc)
beside_commands who ideal (Queue offset change) call h = absurd (cc)
beside_commands who ideal event call h = refl

beside_place : (who : Option ℕ) (ideal : Ideal) (event : Event) (call : Call) → is_beside who event ≡ true → call.place ≡ None → (noted ideal event call).place ≡ None
beside_place who ideal (Enable vcpu) call h none = absurd (cc)
beside_place who ideal (Touch key touching) call h none = absurd (cc)
beside_place who ideal ItsBegin call h none = absurd (cc)
beside_place who ideal (Queue offset change) call h none = absurd (cc)
beside_place who ideal event call h none = none

-- a turn ends once
turn_closes : (who : Option ℕ) (inner late : List Event) → IsTrue (list_all is_inner inner) → IsTrue (list_all (is_beside who) late) → IsTrue (closes who true (inner ++ (ItsEnd ∷ late)))
turn_closes who [] late within after = after
turn_closes who (event ∷ inner) late within after =
    let parts = and_parts (is_inner event) (list_all is_inner inner) within in
    ap (λ b. cond b (list_all (is_beside who) (inner ++ (ItsEnd ∷ late))) (closes who true (inner ++ (ItsEnd ∷ late)))) (no_end event parts.0) ∙ turn_closes who inner late parts.1 after
  where
    no_end : (event : Event) → is_inner event ≡ true → is_end event ≡ false
    no_end ItsEnd h = absurd (cc)
    no_end event h = refl

-- what a step before the turn makes of it
abbrev pub BeforeSteps : IdealGuest → ℕ → Ideal → Seat → Call → List Act → Option Happened → Type 0
BeforeSteps guest actor ideal next call acts None = IsBefore guest actor ideal next call acts
BeforeSteps guest actor ideal next call acts (Some one) =
    (IsTrue (is_steady one.event) × IsBefore guest actor (happened actor one.event ideal) next (call_next ideal (happened actor one.event ideal) one.event one.found call) acts)
    ⊎ ((one.event ≡ ItsBegin) × (AreForNone ideal.guest → IsHolding guest actor (happened actor one.event ideal) next (call_next ideal (happened actor one.event ideal) one.event one.found call) acts))

module _ (guest : IdealGuest) (actor : ℕ) (ideal : Ideal) (now : Seat) (call : Call) (made : Made) (acts : List Act) (is : IsBefore guest actor ideal now call (makes made ∷ acts)) (here : IsStepHere guest.shape actor now ideal made) where
  abbrev shape : GuestShape
  shape = guest.shape

  abbrev who : Option ℕ
  who = vcpu_of guest.shape actor

  abbrev next : Seat
  next = next_seat guest.shape actor now made

  goes : Makes guest actor now is.seat is.part made acts is.todo
  goes = partly_makes guest actor now is.seat is.part made acts is.todo is.partly

  abbrev more : List Made
  more = goes.more

  abbrev later : List Happened
  later = events_from guest.shape actor (next_seat guest.shape actor now made) goes.more

  piece_so : events_from guest.shape actor is.seat is.part.steps ≡ call.piece ++ (option_to_list (stands guest.shape actor now made) ++ later)
  piece_so = subst (λ todo. events_from guest.shape actor is.seat is.part.steps ≡ call.piece ++ events_from guest.shape actor now todo) goes.todo_is is.piece

  untaken_so : tables_in is.part.steps ≡ cons_option made.tables (tables_in more)
  untaken_so = is.untaken ∙ ap tables_in goes.todo_is

  steps_so : is.part.steps ≡ is.past ++ (made ∷ more)
  steps_so = is.past_is ∙ ap (λ todo. is.past ++ todo) goes.todo_is

  ahead_so : IsTurnAhead who (lone_events (option_to_list (stands guest.shape actor now made) ++ later))
  ahead_so = subst (λ todo. IsTurnAhead who (lone_events (events_from guest.shape actor now todo))) goes.todo_is is.ahead

  past_more : IsTrue (list_all (is_beside who) (lone_events (option_to_list (stands guest.shape actor now made)))) → IsTrue (list_all (is_beside who) (lone_events (events_from guest.shape actor is.seat (is.past ++ made ∷ []))))
  past_more h = beside_last shape actor who made is.past is.seat is.beside (subst (λ s. IsTrue (list_all (is_beside who) (lone_events (option_to_list (stands shape actor s made))))) is.now_is h)

  now_more : next ≡ seat_on guest.shape actor is.seat (is.past ++ made ∷ [])
  now_more = ap (λ s. next_seat shape actor s made) is.now_is ∙ sym (seat_last shape actor made is.past is.seat)

  -- a step that stands for nothing
  before_none : stands guest.shape actor now made ≡ None → TakesNone made.tables (stands guest.shape actor now made) → IsBefore guest actor ideal next call acts
  before_none quiet idle = record {
    base = is.base;
    seat = is.seat;
    part = is.part;
    todo = more;
    partly = goes.partly;
    told = is.told;
    takes = is.takes;
    operation = is.operation;
    piece = piece_so ∙ ap (λ o. call.piece ++ (option_to_list o ++ later)) quiet;
    past = is.past ++ made ∷ [];
    past_is = steps_so ∙ sym (append_assoc is.past (made ∷ []) more);
    now_is = now_more;
    beside = past_more (subst (λ o. IsTrue (list_all (is_beside who) (lone_events (option_to_list o)))) (sym quiet) refl);
    ahead = subst (λ o. IsTurnAhead who (lone_events (option_to_list o ++ later))) quiet ahead_so;
    commands = is.commands;
    place = is.place;
    untaken = untaken_so ∙ ap (λ t. cons_option t (tables_in more)) idle.none;
    windowed = is.windowed;
  }

  -- one that stands for an event before the turn
  record IsAhead (one : Happened) : Type 0 where
    beside : is_beside who one.event ≡ true
    ahead : IsTurnAhead who (lone_events later)

  ahead_one : (one : Happened) → stands guest.shape actor now made ≡ Some one → is_no_turn one.event ≡ true → IsAhead one
  ahead_one one e quiet = of turn.early turn.split turn.before
    where
      turn : IsTurnAhead (vcpu_of guest.shape actor) (one.event ∷ lone_events later)
      turn = subst (λ o. IsTurnAhead who (lone_events (option_to_list o ++ later))) e ahead_so

      of : (early : List Event) → one.event ∷ lone_events later ≡ early ++ (ItsBegin ∷ (turn.inner ++ (ItsEnd ∷ turn.late))) → IsTrue (list_all (is_beside (vcpu_of guest.shape actor)) early) → IsAhead one
      of [] split before = absurd (let no = sym quiet ∙ ap is_no_turn (same_head one.event ItsBegin (lone_events later) (turn.inner ++ (ItsEnd ∷ turn.late)) split) in cc)
      of (event ∷ early) split before =
          let parts = and_parts (is_beside who event) (list_all (is_beside who) early) before in
          let tail = early ++ (ItsBegin ∷ (turn.inner ++ (ItsEnd ∷ turn.late))) in
          record {
            beside = ap (is_beside who) (same_head one.event event (lone_events later) tail split) ∙ parts.0;
            ahead = record { early = early; inner = turn.inner; late = turn.late; split = same_tail one.event event (lone_events later) tail split; before = parts.1; within = turn.within; after = turn.after };
          }

  before_one : (one : Happened) → stands guest.shape actor now made ≡ Some one → TakesNone made.tables (stands guest.shape actor now made)
      → IsTrue (is_steady one.event) × IsBefore guest actor (happened actor one.event ideal) next (call_next ideal (happened actor one.event ideal) one.event one.found call) acts
  before_one one e idle =
      let quiet : is_no_turn one.event ≡ true = subst (λ o. IsTrue (no_turn o)) e idle.event in
      let ahead = ahead_one one e quiet in
      let after = happened actor one.event ideal in
      let steady = beside_steady who one.event ahead.beside in (
        steady,
        record {
          base = is.base;
          seat = is.seat;
          part = is.part;
          todo = more;
          partly = goes.partly;
          told = is.told;
          takes = is.takes;
          operation = next_operation ideal after one.event one.found call ∙ is.operation;
          piece =
              piece_so ∙ ap (λ o. call.piece ++ (option_to_list o ++ later)) e ∙ sym (append_assoc call.piece (one ∷ []) later)
              ∙ ap (λ p. (p ++ one ∷ []) ++ later) (sym (noted_piece ideal one.event call));
          past = is.past ++ made ∷ [];
          past_is = steps_so ∙ sym (append_assoc is.past (made ∷ []) more);
          now_is = now_more;
          beside = past_more (subst (λ o. IsTrue (list_all (is_beside who) (lone_events (option_to_list o)))) (sym e) (and_from (is_beside who one.event) true ahead.beside refl));
          ahead = ahead.ahead;
          commands = beside_commands who ideal one.event call ahead.beside ∙ is.commands;
          place = beside_place who ideal one.event call ahead.beside is.place;
          untaken = untaken_so ∙ ap (λ t. cons_option t (tables_in more)) idle.none;
          windowed = windowed_made ideal after one.event one.found call steady is.windowed;
        },
      )

  -- the step with which it takes the ITS
  abbrev begins : Happened
  begins = record { event = ItsBegin; found = Nothing }

  module _ (taken : TakesTurn ideal.guest.tables made.tables (stands guest.shape actor now made)) where
    turn_on : IsTurnOn who (lone_events later)
    turn_on = of turn.early turn.split turn.before
      where
        turn : IsTurnAhead (vcpu_of guest.shape actor) (ItsBegin ∷ lone_events later)
        turn = subst (λ o. IsTurnAhead who (lone_events (option_to_list o ++ later))) taken.event ahead_so

        of : (early : List Event) → ItsBegin ∷ lone_events later ≡ early ++ (ItsBegin ∷ (turn.inner ++ (ItsEnd ∷ turn.late))) → IsTrue (list_all (is_beside (vcpu_of guest.shape actor)) early) → IsTurnOn who (lone_events later)
        of [] split before = record { inner = turn.inner; late = turn.late; split = same_tail ItsBegin ItsBegin (lone_events later) (turn.inner ++ (ItsEnd ∷ turn.late)) split; within = turn.within; after = turn.after }
        of (event ∷ early) split before =
            absurd (let no = ap (is_beside who) (same_head ItsBegin event (lone_events later) (early ++ (ItsBegin ∷ (turn.inner ++ (ItsEnd ∷ turn.late)))) split) ∙ (and_parts (is_beside who event) (list_all (is_beside who) early) before).0 in cc)

    closed : IsTrue (closes who true (lone_events later))
    closed = subst (λ es. IsTrue (closes who true es)) (sym turn_on.split) (turn_closes who turn_on.inner turn_on.late turn_on.within turn_on.after)

    abbrev start : Ideal
    start = happened actor ItsBegin ideal

    turned : AreForNone ideal.guest → IsTurned guest actor is.seat is.part next start more
    turned none = record {
      base = is.base;
      told = is.told;
      takes = is.takes;
      past = is.past;
      turn = made;
      steps_are = steps_so;
      beside = is.beside;
      stands_is = ap (λ s. stands shape actor s made) (sym is.now_is) ∙ taken.event;
      tables_is = taken.handed;
      now_is = ap (λ s. next_seat shape actor s made) is.now_is;
      maps_is = ap (λ tables. slice_index_or tables 0 no_maps) (untaken_so ∙ ap (λ t. cons_option t (tables_in more)) taken.handed);
      closed = closed;
      whole = here.whole;
      valid = here.valid_now;
      none = none;
    }

    holding : AreForNone ideal.guest → IsHolding guest actor start next (call_next ideal start ItsBegin Nothing call) acts
    holding none = record {
      seat = is.seat;
      part = is.part;
      todo = more;
      partly = goes.partly;
      operation = is.operation;
      piece = piece_so ∙ ap (λ o. call.piece ++ (option_to_list o ++ later)) taken.event ∙ sym (append_assoc call.piece (begins ∷ []) later);
      first = next;
      start = start;
      more = more;
      turned = turned none;
      ghost = start;
      matches = λ matches. matches;
      leads = refl;
      same = record { whole_one = here.whole; whole_other = here.whole; shape = refl; targets = λ id. refl };
      tables = refl;
      holds = refl;
      turn = turn_on;
      maps = refl;
      early = targets_in start ∷ [];
      firsts = refl;
      noted = record {
        place = is.place;
        some = λ id. sees_some start (call_made ideal ItsBegin Nothing call) id is.place;
        same = subst (λ (before : List Targets). AreSame (targets_in start ∷ []) (before ++ targets_in ideal ∷ [])) (sym is.commands) ((λ id. refl), tt);
      };
    }

  pub before_makes : BeforeSteps guest actor ideal next call acts (stands guest.shape actor now made)
  before_makes = of (stands guest.shape actor now made) refl here.turn
    where
      of : (o : Option Happened) → stands guest.shape actor now made ≡ o → TakesTurn ideal.guest.tables made.tables (stands guest.shape actor now made) ⊎ TakesNone made.tables (stands guest.shape actor now made)
          → BeforeSteps guest actor ideal (next_seat guest.shape actor now made) call acts o
      of None e (inl taken) = absurd (let no = sym e ∙ taken.event in cc)
      of None e (inr idle) = before_none e idle
      of (Some one) e (inl taken) =
          let same : begins ≡ one = event_is begins one (sym taken.event ∙ e) in
          subst (λ (h : Happened). BeforeSteps guest actor ideal next call acts (Some h)) same (inr (refl, holding taken))
      of (Some one) e (inr idle) = inl (before_one one e idle)
