-- A part that takes the ITS to change it, in its turn and after it.
use Rattle.std.proofs.Common.{◌≡◌, ℕ, ◌⊎◌, inl, inr, not, Bool, true, false, cond, IsTrue, List, [], ◌∷◌, ◌++◌, Option, Some, None, refl, sym, ap, ◌∙◌, subst}
use Rattle.std.specs.List.{list_all}
use Rattle.std.specs.Option.{option_to_list}
use Rattle.std.proofs.lemmas.Bool.{and_parts}
use Rattle.std.proofs.lemmas.List.{append-nil, append_assoc}
use Rattle.law_found_parts_are_calls.specs.Histories.{AreForNone}
use Rattle.law_ends_agree.specs.Words.{GuestShape}
use Rattle.law_ends_agree.specs.Calls.{Event, ItsBegin, Happened, Beside, IsCall, is_beside}
use Rattle.law_ends_agree.specs.GicCall.declared.event.Event.TheVariants.{ItsEnd}
use Rattle.law_ends_agree.specs.Registers.{IsValid, has_target}
use Rattle.law_ends_agree.proofs.IdealGuests.KeyLemmas.{IsWhole}
use Rattle.law_ends_agree.specs.Histories.{Ideal, happened, Call, IsEnded, targets_in, vcpu_of, IdealGuest}
use Rattle.law_found_parts_are_calls.proofs.LawHistories.CourseLemmas.{noted_piece}
use Rattle.law_found_parts_are_calls.proofs.LawHistories.TurnSteps.{tables_after, tables_are}
use Rattle.law_runs_are_fresh.proofs.LawEagerIsHistory.CourseLemmas.{state_after}
use Rattle.law_runs_are_fresh.proofs.LawEagerIsHistory.WindowLemmas.{Targets, is_no_turn}
use Rattle.law_runs_are_fresh.proofs.LawLoneCallsAreEager.RunLemmas.{events_of as lone_events}
use Rattle.law_ends_agree.specs.Core.{Made, Seat, Act, ends, makes}
use Rattle.law_found_parts_are_calls.specs.LawCoreIsHistory.Laws.{followed_by}
use Rattle.law_found_parts_are_calls.proofs.BegunRuns.{beside_endless, is_endless}
use Rattle.law_found_parts_are_calls.proofs.SteadyLemmas.{beside_steady, is_steady, maps_steady, targets_steady}
use Rattle.law_found_parts_are_calls.proofs.TurnRuns.{is_ending}
use Rattle.law_found_parts_are_calls.proofs.WindowRuns.{begun_after, begun_past}
use Rattle.law_threads_are_history.proofs.EventTargets.{SameTargets, is_no_mark, own_mark_kept, same_after}
use Rattle.law_threads_are_history.proofs.FreeParts.{events_from, stands}
use Rattle.law_threads_are_history.proofs.HeldWindows.{HasNoted, noted_end, noted_on, noted_turn}
use Rattle.law_threads_are_history.proofs.ItsParts.{IsBefore, IsHolding, IsReleased, IsStepHere, IsTurnOn, same_head, same_tail}
use Rattle.law_threads_are_history.proofs.MatchRuns.{IsMatch, Matches, held_after, is_end}
use Rattle.law_threads_are_history.proofs.ToldParts.{IsIdle, Makes, next_seat, partly_ends, partly_makes}
use Rattle.law_threads_are_history.proofs.TurnLaws.{IsTurnedCall, firsts_from, turned_call}
use Rattle.law_threads_are_history.proofs.TurnPieces.{all_pass, beside_inner, is_inner}
use Rattle.law_threads_are_history.proofs.WindowLemmas.{call_next, next_maps, next_operation}

-- LPIs that the maps give no vCPU, in a state that comes before others, and in one with the same vCPUs.

none_back : (actor : ℕ) (events : List Event) (state : Ideal) → IsTrue (list_all is_steady events) → IsWhole state.guest → AreForNone (state_after actor events state).guest → AreForNone state.guest
none_back actor events state steady whole none id lost = sym (targets_steady actor events state id steady whole) ∙ none id (ap (λ maps. has_target maps id) (maps_steady actor events state steady) ∙ lost)

none_same : (one other : Ideal) → SameTargets one other → one.guest.tables ≡ other.guest.tables → AreForNone one.guest → AreForNone other.guest
none_same one other same tables none id lost = sym (same.targets id) ∙ none id (ap (λ maps. has_target maps id) tables ∙ lost)

-- once the turn is over nothing is asked of a step
held_none : (held : Bool) (o : Option Happened) → held ≡ false → held_after held o ≡ false
held_none held None e = e
held_none true (Some one) e = absurd (cc)
held_none false (Some one) e = refl

matches_none : (shape : GuestShape) (actor : ℕ) (steps : List Made) (held : Bool) (seat : Seat) (ghost : Ideal) → held ≡ false → Matches shape actor held seat ghost steps
matches_none shape actor [] held seat ghost e = tt
matches_none shape actor (made ∷ steps) held seat ghost e = (
  (λ h. absurd (let no = sym h ∙ e in cc)),
  matches_none shape actor steps (held_after held (stands shape actor seat made)) (next_seat shape actor seat made) (followed_by actor (stands shape actor seat made) ghost) (held_none held (stands shape actor seat made) e),
)

begun_none : (actor : ℕ) (events : List Event) (state : Ideal) → IsTrue (list_all is_endless events) → begun_after actor events state ≡ []
begun_none actor events state endless = ap (λ es. begun_after actor es state) (sym (append-nil events)) ∙ begun_past actor events [] state endless

inner_no_turn : (event : Event) → is_inner event ≡ true → is_no_turn event ≡ true
inner_no_turn ItsBegin h = absurd (cc)
inner_no_turn event h = refl

inner_no_mark : (event : Event) → is_inner event ≡ true → is_no_mark event ≡ true
inner_no_mark ItsBegin h = absurd (cc)
inner_no_mark ItsEnd h = absurd (cc)
inner_no_mark event h = refl

inner_no_end : (event : Event) → is_inner event ≡ true → not (is_end event) ≡ true
inner_no_end ItsEnd h = absurd (cc)
inner_no_end event h = refl

not_ending : (b : Bool) → not b ≡ true → b ≡ false
not_ending true h = absurd (cc)
not_ending false h = refl

-- In the turn.

-- what a step makes of it
abbrev pub HoldingSteps : IdealGuest → ℕ → Ideal → Seat → Call → List Act → Option Happened → Type 0
HoldingSteps guest actor ideal next call acts None = IsHolding guest actor ideal next call acts
HoldingSteps guest actor ideal next call acts (Some one) =
    IsHolding guest actor (happened actor one.event ideal) next (call_next ideal (happened actor one.event ideal) one.event one.found call) acts
    ⊎ ((AreForNone (happened actor one.event ideal).guest) × IsReleased guest actor next (call_next ideal (happened actor one.event ideal) one.event one.found call) acts)

module _ (guest : IdealGuest) (actor : ℕ) (ideal : Ideal) (now : Seat) (call : Call) (made : Made) (acts : List Act) (is : IsHolding guest actor ideal now call (makes made ∷ acts)) (here : IsStepHere guest.shape actor now ideal made) where
  abbrev shape : GuestShape
  shape = guest.shape

  abbrev who : Option ℕ
  who = vcpu_of guest.shape actor

  abbrev next : Seat
  next = next_seat guest.shape actor now made

  abbrev happens : Option Happened
  happens = stands guest.shape actor now made

  goes : Makes guest actor now is.seat is.part made acts is.todo
  goes = partly_makes guest actor now is.seat is.part made acts is.todo is.partly

  abbrev more : List Made
  more = goes.more

  abbrev later : List Happened
  later = events_from guest.shape actor (next_seat guest.shape actor now made) goes.more

  piece_so : events_from guest.shape actor is.seat is.part.steps ≡ call.piece ++ (option_to_list happens ++ later)
  piece_so = subst (λ todo. events_from guest.shape actor is.seat is.part.steps ≡ call.piece ++ events_from guest.shape actor now todo) goes.todo_is is.piece

  turn_so : IsTurnOn who (lone_events (option_to_list happens ++ later))
  turn_so = subst (λ todo. IsTurnOn who (lone_events (events_from guest.shape actor now todo))) goes.todo_is is.turn

  firsts_so : firsts_from guest.shape actor is.first is.start is.more ≡ is.early ++ begun_after actor (lone_events (option_to_list happens ++ later)) is.ghost
  firsts_so = subst (λ todo. firsts_from guest.shape actor is.first is.start is.more ≡ is.early ++ begun_after actor (lone_events (events_from guest.shape actor now todo)) is.ghost) goes.todo_is is.firsts

  leads_so : state_after actor (lone_events (option_to_list happens ++ later)) is.ghost ≡ state_after actor (lone_events (events_from guest.shape actor is.first is.more)) is.start
  leads_so = subst (λ todo. state_after actor (lone_events (events_from guest.shape actor now todo)) is.ghost ≡ state_after actor (lone_events (events_from guest.shape actor is.first is.more)) is.start) goes.todo_is is.leads

  -- as if nobody else acted
  same_on : (o : Option Happened) → SameTargets (followed_by actor o is.ghost) (followed_by actor o ideal)
  same_on None = is.same
  same_on (Some one) = same_after actor is.ghost ideal one.event is.same

  tables_on : (o : Option Happened) → (followed_by actor o is.ghost).guest.tables ≡ (followed_by actor o ideal).guest.tables
  tables_on None = is.tables
  tables_on (Some one) = tables_are actor one.event is.ghost ∙ ap (tables_after one.event) is.tables ∙ sym (tables_are actor one.event ideal)

  match : IsMatch guest.shape actor now is.ghost made
  match = record {
    finds = λ id there on. is.same.targets id ∙ here.finds id there on;
    keeps = λ id there off. (same_on happens).targets id ∙ here.keeps id there off ∙ sym (is.same.targets id);
    known = is.tables ∙ here.known is.holds;
    valid = subst (IsValid shape) (sym (tables_on happens)) here.valid;
  }

  extend : (o : Option Happened) → stands guest.shape actor now made ≡ o → Matches guest.shape actor (held_after true o) next (followed_by actor o is.ghost) more → Matches guest.shape actor true is.first is.start is.more
  extend o e matches =
      subst (λ todo. Matches guest.shape actor true now is.ghost todo → Matches guest.shape actor true is.first is.start is.more) goes.todo_is is.matches
      ((λ h. match), subst (λ o. Matches guest.shape actor (held_after true o) next (followed_by actor o is.ghost) more) (sym e) matches)

  -- a step that stands for nothing
  holding_none : stands guest.shape actor now made ≡ None → IsHolding guest actor ideal next call acts
  holding_none e = record {
    seat = is.seat;
    part = is.part;
    todo = more;
    partly = goes.partly;
    operation = is.operation;
    piece = piece_so ∙ ap (λ o. call.piece ++ (option_to_list o ++ later)) e;
    first = is.first;
    start = is.start;
    more = is.more;
    turned = is.turned;
    ghost = is.ghost;
    matches = extend None e;
    leads = ap (λ o. state_after actor (lone_events (option_to_list o ++ later)) is.ghost) (sym e) ∙ leads_so;
    same = is.same;
    tables = is.tables;
    holds = is.holds;
    turn = subst (λ o. IsTurnOn who (lone_events (option_to_list o ++ later))) e turn_so;
    maps = is.maps;
    early = is.early;
    firsts = firsts_so ∙ ap (λ o. is.early ++ begun_after actor (lone_events (option_to_list o ++ later)) is.ghost) e;
    noted = is.noted;
  }

  -- and one that stands for an event
  module _ (one : Happened) (e : stands guest.shape actor now made ≡ Some one) where
    abbrev after : Ideal
    after = happened actor one.event ideal

    abbrev ghost_after : Ideal
    ghost_after = happened actor one.event is.ghost

    abbrev call_after : Call
    call_after = call_next ideal (happened actor one.event ideal) one.event one.found call

    piece_one : events_from guest.shape actor is.seat is.part.steps ≡ call_after.piece ++ later
    piece_one =
        piece_so ∙ ap (λ o. call.piece ++ (option_to_list o ++ later)) e ∙ sym (append_assoc call.piece (one ∷ []) later)
        ∙ ap (λ p. (p ++ one ∷ []) ++ later) (sym (noted_piece ideal one.event call))

    leads_one : state_after actor (lone_events later) ghost_after ≡ state_after actor (lone_events (events_from guest.shape actor is.first is.more)) is.start
    leads_one = ap (λ o. state_after actor (lone_events (option_to_list o ++ later)) is.ghost) (sym e) ∙ leads_so

    firsts_one : firsts_from guest.shape actor is.first is.start is.more ≡ is.early ++ begun_after actor (one.event ∷ lone_events later) is.ghost
    firsts_one = firsts_so ∙ ap (λ o. is.early ++ begun_after actor (lone_events (option_to_list o ++ later)) is.ghost) e

    same_one : SameTargets ghost_after after
    same_one = same_after actor is.ghost ideal one.event is.same

    tables_one : ghost_after.guest.tables ≡ after.guest.tables
    tables_one = tables_on (Some one)

    -- what is noted after it
    record HasMore : Type 0 where
      early : List Targets
      firsts : firsts_from guest.shape actor is.first is.start is.more ≡ early ++ begun_after actor (lone_events later) ghost_after
      noted : HasNoted call_after early

    has_more : is_inner one.event ≡ true → HasMore
    has_more inner = of (is_ending one.event) refl
      where
        of : (b : Bool) → is_ending one.event ≡ b → HasMore
        of false end = record {
          early = is.early;
          firsts = firsts_one ∙ ap (λ b. is.early ++ cond b (targets_in ghost_after ∷ begun_after actor (lone_events later) ghost_after) (begun_after actor (lone_events later) ghost_after)) end;
          noted = noted_on ideal after one.event one.found call is.early inner end is.noted;
        }
        of true end = record {
          early = is.early ++ targets_in ghost_after ∷ [];
          firsts =
              firsts_one ∙ ap (λ b. is.early ++ cond b (targets_in ghost_after ∷ begun_after actor (lone_events later) ghost_after) (begun_after actor (lone_events later) ghost_after)) end
              ∙ sym (append_assoc is.early (targets_in ghost_after ∷ []) (begun_after actor (lone_events later) ghost_after));
          noted = noted_end actor ideal one.event one.found call is.early (targets_in ghost_after) end same_one.targets is.noted;
        }

    -- in the turn
    holding_one : is_inner one.event ≡ true → not (is_end one.event) ≡ true → IsTurnOn who (lone_events later) → IsHolding guest actor after next call_after acts
    holding_one inner free turn =
        let has = has_more inner in
        record {
          seat = is.seat;
          part = is.part;
          todo = more;
          partly = goes.partly;
          operation = next_operation ideal after one.event one.found call ∙ is.operation;
          piece = piece_one;
          first = is.first;
          start = is.start;
          more = is.more;
          turned = is.turned;
          ghost = ghost_after;
          matches = λ matches. extend (Some one) e (subst (λ b. Matches guest.shape actor b next ghost_after more) (sym free) matches);
          leads = leads_one;
          same = same_one;
          tables = tables_one;
          holds = own_mark_kept actor one.event ideal (inner_no_mark one.event inner) ∙ is.holds;
          turn = turn;
          maps = next_maps ideal after one.event one.found call (inner_no_turn one.event inner) ∙ is.maps;
          early = has.early;
          firsts = has.firsts;
          noted = has.noted;
        }

    -- its end
    module _ (ends : one.event ≡ ItsEnd) (over : IsTrue (list_all (is_beside (vcpu_of guest.shape actor)) (lone_events later))) where
      full : Matches guest.shape actor true is.first is.start is.more
      full = extend (Some one) e (matches_none guest.shape actor more (held_after true (Some one)) next ghost_after (ap (λ event. not (is_end event)) ends))

      turned : IsTurnedCall guest actor is.seat is.part is.first is.start is.more
      turned = turned_call guest actor is.seat is.part is.first is.start is.more is.turned full

      none : AreForNone after.guest
      none =
          none_same ghost_after after same_one tables_one
          (none_back actor (lone_events later) ghost_after (all_pass is_steady beside_steady who (lone_events later) over) same_one.whole_one (subst (λ (i : Ideal). AreForNone i.guest) (sym leads_one) turned.none))

      maps_so : call_after.maps ≡ is.start.guest.tables
      maps_so = next_maps ideal after one.event one.found call (ap is_no_turn ends) ∙ is.maps

      firsts_end : firsts_from guest.shape actor is.first is.start is.more ≡ is.early
      firsts_end =
          firsts_one
          ∙ ap (λ xs. is.early ++ xs)
          (ap (λ event. begun_after actor (event ∷ lone_events later) is.ghost) ends ∙ begun_none actor (ItsEnd ∷ lone_events later) is.ghost (all_pass is_endless beside_endless who (lone_events later) over))
          ∙ append-nil is.early

      noted_so : HasNoted call_after is.early
      noted_so = noted_turn ideal after one.event one.found call is.early ends is.noted

      released : IsReleased guest actor next call_after acts
      released = record {
        seat = is.seat;
        part = is.part;
        todo = more;
        partly = goes.partly;
        operation = next_operation ideal after one.event one.found call ∙ is.operation;
        piece = piece_one;
        firsts = firsts_from guest.shape actor is.first is.start is.more;
        is_call = λ targets commands same.
            subst (λ m. IsCall guest.shape (record { maps = m; targets = targets; commands = commands; signals = false }) who is.part.operation (events_from guest.shape actor is.seat is.part.steps) is.part.answer) (sym maps_so)
            (turned.call targets commands same);
        beside = over;
        noted = subst (HasNoted call_after) (sym firsts_end) noted_so;
      }

    steps_one : IsHolding guest actor after next call_after acts ⊎ ((AreForNone after.guest) × IsReleased guest actor next call_after acts)
    steps_one = of turn.inner turn.split turn.within
      where
        turn : IsTurnOn (vcpu_of guest.shape actor) (one.event ∷ lone_events later)
        turn = subst (λ o. IsTurnOn who (lone_events (option_to_list o ++ later))) e turn_so

        of : (inner : List Event) → one.event ∷ lone_events later ≡ inner ++ (ItsEnd ∷ turn.late) → IsTrue (list_all is_inner inner)
            → IsHolding guest actor (happened actor one.event ideal) (next_seat guest.shape actor now made) (call_next ideal (happened actor one.event ideal) one.event one.found call) acts
            ⊎ ((AreForNone (happened actor one.event ideal).guest) × IsReleased guest actor (next_seat guest.shape actor now made) (call_next ideal (happened actor one.event ideal) one.event one.found call) acts)
        of [] split within =
            let ends = same_head one.event ItsEnd (lone_events later) turn.late split in
            let over = subst (λ es. IsTrue (list_all (is_beside who) es)) (sym (same_tail one.event ItsEnd (lone_events later) turn.late split)) turn.after in
            inr (none ends over, released ends over)
        of (event ∷ inner) split within =
            let parts = and_parts (is_inner event) (list_all is_inner inner) within in
            let mine : is_inner one.event ≡ true = ap is_inner (same_head one.event event (lone_events later) (inner ++ (ItsEnd ∷ turn.late)) split) ∙ parts.0 in
            inl (holding_one mine (inner_no_end one.event mine)
            (record { inner = inner; late = turn.late; split = same_tail one.event event (lone_events later) (inner ++ (ItsEnd ∷ turn.late)) split; within = parts.1; after = turn.after }))

  pub holding_makes : HoldingSteps guest actor ideal next call acts (stands guest.shape actor now made)
  holding_makes = of (stands guest.shape actor now made) refl
    where
      of : (o : Option Happened) → stands guest.shape actor now made ≡ o → HoldingSteps guest actor ideal (next_seat guest.shape actor now made) call acts o
      of None e = holding_none e
      of (Some one) e = steps_one one e

-- After the turn.

abbrev pub ReleasedSteps : IdealGuest → ℕ → Ideal → Seat → Call → List Act → Option Happened → Type 0
ReleasedSteps guest actor ideal next call acts None = IsReleased guest actor next call acts
ReleasedSteps guest actor ideal next call acts (Some one) = IsTrue (is_steady one.event) × IsReleased guest actor next (call_next ideal (happened actor one.event ideal) one.event one.found call) acts

pub released_makes : (guest : IdealGuest) (actor : ℕ) (ideal : Ideal) (now : Seat) (call : Call) (made : Made) (acts : List Act) → IsReleased guest actor now call (makes made ∷ acts)
    → ReleasedSteps guest actor ideal (next_seat guest.shape actor now made) call acts (stands guest.shape actor now made)
released_makes guest actor ideal now call made acts is = of (stands guest.shape actor now made) piece_so beside_so
  where
    goes : Makes guest actor now is.seat is.part made acts is.todo
    goes = partly_makes guest actor now is.seat is.part made acts is.todo is.partly

    later : List Happened
    later = events_from guest.shape actor (next_seat guest.shape actor now made) goes.more

    piece_so : events_from guest.shape actor is.seat is.part.steps ≡ call.piece ++ (option_to_list (stands guest.shape actor now made) ++ events_from guest.shape actor (next_seat guest.shape actor now made) goes.more)
    piece_so = subst (λ todo. events_from guest.shape actor is.seat is.part.steps ≡ call.piece ++ events_from guest.shape actor now todo) goes.todo_is is.piece

    beside_so : IsTrue (list_all (is_beside (vcpu_of guest.shape actor)) (lone_events (option_to_list (stands guest.shape actor now made) ++ events_from guest.shape actor (next_seat guest.shape actor now made) goes.more)))
    beside_so = subst (λ todo. IsTrue (list_all (is_beside (vcpu_of guest.shape actor)) (lone_events (events_from guest.shape actor now todo)))) goes.todo_is is.beside

    of : (o : Option Happened) → events_from guest.shape actor is.seat is.part.steps ≡ call.piece ++ (option_to_list o ++ events_from guest.shape actor (next_seat guest.shape actor now made) goes.more)
        → IsTrue (list_all (is_beside (vcpu_of guest.shape actor)) (lone_events (option_to_list o ++ events_from guest.shape actor (next_seat guest.shape actor now made) goes.more)))
        → ReleasedSteps guest actor ideal (next_seat guest.shape actor now made) call acts o
    of None piece beside = record { seat = is.seat; part = is.part; todo = goes.more; partly = goes.partly; operation = is.operation; piece = piece; firsts = is.firsts; is_call = is.is_call; beside = beside; noted = is.noted }
    of (Some one) piece beside =
        let who = vcpu_of guest.shape actor in
        let more = events_from guest.shape actor (next_seat guest.shape actor now made) goes.more in
        let parts = and_parts (is_beside who one.event) (list_all (is_beside who) (lone_events more)) beside in
        let after = happened actor one.event ideal in
        let inner = beside_inner who one.event parts.0 in
        let maps = next_maps ideal after one.event one.found call (inner_no_turn one.event inner) in (
          beside_steady who one.event parts.0,
          record {
            seat = is.seat;
            part = is.part;
            todo = goes.more;
            partly = goes.partly;
            operation = next_operation ideal after one.event one.found call ∙ is.operation;
            piece = piece ∙ sym (append_assoc call.piece (one ∷ []) more) ∙ ap (λ p. (p ++ one ∷ []) ++ more) (sym (noted_piece ideal one.event call));
            firsts = is.firsts;
            is_call = λ targets commands same.
                subst (λ m. IsCall guest.shape (record { maps = m; targets = targets; commands = commands; signals = false }) who is.part.operation (events_from guest.shape actor is.seat is.part.steps) is.part.answer) (sym maps)
                (is.is_call targets commands same);
            beside = parts.1;
            noted = noted_on ideal after one.event one.found call is.firsts inner (not_ending (is_ending one.event) (beside_endless who one.event parts.0)) is.noted;
          },
        )

-- Ends.

nothing_before : (xs : List Event) (y : Event) (ys : List Event) → [] ≡ xs ++ (y ∷ ys) → ⊥
nothing_before [] y ys e = cc
nothing_before (x ∷ xs) y ys e = cc

-- no part ends before its turn, or in it
pub before_ends_none : (guest : IdealGuest) (actor : ℕ) (ideal : Ideal) (now : Seat) (call : Call) (answer : Option ℕ) (acts : List Act) → IsBefore guest actor ideal now call (ends answer ∷ acts) → ⊥
before_ends_none guest actor ideal now call answer acts is =
    let over = partly_ends guest actor now is.seat is.part answer acts is.todo is.partly in
    nothing_before is.ahead.early ItsBegin (is.ahead.inner ++ (ItsEnd ∷ is.ahead.late)) (sym (ap (λ todo. lone_events (events_from guest.shape actor now todo)) over.todo_is) ∙ is.ahead.split)

pub holding_ends_none : (guest : IdealGuest) (actor : ℕ) (ideal : Ideal) (now : Seat) (call : Call) (answer : Option ℕ) (acts : List Act) → IsHolding guest actor ideal now call (ends answer ∷ acts) → ⊥
holding_ends_none guest actor ideal now call answer acts is =
    let over = partly_ends guest actor now is.seat is.part answer acts is.todo is.partly in
    nothing_before is.turn.inner ItsEnd is.turn.late (sym (ap (λ todo. lone_events (events_from guest.shape actor now todo)) over.todo_is) ∙ is.turn.split)

-- and after its turn it is its call
pub record ReleasedEnds (guest : IdealGuest) (actor : ℕ) (now : Seat) (call : Call) (answer : Option ℕ) (acts : List Act) : Type 0 where
  pub ended : IsEnded guest.shape actor call answer
  pub idle : IsIdle guest actor now acts

pub released_ends : (guest : IdealGuest) (actor : ℕ) (now : Seat) (call : Call) (answer : Option ℕ) (acts : List Act) → IsReleased guest actor now call (ends answer ∷ acts) → ReleasedEnds guest actor now call answer acts
released_ends guest actor now call answer acts is =
    let over = partly_ends guest actor now is.seat is.part answer acts is.todo is.partly in
    let beside : Beside = record { maps = call.maps; targets = λ id. (is.noted.some id).0; commands = call.commands; signals = false } in
    let who = vcpu_of guest.shape actor in
    record {
      ended = record {
        beside = beside;
        maps = refl;
        commands = refl;
        targets = λ id. (is.noted.some id).1;
        right = λ h. h;
        is_call =
            subst (λ op. IsCall guest.shape beside who op call.piece answer) (sym is.operation)
            (subst (λ xs. IsCall guest.shape beside who is.part.operation xs answer) (is.piece ∙ ap (λ todo. call.piece ++ events_from guest.shape actor now todo) over.todo_is ∙ append-nil call.piece)
            (subst (IsCall guest.shape beside who is.part.operation (events_from guest.shape actor is.seat is.part.steps)) (sym over.answer_is) (is.is_call (λ id. (is.noted.some id).0) call.commands is.noted.same)));
      };
      idle = over.idle;
    }
