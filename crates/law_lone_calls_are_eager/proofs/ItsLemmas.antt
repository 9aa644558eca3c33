-- A write of a register of the ITS that takes it, with the commands that it starts.
use Rattle.std.proofs.Common.{◌≡◌, ℕ, ◌++◌, ◌∷◌, not, Bool, true, false, cond, IsTrue, List, [], Option, Some, refl, sym, ap, ◌∙◌, subst}
use Rattle.std.specs.List.{list_all, list_any}
use Rattle.std.proofs.lemmas.Grind.{fold-append}
use Rattle.std.proofs.lemmas.Bool.{and_from, and_parts}
use Rattle.std.proofs.lemmas.List.{append_assoc}
use Rattle.std.proofs.lemmas.List.Folds.{list_all-append}
use Rattle.law_home_commutes.specs.Words.{Its, Mem, GuestShape}
use Rattle.law_home_commutes.specs.GicImap.Map.{decoded as its_decoded}
use Rattle.law_home_commutes.specs.GicImap.declared.map.RegRef.{RegRef as ItsRef}
use Rattle.law_home_commutes.specs.Calls.{Event, ItsBegin, Moment, Operation, Access, its_events, its_starts, takes_turn, Happened, is_beside, AreStarted, IsItsCall, its_places, its_written_by, HaveSameIts, View}
use Rattle.law_home_commutes.specs.GicCall.declared.event.Event.TheVariants.{ItsEnd}
use Rattle.law_home_commutes.proofs.GicCall.CallLemmas.{its_valid}
use Rattle.law_home_commutes.proofs.GicCall.TraceLemmas.{its_made}
use Rattle.law_home_commutes.specs.Histories.{IdealGuest, view_of, after_event, after_events, after_queued, IsQueueInOrder, IsSound, Call, begun, last_of, home, Ideal, happened, targets_in}
use Rattle.law_home_commutes.proofs.IdealGuests.KeyLemmas.{IsWhole}
use Rattle.law_eager_is_history.specs.GicIdeal.Deeds.{op_events}
use Rattle.law_eager_is_history.proofs.GicIdeal.StepLemmas.{op_is_events}
use Rattle.law_eager_is_history.proofs.CourseLemmas.{state_after, call_after, call_append}
use Rattle.law_eager_is_history.proofs.QueueLemmas.{events_known}
use Rattle.law_eager_is_history.proofs.TurnLemmas.{IsTurnPiece, register_piece}
use Rattle.law_eager_is_history.proofs.EventLemmas.{is_plain, shape_events}
use Rattle.law_eager_is_history.proofs.WindowLemmas.{is_no_turn, maps_after, next_call}
use Rattle.law_home_commutes.proofs.HomeLemmas.{home_rest, home_whole}
use Rattle.law_lone_calls_are_eager.specs.LoneCalls.{IsAtRest, lone_call, IsEagerCall}
use Rattle.law_lone_calls_are_eager.proofs.CommandLemmas.{marks_after, run_split, events_both}
use Rattle.law_lone_calls_are_eager.proofs.MapsLemmas.{keeps_maps, beside_maps, maps_taken}
use Rattle.law_lone_calls_are_eager.proofs.MomentLemmas.{target_at, keeps_for, beside_keeps_for, targets_after, is_between, commands_kept}
use Rattle.law_lone_calls_are_eager.proofs.NamedLemmas.{named_run}
use Rattle.law_lone_calls_are_eager.proofs.OneLemmas.{beside_between, all_beside, SplitAt, split_at, whole_after, follows_split, IsAt, HasTargets}
use Rattle.law_lone_calls_are_eager.proofs.PartLemmas.{IsMade}
use Rattle.law_lone_calls_are_eager.proofs.QueueLemmas.{queued_is, commands_done}
use Rattle.law_lone_calls_are_eager.proofs.ReadLemmas.{beside_passes, some_named}
use Rattle.law_lone_calls_are_eager.proofs.RunLemmas.{events_of, IsHomeRun, Follows, LoneRun}
use Rattle.law_lone_calls_are_eager.proofs.TurnLemmas.{its_all, IsRegistered, registered, no_turn_passes, sound_run}
use Rattle.law_lone_calls_are_eager.proofs.PassLemmas.{both_all, makes_all, started_all}

module _ (guest : IdealGuest) (moments : List Moment) (actor : ℕ) (piece : List Happened) (answer : Option ℕ) (offset size value : ℕ) where
  abbrev op : Operation
  op = Access (Mem Its offset size (Some value))

  abbrev ref : ItsRef
  ref = its_decoded offset size

  abbrev state : Ideal
  state = last_of guest moments

  abbrev before : IdealGuest
  before = home (last_of guest moments)

  abbrev open_call : Call
  open_call = begun (last_of guest moments) (Access (Mem Its offset size (Some value)))

  module _ (run : LoneRun guest moments actor (Access (Mem Its offset size (Some value))) piece answer) (vcpu : ℕ) (takes : takes_turn guest.shape (its_decoded offset size) (Some value) ≡ true) (is : IsItsCall guest.shape run.ended.beside vcpu offset size value piece answer)
      (rest : IsAtRest (home (last_of guest moments))) where
    abbrev shape : GuestShape
    shape = guest.shape

    abbrev mine : List Event
    mine = its_events guest.shape is.view (its_decoded offset size) (Some value)

    abbrev eager : List Event
    eager = its_events guest.shape (view_of before) (its_decoded offset size) (Some value)

    -- The pieces.

    abbrev late : List Happened
    late = is.commands ++ is.last

    split_is : piece ≡ is.register ++ (is.commands ++ is.last)
    split_is = is.split ∙ append_assoc is.register is.commands is.last

    pub events_are : events_of piece ≡ events_of is.register ++ (events_of is.commands ++ events_of is.last)
    events_are = ap events_of split_is ∙ events_both is.register (is.commands ++ is.last) ∙ ap (λ es. events_of is.register ++ es) (events_both is.commands is.last)

    runs : IsHomeRun false before is.register × IsHomeRun (marks_after is.register false) (after_events (events_of is.register) before) (is.commands ++ is.last)
    runs = run_split is.register (is.commands ++ is.last) false before (subst (IsHomeRun false before) split_is run.run)

    abbrev guest1 : IdealGuest
    guest1 = after_events (events_of is.register) before

    pub runs1 : IsHomeRun (marks_after is.register false) guest1 is.commands × IsHomeRun (marks_after is.commands (marks_after is.register false)) (after_events (events_of is.commands) guest1) is.last
    runs1 = run_split is.commands is.last (marks_after is.register false) guest1 runs.1

    abbrev guest2 : IdealGuest
    guest2 = after_events (events_of is.commands) guest1

    -- what all events of the register pass
    pub register_all : (test : Event → Bool) → ((actor : Option ℕ) (event : Event) → is_beside actor event ≡ true → test event ≡ true) → IsTrue (list_all test (ItsBegin ∷ mine)) → IsTrue (list_all test (events_of is.register))
    register_all test beside all = beside_passes test beside (Some vcpu) is.register (subst (λ es. IsTrue (list_all test es)) (sym (its_made is).events_are) all)

    keep_maps : IsTrue (list_all keeps_maps (events_of is.register))
    keep_maps = register_all keeps_maps beside_maps (its_all keeps_maps (λ word value. refl) (λ offset. refl) guest.shape is.view (its_decoded offset size) value)

    keep_targets : (id : ℕ) → IsTrue (list_all (keeps_for id) (events_of is.register))
    keep_targets id = register_all (keeps_for id) (beside_keeps_for id) (its_all (keeps_for id) (λ word value. refl) (λ offset. refl) guest.shape is.view (its_decoded offset size) value)

    -- The maps that the call took.

    pub maps_same : is.view.maps ≡ before.tables
    maps_same =
        is.maps ∙ run.ended.maps ∙ ap (λ es. (call_after actor es state open_call).maps) events_are
        ∙ ap (λ (c : Call). c.maps) (call_append actor (events_of is.register) (events_of is.commands ++ events_of is.last) state open_call)
        ∙ maps_after actor (events_of is.commands ++ events_of is.last) (state_after actor (events_of is.register) state) (call_after actor (events_of is.register) state open_call)
        (ap (list_all is_no_turn) (sym (events_both is.commands is.last))
        ∙ both_all is_no_turn no_turn_passes is.commands is.last
        (started_all is_no_turn no_turn_passes (its_starts guest.shape is.view (its_decoded offset size) (Some value)) (Some vcpu) guest.shape run.ended.beside (its_written_by guest.shape is.view mine) is.views is.commands is.started)
        (makes_all is_no_turn no_turn_passes (Some vcpu) is.view (ItsEnd ∷ []) [] [] is.last is.ended refl))
        ∙ maps_taken actor state.guest.tables (events_of is.register) state open_call refl keep_maps
        (some_named (λ event. not (is_no_turn event)) (Some vcpu) is.register (subst (λ es. list_any (λ event. not (is_no_turn event)) es ≡ true) (sym (its_made is).events_are) refl))
        ∙ ap (λ (g : IdealGuest). g.tables) (sym (home_rest state))

    -- The register.

    pub made_is : IsMade before (Some vcpu) is.view (ItsBegin ∷ mine) (its_places guest.shape (its_decoded offset size) (Some value)) is.register
    made_is = record { whole = home_whole state run.tidy.whole; run = runs.0; made = its_made is }

    guest1_is : guest1 ≡ after_events mine before
    guest1_is = (named_run false before (Some vcpu) is.register runs.0).goes ∙ ap (λ es. after_events es before) (its_made is).events_are

    last_still : after_events (events_of is.last) guest2 ≡ guest2
    last_still = (named_run (marks_after is.commands (marks_after is.register false)) guest2 (Some vcpu) is.last runs1.1).goes ∙ ap (λ es. after_events es guest2) is.ended.events_are

    piece_is : after_events (events_of piece) before ≡ guest2
    piece_is =
        ap (λ es. after_events es before) events_are ∙ fold-append after_event before (events_of is.register) (events_of is.commands ++ events_of is.last)
        ∙ fold-append after_event guest1 (events_of is.commands) (events_of is.last) ∙ last_still

    -- no commands
    none_started : (its : View) (views : List View) → AreStarted false (Some vcpu) guest.shape run.ended.beside its views is.commands → guest2 ≡ guest1
    none_started its views are = (named_run (marks_after is.register false) guest1 (Some vcpu) is.commands runs1.0).goes ∙ ap (λ es. after_events es guest1) are.events_are

    -- what the eager controller makes of it
    eager_is : after_events (op_events (Mem Its offset size (Some value)) before actor) before ≡ cond (its_starts guest.shape (view_of before) (its_decoded offset size) (Some value)) (after_queued (after_events eager before)) (after_events eager before)
    eager_is =
        op_is_events (Mem Its offset size (Some value)) before actor
        ∙ ap (λ s. cond (its_starts s (view_of before) (its_decoded offset size) (Some value)) (after_queued (after_events (its_events s (view_of before) (its_decoded offset size) (Some value)) before)) (after_events (its_events s (view_of before) (its_decoded offset size) (Some value)) before)) run.shape_is

    -- The commands.

    module _ (events_same : mine ≡ eager) where
      pub guest1_eager : guest1 ≡ after_events eager before
      guest1_eager = guest1_is ∙ ap (λ es. after_events es before) events_same

      pub sound1 : IsSound guest1
      sound1 = sound_run is.register false before runs.0 keep_maps rest.sound

      turn_piece : IsTurnPiece 0 0 before (its_events before.shape (view_of before) (its_decoded offset size) (Some value))
      turn_piece = register_piece 0 0 before rest.sound (its_decoded offset size) value

      order1 : IsQueueInOrder guest1
      order1 = subst IsQueueInOrder (ap (λ s. after_events (its_events s (view_of before) (its_decoded offset size) (Some value)) before) run.shape_is ∙ sym guest1_eager) (turn_piece.order rest.order)

      pub known1 : HaveSameIts is.view (view_of before) → HaveSameIts (its_written_by guest.shape is.view mine) (view_of guest1)
      known1 known =
          subst (λ es. HaveSameIts (its_written_by guest.shape is.view es) (view_of guest1)) (sym events_same)
          (subst (λ g. HaveSameIts (its_written_by guest.shape is.view eager) (view_of g)) (sym guest1_eager)
          (events_known true guest.shape eager before is.view run.shape_is rest.sound.words known (subst (λ s. IsTrue (list_all (is_plain true) (its_events s (view_of before) (its_decoded offset size) (Some value)))) run.shape_is turn_piece.plain)
          (its_valid guest.shape (view_of before) (its_decoded offset size) (Some value) (record { place = rest.sound.place; within = rest.sound.offset }))))

      -- the call as they begin
      abbrev call1 : Call
      call1 = call_after actor (events_of is.register) state open_call

      abbrev state1 : Ideal
      state1 = state_after actor (events_of is.register) state

      pub follow : Follows actor state before (events_of is.register) × Follows actor state1 guest1 (events_of is.commands ++ events_of is.last)
      follow = follows_split actor (events_of is.register) (events_of is.commands ++ events_of is.last) state before (subst (Follows actor state before) events_are run.follows)

      whole : IsWhole before
      whole = home_whole state run.tidy.whole

      -- before the ITS is taken, and after that
      cut : SplitAt (Some vcpu) ItsBegin is.written.begin
      cut = split_at (Some vcpu) ItsBegin is.written.begin is.written.begun.events_are

      abbrev early : List Event
      early = events_of cut.pre

      abbrev onwards : List Event
      onwards = events_of cut.post ++ events_of is.written.rest

      register_is : events_of is.register ≡ early ++ ItsBegin ∷ onwards
      register_is =
          ap events_of (is.written.split ∙ ap (λ xs. xs ++ is.written.rest) cut.split ∙ append_assoc cut.pre ((record { event = ItsBegin; found = cut.found }) ∷ cut.post) is.written.rest)
          ∙ events_both cut.pre ((record { event = ItsBegin; found = cut.found }) ∷ (cut.post ++ is.written.rest)) ∙ ap (λ es. early ++ ItsBegin ∷ es) (events_both cut.post is.written.rest)

      early_between : IsTrue (list_all is_between early)
      early_between = all_beside is_between beside_between (Some vcpu) cut.pre cut.pre_none

      onwards_between : IsTrue (list_all is_between onwards)
      onwards_between =
          list_all-append is_between (events_of cut.post) (events_of is.written.rest)
          ∙ and_from (list_all is_between (events_of cut.post)) (list_all is_between (events_of is.written.rest)) (all_beside is_between beside_between (Some vcpu) cut.post cut.post_none)
          (beside_passes is_between beside_between (Some vcpu) is.written.rest
          (subst (λ es. IsTrue (list_all is_between es)) (sym is.written.made.events_are) (its_all is_between (λ word value. refl) (λ offset. refl) guest.shape is.view (its_decoded offset size) value)))

      abbrev taking : Ideal
      taking = state_after actor early state

      abbrev held : IdealGuest
      held = after_events early before

      parts : Follows actor state before early × Follows actor taking held (ItsBegin ∷ onwards)
      parts = follows_split actor early (ItsBegin ∷ onwards) state before (subst (Follows actor state before) register_is follow.0)

      keep_onwards : (id : ℕ) → IsTrue (list_all (keeps_for id) onwards)
      keep_onwards id =
          (and_parts true (list_all (keeps_for id) onwards)
          (and_parts (list_all (keeps_for id) early) (list_all (keeps_for id) (ItsBegin ∷ onwards)) (sym (list_all-append (keeps_for id) early (ItsBegin ∷ onwards)) ∙ subst (λ es. IsTrue (list_all (keeps_for id) es)) register_is (keep_targets id))).1).1

      guest1_held : guest1 ≡ after_events onwards held
      guest1_held = ap (λ es. after_events es before) register_is ∙ fold-append after_event before early (ItsBegin ∷ onwards)

      pub at1 : IsAt guest1 call1 0
      at1 = record {
        earlier = [];
        noted = targets_in taking;
        commands =
            ap (λ es. (call_after actor es state open_call).commands) register_is ∙ ap (λ (c : Call). c.commands) (call_append actor early (ItsBegin ∷ onwards) state open_call)
            ∙ commands_kept actor onwards (happened actor ItsBegin taking) (next_call taking actor ItsBegin (call_after actor early state open_call)) onwards_between
            ∙ ap (λ xs. xs ++ targets_in taking ∷ []) (commands_kept actor early state open_call early_between);
        number_is = refl;
        now = λ id. parts.1.0 id ∙ sym (targets_after held id onwards (whole_after early before whole) (keep_onwards id)) ∙ ap (λ g. target_at g id) (sym guest1_held);
      }

      pub targets1 : HasTargets run.ended.beside (call_after actor (events_of is.commands ++ events_of is.last) state1 call1)
      targets1 =
          subst (HasTargets run.ended.beside) (ap (λ es. call_after actor es state open_call) events_are ∙ call_append actor (events_of is.register) (events_of is.commands ++ events_of is.last) state open_call)
          run.ended.commands

      some_started : HaveSameIts is.view (view_of before) → AreStarted true (Some vcpu) guest.shape run.ended.beside (its_written_by guest.shape is.view mine) is.views is.commands
          → guest2 ≡ after_queued guest1
      some_started known are =
          let done = commands_done guest.shape actor vcpu run.ended.beside is.views 0 (its_written_by guest.shape is.view mine) is.commands (events_of is.last) (marks_after is.register false) guest1 state1 call1 are sound1
          (ap (λ (g : IdealGuest). g.shape) guest1_eager ∙ shape_events eager before ∙ run.shape_is) (known1 known)
          at1 runs1.0
          (follows_split actor (events_of is.commands) (events_of is.last) state1 guest1 follow.1).0 targets1 in
          done.goes ∙ sym (queued_is done.count guest1 sound1 order1 done.all)

    -- The call.

    started_is : mine ≡ eager → (b : Bool) → its_starts guest.shape is.view (its_decoded offset size) (Some value) ≡ b
        → (its_starts guest.shape is.view (its_decoded offset size) (Some value) ≡ true → HaveSameIts is.view (view_of before))
        → AreStarted b (Some vcpu) guest.shape run.ended.beside (its_written_by guest.shape is.view mine) is.views is.commands → guest2 ≡ cond b (after_queued (after_events eager before)) (after_events eager before)
    started_is events_same true e known are = some_started events_same (known e) are ∙ ap after_queued (guest1_eager events_same)
    started_is events_same false e known are = none_started (its_written_by guest.shape is.view mine) is.views are ∙ guest1_eager events_same

    goes_so : IsRegistered guest.shape before (Some vcpu) is.view is.register value (its_decoded offset size)
        → guest2 ≡ cond (its_starts guest.shape (view_of before) (its_decoded offset size) (Some value)) (after_queued (after_events eager before)) (after_events eager before)
    goes_so so =
        started_is so.events (its_starts guest.shape is.view (its_decoded offset size) (Some value)) refl so.known is.started
        ∙ ap (λ b. cond b (after_queued (after_events eager before)) (after_events eager before)) so.starts

    pub its_call_passes : IsEagerCall actor (Access (Mem Its offset size (Some value))) answer before (home (last_of guest (moments ++ lone_call actor (Access (Mem Its offset size (Some value))) piece answer)))
    its_call_passes = record {
      goes = run.goes ∙ piece_is ∙ goes_so (registered guest.shape before (Some vcpu) is.view is.register value (its_decoded offset size) takes made_is maps_same) ∙ sym eager_is;
      answers = is.answers;
    }
