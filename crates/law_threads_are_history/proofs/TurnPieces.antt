-- The events of a call that takes the ITS to change it: what comes before its turn, in it and after it, and what they make of LPIs that the maps give no vCPU.
use Rattle.std.proofs.Common.{◌≡◌, ℕ, ◌+◌, not, Bool, true, false, cond, IsTrue, length, List, [], ◌∷◌, ◌++◌, Option, Some, refl, sym, ap, ◌∙◌, subst, slice_index_or}
use Rattle.std.specs.List.{list_all}
use Rattle.std.proofs.lemmas.Bool.{and_from, and_parts}
use Rattle.std.proofs.lemmas.List.{append_assoc, length-append}
use Rattle.std.proofs.Math.Seq.{get_or-append_seam}
use Rattle.law_found_parts_are_calls.specs.Histories.{AreForNone}
use Rattle.law_ends_agree.specs.Words.{GuestShape}
use Rattle.law_ends_agree.specs.GicImap.Map.{decoded as its_decoded}
use Rattle.law_ends_agree.specs.Calls.{Part, Clear, Map, Event, Enable, ItsBegin, Put, Done, Runs, Stalls, its_events, its_starts, command_parts, lpi_event, queue_event, AreCommands, AreStarted, ArePartsThen, Beside, Happened, IsCommand, IsItsCall, Makes, is_beside, its_written_by, left_by, named_of, View, words_read}
use Rattle.law_ends_agree.specs.GicCall.declared.command.Part.TheVariants.{Configure, Forget, Raise, Retarget}
use Rattle.law_ends_agree.specs.GicCall.declared.event.Event.TheVariants.{ItsEnd, Queue}
use Rattle.law_ends_agree.specs.Registers.{IsValid, has_target, Maps}
use Rattle.law_ends_agree.proofs.IdealGuests.KeyLemmas.{IsWhole}
use Rattle.law_ends_agree.specs.Histories.{Ideal, happened, targets_in}
use Rattle.law_found_parts_are_calls.proofs.GicCall.TraceLemmas.{its_made}
use Rattle.law_found_parts_are_calls.proofs.LawHistories.TurnSteps.{tables_after, tables_are}
use Rattle.law_runs_are_fresh.proofs.LawEagerIsHistory.CourseLemmas.{state_after, state_append}
use Rattle.law_runs_are_fresh.proofs.LawEagerIsHistory.WindowLemmas.{Targets, beside_of, no_target}
use Rattle.law_runs_are_fresh.proofs.LawLoneCallsAreEager.CommandLemmas.{events_both}
use Rattle.law_runs_are_fresh.proofs.LawLoneCallsAreEager.MapsLemmas.{beside_maps, keeps_maps, tables_kept}
use Rattle.law_runs_are_fresh.proofs.LawLoneCallsAreEager.OneLemmas.{all_beside, none_beside}
use Rattle.law_runs_are_fresh.proofs.LawLoneCallsAreEager.PassLemmas.{PassesBeside, started_all}
use Rattle.law_runs_are_fresh.proofs.LawLoneCallsAreEager.ReadLemmas.{beside_passes}
use Rattle.law_runs_are_fresh.proofs.LawLoneCallsAreEager.RunLemmas.{events_of}
use Rattle.law_runs_are_fresh.proofs.LawLoneCallsAreEager.TurnLemmas.{its_all}
use Rattle.law_found_parts_are_calls.proofs.BegunRuns.{beside_endless, begun_command, is_endless, same_head, same_tail, whole_events}
use Rattle.law_found_parts_are_calls.proofs.NoneRuns.{command_none}
use Rattle.law_found_parts_are_calls.proofs.SteadyLemmas.{beside_steady, is_steady, maps_steady, targets_steady}
use Rattle.law_found_parts_are_calls.proofs.WindowRuns.{begun_after, begun_past}

-- The first event that is named, and what is beside the named ones.

pub record FirstNamed (actor : Option ℕ) (event : Event) (named : List Event) (piece : List Happened) : Type 0 where
  pub early : List Event
  pub rest : List Happened
  pub split : events_of piece ≡ early ++ event ∷ events_of rest
  pub beside : IsTrue (list_all (is_beside actor) early)
  pub later : events_of (named_of actor rest) ≡ named

pub first_named : (actor : Option ℕ) (event : Event) (named : List Event) (piece : List Happened) → events_of (named_of actor piece) ≡ event ∷ named → FirstNamed actor event named piece
first_named actor event named [] are = absurd (cc)
first_named actor event named (one ∷ piece) are = of (is_beside actor one.event) refl are (first_named actor event named piece)
  where
    of : (b : Bool) → is_beside actor one.event ≡ b → events_of (cond (not b) (one ∷ named_of actor piece) (named_of actor piece)) ≡ event ∷ named → (events_of (named_of actor piece) ≡ event ∷ named → FirstNamed actor event named piece)
        → FirstNamed actor event named (one ∷ piece)
    of true e are later =
        let rest = later are in
        record { early = one.event ∷ rest.early; rest = rest.rest; split = ap (λ es. one.event ∷ es) rest.split; beside = and_from (is_beside actor one.event) (list_all (is_beside actor) rest.early) e rest.beside; later = rest.later }
    of false e are later = record {
      early = [];
      rest = piece;
      split = ap (λ x. x ∷ events_of piece) (same_head one.event event (events_of (named_of actor piece)) named are);
      beside = refl;
      later = same_tail one.event event (events_of (named_of actor piece)) named are;
    }

-- what each event passes that is beside
pub all_pass : (test : Event → Bool) → ((actor : Option ℕ) (event : Event) → is_beside actor event ≡ true → test event ≡ true) → (actor : Option ℕ) (events : List Event) → IsTrue (list_all (is_beside actor) events) → IsTrue (list_all test events)
all_pass test passes actor [] h = refl
all_pass test passes actor (event ∷ events) h =
    let parts = and_parts (is_beside actor event) (list_all (is_beside actor) events) h in
    and_from (test event) (list_all test events) (passes actor event parts.0) (all_pass test passes actor events parts.1)

all_both : (test : Event → Bool) (one other : List Event) → IsTrue (list_all test one) → IsTrue (list_all test other) → IsTrue (list_all test (one ++ other))
all_both test [] other h k = k
all_both test (event ∷ one) other h k =
    let parts = and_parts (test event) (list_all test one) h in and_from (test event) (list_all test (one ++ other)) parts.0 (all_both test one other parts.1 k)

-- Its turn.

-- an event that neither takes the ITS nor frees it, and stores no EnableLPIs
abbrev pub is_inner : Event → Bool
is_inner ItsBegin = false
is_inner ItsEnd = false
is_inner (Enable vcpu) = false
is_inner event = true

pub beside_inner : (actor : Option ℕ) (event : Event) → is_beside actor event ≡ true → is_inner event ≡ true
beside_inner actor ItsBegin h = absurd (cc)
beside_inner actor ItsEnd h = absurd (cc)
beside_inner actor (Enable vcpu) h = absurd (cc)
beside_inner actor event h = refl

inner_passes : PassesBeside is_inner
inner_passes = record { beside = beside_inner; raise = λ key. refl; touch = λ key touching. refl; queue = λ offset change. refl }

pub record IsTurnPiece (actor : Option ℕ) (events : List Event) : Type 0 where
  pub early : List Event
  pub inner : List Event
  pub late : List Event
  pub split : events ≡ early ++ (ItsBegin ∷ (inner ++ (ItsEnd ∷ late)))
  pub before : IsTrue (list_all (is_beside actor) early)
  pub within : IsTrue (list_all is_inner inner)
  pub after : IsTrue (list_all (is_beside actor) late)

-- a call, with its register, its commands and the end of its turn
module _ (shape : GuestShape) (beside : Beside) (vcpu offset size value : ℕ) (piece : List Happened) (answer : Option ℕ) (is : IsItsCall shape beside vcpu offset size value piece answer) where
  abbrev written : List Event
  written = its_events shape is.view (its_decoded offset size) (Some value)

  pub begin_of : FirstNamed (Some vcpu) ItsBegin (its_events shape is.view (its_decoded offset size) (Some value)) is.register
  begin_of = first_named (Some vcpu) ItsBegin written is.register (its_made is).events_are

  pub end_of : FirstNamed (Some vcpu) ItsEnd [] is.last
  end_of = first_named (Some vcpu) ItsEnd [] is.last is.ended.events_are

  abbrev pub inner_of : List Event
  inner_of = events_of begin_of.rest ++ (events_of is.commands ++ end_of.early)

  regrouped : (a b c d e : List Event) → ((a ++ b) ++ c) ++ (d ++ e) ≡ a ++ (b ++ (c ++ (d ++ e)))
  regrouped a b c d e = simp append_assoc

  pub split_of : events_of piece ≡ begin_of.early ++ (ItsBegin ∷ (inner_of ++ (ItsEnd ∷ events_of end_of.rest)))
  split_of =
      ap events_of is.split ∙ events_both (is.register ++ is.commands) is.last ∙ ap (λ es. es ++ events_of is.last) (events_both is.register is.commands)
      ∙ ap (λ es. (es ++ events_of is.commands) ++ events_of is.last) begin_of.split ∙ ap (λ es. ((begin_of.early ++ ItsBegin ∷ events_of begin_of.rest) ++ events_of is.commands) ++ es) end_of.split
      ∙ regrouped begin_of.early (ItsBegin ∷ events_of begin_of.rest) (events_of is.commands) end_of.early (ItsEnd ∷ events_of end_of.rest)
      ∙ ap (λ es. begin_of.early ++ (ItsBegin ∷ es)) (again (events_of begin_of.rest) (events_of is.commands) end_of.early (ItsEnd ∷ events_of end_of.rest))
    where
      again : (b c d e : List Event) → b ++ (c ++ (d ++ e)) ≡ (b ++ (c ++ d)) ++ e
      again b c d e = simp append_assoc

  rest_all : (test : Event → Bool) → ((actor : Option ℕ) (event : Event) → is_beside actor event ≡ true → test event ≡ true) → IsTrue (list_all test written) → IsTrue (list_all test (events_of begin_of.rest))
  rest_all test passes all = beside_passes test passes (Some vcpu) begin_of.rest (subst (λ es. IsTrue (list_all test es)) (sym begin_of.later) all)

  pub turn_piece : IsTurnPiece (Some vcpu) (events_of piece)
  turn_piece = record {
    early = begin_of.early;
    inner = inner_of;
    late = events_of end_of.rest;
    split = split_of;
    before = begin_of.beside;
    within =
        all_both is_inner (events_of begin_of.rest) (events_of is.commands ++ end_of.early) (rest_all is_inner beside_inner (its_all is_inner (λ word v. refl) (λ o. refl) shape is.view (its_decoded offset size) value))
        (all_both is_inner (events_of is.commands) end_of.early
        (started_all is_inner inner_passes (its_starts shape is.view (its_decoded offset size) (Some value)) (Some vcpu) shape beside (its_written_by shape is.view written) is.views is.commands is.started)
        (all_pass is_inner beside_inner (Some vcpu) end_of.early end_of.beside));
    after = none_beside (Some vcpu) end_of.rest end_of.later;
  }

-- The maps after a command.

abbrev tables_by : Maps → List Event → Maps
tables_by maps [] = maps
tables_by maps (event ∷ events) = tables_by (tables_after event maps) events

tables_along : (actor : ℕ) (events : List Event) (state : Ideal) → (state_after actor events state).guest.tables ≡ tables_by state.guest.tables events
tables_along actor [] state = refl
tables_along actor (event ∷ events) state = tables_along actor events (happened actor event state) ∙ ap (λ maps. tables_by maps events) (tables_are actor event state)

by_both : (one other : List Event) (maps : Maps) → tables_by maps (one ++ other) ≡ tables_by (tables_by maps one) other
by_both [] other maps = refl
by_both (event ∷ one) other maps = by_both one other (tables_after event maps)

by_kept : (events : List Event) (maps : Maps) → IsTrue (list_all keeps_maps events) → tables_by maps events ≡ maps
by_kept [] maps h = refl
by_kept (event ∷ events) maps h =
    let parts = and_parts (keeps_maps event) (list_all keeps_maps events) h in by_kept events (tables_after event maps) parts.1 ∙ tables_kept event maps parts.0

-- a piece with one event that is named
by_one : (actor : Option ℕ) (event : Event) (piece : List Happened) (maps : Maps) → events_of (named_of actor piece) ≡ event ∷ [] → tables_by maps (events_of piece) ≡ tables_after event maps
by_one actor event piece maps named =
    let first = first_named actor event [] piece named in
    ap (tables_by maps) first.split ∙ by_both first.early (event ∷ events_of first.rest) maps
    ∙ ap (λ m. tables_by (tables_after event m) (events_of first.rest)) (by_kept first.early maps (all_pass keeps_maps beside_maps actor first.early first.beside))
    ∙ by_kept (events_of first.rest) (tables_after event maps) (all_pass keeps_maps beside_maps actor (events_of first.rest) (none_beside actor first.rest first.later))

part_keeps : (shape : GuestShape) (view : View) (targets : ℕ → Option ℕ) (part : Part) (maps : Maps) → tables_after (lpi_event shape view targets part) maps ≡ maps
part_keeps shape view targets (Forget id) maps = refl
part_keeps shape view targets (Map id target) maps = refl
part_keeps shape view targets (Retarget id target) maps = refl
part_keeps shape view targets (Raise id) maps = refl
part_keeps shape view targets (Clear id) maps = refl
part_keeps shape view targets (Configure id) maps = refl

by_split : (piece own rest : List Happened) (maps : Maps) → piece ≡ own ++ rest → tables_by maps (events_of piece) ≡ tables_by (tables_by maps (events_of own)) (events_of rest)
by_split piece own rest maps split = ap (λ xs. tables_by maps (events_of xs)) split ∙ ap (tables_by maps) (events_both own rest) ∙ by_both (events_of own) (events_of rest) maps

module _ (actor : Option ℕ) (shape : GuestShape) (view : View) where
  by_parts : (parts : List Part) (words before piece : List Happened) (maps : Maps) → ArePartsThen actor shape view.targets words parts (λ after. Makes actor view (queue_event shape view ∷ []) [] [] after) before piece → tables_by maps (events_of piece) ≡ tables_after (queue_event shape view) maps
  by_parts [] words before piece maps are = by_one actor (queue_event shape view) piece maps are.events_are
  by_parts (part ∷ parts) words before piece maps are =
      by_split piece are.own are.rest maps are.split
      ∙ ap (λ m. tables_by m (events_of are.rest)) (by_one actor (lpi_event shape are.view view.targets part) are.own maps are.made.events_are ∙ part_keeps shape are.view view.targets part maps)
      ∙ by_parts parts words words are.rest maps are.later

  by_command : (piece : List Happened) (maps : Maps) → IsCommand actor shape view piece → tables_by maps (events_of piece) ≡ tables_after (queue_event shape view) maps
  by_command piece maps is =
      by_split piece is.fetch is.rest maps is.split
      ∙ ap (λ m. tables_by m (events_of is.rest)) (by_kept (events_of is.fetch) maps (all_pass keeps_maps beside_maps actor (events_of is.fetch) (none_beside actor is.fetch is.fetched.events_are)))
      ∙ by_parts (command_parts shape view) (words_read shape view) is.fetch is.rest maps is.done

left_maps : (shape : GuestShape) (view : View) (event : Event) → (left_by shape view event).maps ≡ tables_after event view.maps
left_maps shape view (Put word value) = refl
left_maps shape view (Queue offset Runs) = refl
left_maps shape view (Queue offset (Done words)) = refl
left_maps shape view (Queue offset (Stalls fault)) = refl
left_maps shape view event = refl

written_maps : (shape : GuestShape) (events : List Event) (view : View) → IsTrue (list_all keeps_maps events) → (its_written_by shape view events).maps ≡ view.maps
written_maps shape [] view h = refl
written_maps shape (event ∷ events) view h =
    let parts = and_parts (keeps_maps event) (list_all keeps_maps events) h in
    written_maps shape events (left_by shape view event) parts.1 ∙ left_maps shape view event ∙ tables_kept event view.maps parts.0

-- LPIs that the maps give no vCPU.

pub none_steady : (actor : ℕ) (events : List Event) (state : Ideal) → IsTrue (list_all is_steady events) → IsWhole state.guest → AreForNone state.guest → AreForNone (state_after actor events state).guest
none_steady actor events state steady whole none id lost =
    targets_steady actor events state id steady whole ∙ none id (ap (λ maps. has_target maps id) (sym (maps_steady actor events state steady)) ∙ lost)

-- valid maps all along some events
abbrev pub AreValid : GuestShape → ℕ → List Event → Ideal → Type 0
AreValid shape actor [] state = IsValid shape state.guest.tables
AreValid shape actor (event ∷ events) state = IsValid shape state.guest.tables × AreValid shape actor events (happened actor event state)

valid_now : (shape : GuestShape) (actor : ℕ) (events : List Event) (state : Ideal) → AreValid shape actor events state → IsValid shape state.guest.tables
valid_now shape actor [] state valid = valid
valid_now shape actor (event ∷ events) state valid = valid.0

valid_later : (shape : GuestShape) (actor : ℕ) (first next : List Event) (state : Ideal) → AreValid shape actor (first ++ next) state → AreValid shape actor next (state_after actor first state)
valid_later shape actor [] next state valid = valid
valid_later shape actor (event ∷ first) next state valid = valid_later shape actor first next (happened actor event state) valid.1

module _ (shape : GuestShape) (actor vcpu : ℕ) (maps : Maps) (firsts : List Targets) where
  commands_none :
      (views : List View) (number : ℕ) (its : View) (piece : List Happened) (after : List Event) (state : Ideal) (early : List Targets) (t : Targets) → AreCommands (Some vcpu) shape (beside_of maps firsts) number its views piece → its.maps ≡ state.guest.tables
      → IsWhole state.guest → AreValid shape actor (events_of piece ++ after) state → ((id : ℕ) → t id ≡ targets_in state id) → length early ≡ number → firsts ≡ early ++ t ∷ begun_after actor (events_of piece ++ after) state → AreForNone state.guest
      → AreForNone (state_after actor (events_of piece) state).guest
  commands_none [] number its piece after state early t are same whole valid now number_is firsts_are none = none_steady actor (events_of piece) state (all_beside is_steady beside_steady (Some vcpu) piece are.0.events_are) whole none
  commands_none (view ∷ views) number its piece after state early t are same whole valid now number_is firsts_are none =
      let events : events_of piece ≡ events_of are.own ++ events_of are.rest = ap events_of are.split ∙ events_both are.own are.rest in
      let later = events_of are.rest ++ after in
      let all : events_of piece ++ after ≡ events_of are.own ++ later = ap (λ es. es ++ after) events ∙ append_assoc (events_of are.own) (events_of are.rest) after in
      let rest = begun_after actor (events_of piece ++ after) state in
      let mine : view.targets ≡ t
      = are.targets_are ∙ ap (λ xs. slice_index_or xs number no_target) firsts_are ∙ ap (λ n. slice_index_or (early ++ t ∷ rest) n no_target) (sym number_is) ∙ get_or-append_seam early t rest no_target in
      let view_maps : view.maps ≡ state.guest.tables = sym are.same.maps ∙ same in
      let next = state_after actor (events_of are.own) state in
      let none_next = command_none actor (Some vcpu) shape view are.own state are.command view_maps (λ id. ap (λ (f : Targets). f id) mine ∙ now id) (valid_now shape actor (events_of piece ++ after) state valid) whole none in
      let begun_here = begun_command actor (Some vcpu) shape view are.own later state are.command whole in
      let left : (left_by shape view (queue_event shape view)).maps ≡ next.guest.tables
      = left_maps shape view (queue_event shape view) ∙ ap (tables_after (queue_event shape view)) view_maps ∙ sym (by_command (Some vcpu) shape view are.own state.guest.tables are.command) ∙ sym (tables_along actor (events_of are.own) state) in
      let done = commands_none views (number + 1) (left_by shape view (queue_event shape view)) are.rest after next (early ++ t ∷ []) begun_here.first are.later left (whole_events actor (events_of are.own) state whole)
      (valid_later shape actor (events_of are.own) later state (subst (λ es. AreValid shape actor es state) all valid)) begun_here.same (length-append early (t ∷ []) ∙ ap (λ n. n + 1) number_is)
      (firsts_are ∙ ap (λ xs. early ++ t ∷ xs) (ap (λ es. begun_after actor es state) all ∙ begun_here.is) ∙ sym (append_assoc early (t ∷ []) (begun_here.first ∷ begun_after actor later next))) none_next in
      subst (λ (s : Ideal). AreForNone s.guest) (sym (ap (λ es. state_after actor es state) events ∙ state_append actor (events_of are.own) (events_of are.rest) state)) done

-- the same beginning of two lists, up to where the ITS is taken
same_turn : (actor : Option ℕ) (one other after later : List Event) → IsTrue (list_all (is_beside actor) one) → IsTrue (list_all (is_beside actor) other) → one ++ (ItsBegin ∷ after) ≡ other ++ (ItsBegin ∷ later) → after ≡ later
same_turn actor [] [] after later h k e = same_tail ItsBegin ItsBegin after later e
same_turn actor [] (event ∷ other) after later h k e =
    let parts = and_parts (is_beside actor event) (list_all (is_beside actor) other) k in
    absurd (let no = ap (is_beside actor) (same_head ItsBegin event after (other ++ (ItsBegin ∷ later)) e) ∙ parts.0 in cc)
same_turn actor (event ∷ one) [] after later h k e =
    let parts = and_parts (is_beside actor event) (list_all (is_beside actor) one) h in
    absurd (let no = sym parts.0 ∙ ap (is_beside actor) (same_head event ItsBegin (one ++ (ItsBegin ∷ after)) later e) in cc)
same_turn actor (event ∷ one) (event' ∷ other) after later h k e =
    same_turn actor one other after later (and_parts (is_beside actor event) (list_all (is_beside actor) one) h).1 (and_parts (is_beside actor event') (list_all (is_beside actor) other) k).1
    (same_tail event event' (one ++ (ItsBegin ∷ after)) (other ++ (ItsBegin ∷ later)) e)

-- A call that goes by the vCPUs that the LPIs are for as each of its commands begins, from where it took the ITS.
module _ (shape : GuestShape) (actor vcpu offset size value : ℕ) (piece : List Happened) (answer : Option ℕ) (maps : Maps) (firsts : List Targets) (is : IsItsCall shape (beside_of maps firsts) vcpu offset size value piece answer) where
  abbrev first : FirstNamed (Some vcpu) ItsBegin (its_events shape is.view (its_decoded offset size) (Some value)) is.register
  first = begin_of shape (beside_of maps firsts) vcpu offset size value piece answer is

  abbrev last : FirstNamed (Some vcpu) ItsEnd [] is.last
  last = end_of shape (beside_of maps firsts) vcpu offset size value piece answer is

  abbrev mine : List Event
  mine = its_events shape is.view (its_decoded offset size) (Some value)

  register_all : (test : Event → Bool) → ((actor : Option ℕ) (event : Event) → is_beside actor event ≡ true → test event ≡ true) → IsTrue (list_all test mine) → IsTrue (list_all test (events_of first.rest))
  register_all test passes all = beside_passes test passes (Some vcpu) first.rest (subst (λ es. IsTrue (list_all test es)) (sym first.later) all)

  register_steady : IsTrue (list_all is_steady (events_of first.rest))
  register_steady = register_all is_steady beside_steady (its_all is_steady (λ word v. refl) (λ o. refl) shape is.view (its_decoded offset size) value)

  register_endless : IsTrue (list_all is_endless (events_of first.rest))
  register_endless = register_all is_endless beside_endless (its_all is_endless (λ word v. refl) (λ o. refl) shape is.view (its_decoded offset size) value)

  end_steady : IsTrue (list_all is_steady (last.early ++ (ItsEnd ∷ events_of last.rest)))
  end_steady =
      all_both is_steady last.early (ItsEnd ∷ events_of last.rest) (all_pass is_steady beside_steady (Some vcpu) last.early last.beside)
      (all_pass is_steady beside_steady (Some vcpu) (events_of last.rest) (none_beside (Some vcpu) last.rest last.later))

  module _ (start : Ideal) (early after : List Event) (split : events_of piece ≡ early ++ (ItsBegin ∷ after)) (before : IsTrue (list_all (is_beside (Some vcpu)) early)) (whole : IsWhole start.guest) (valid : AreValid shape actor after start)
      (maps_are : maps ≡ start.guest.tables) (firsts_are : firsts ≡ targets_in start ∷ begun_after actor after start) (none : AreForNone start.guest) where
    after_is : after ≡ events_of first.rest ++ (events_of is.commands ++ (last.early ++ (ItsEnd ∷ events_of last.rest)))
    after_is =
        same_turn (Some vcpu) early first.early after (inner_of shape (beside_of maps firsts) vcpu offset size value piece answer is ++ (ItsEnd ∷ events_of last.rest)) before first.beside
        (sym split ∙ split_of shape (beside_of maps firsts) vcpu offset size value piece answer is)
        ∙ again (events_of first.rest) (events_of is.commands) last.early (ItsEnd ∷ events_of last.rest)
      where
        again : (b c d e : List Event) → (b ++ (c ++ d)) ++ e ≡ b ++ (c ++ (d ++ e))
        again b c d e = simp append_assoc

    abbrev tail : List Event
    tail = last.early ++ (ItsEnd ∷ events_of last.rest)

    abbrev state1 : Ideal
    state1 = state_after actor (events_of first.rest) start

    whole1 : IsWhole state1.guest
    whole1 = whole_events actor (events_of first.rest) start whole

    none1 : AreForNone state1.guest
    none1 = none_steady actor (events_of first.rest) start register_steady whole none

    valid1 : AreValid shape actor (events_of is.commands ++ tail) state1
    valid1 = valid_later shape actor (events_of first.rest) (events_of is.commands ++ tail) start (subst (λ es. AreValid shape actor es start) after_is valid)

    started_none : (b : Bool) → AreStarted b (Some vcpu) shape (beside_of maps firsts) (its_written_by shape is.view mine) is.views is.commands → AreForNone (state_after actor (events_of is.commands) state1).guest
    started_none false are = none_steady actor (events_of is.commands) state1 (all_beside is_steady beside_steady (Some vcpu) is.commands are.events_are) whole1 none1
    started_none true are =
        commands_none shape actor vcpu maps firsts is.views 0 (its_written_by shape is.view mine) is.commands tail state1 [] (targets_in start) are
        (written_maps shape mine is.view (its_all keeps_maps (λ word v. refl) (λ o. refl) shape is.view (its_decoded offset size) value) ∙ is.maps ∙ maps_are ∙ sym (maps_steady actor (events_of first.rest) start register_steady)) whole1 valid1
        (λ id. sym (targets_steady actor (events_of first.rest) start id register_steady whole)) refl
        (firsts_are ∙ ap (λ xs. targets_in start ∷ xs) (ap (λ es. begun_after actor es start) after_is ∙ begun_past actor (events_of first.rest) (events_of is.commands ++ tail) start register_endless)) none1

    pub turn_none : AreForNone (state_after actor after start).guest
    turn_none =
        subst (λ (s : Ideal). AreForNone s.guest)
        (sym
        (ap (λ es. state_after actor es start) after_is ∙ state_append actor (events_of first.rest) (events_of is.commands ++ tail) start ∙ state_append actor (events_of is.commands) tail state1))
        (none_steady actor tail (state_after actor (events_of is.commands) state1) end_steady (whole_events actor (events_of is.commands) state1 whole1)
        (started_none (its_starts shape is.view (its_decoded offset size) (Some value)) is.started))
