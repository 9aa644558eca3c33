-- The commands of the ITS in a turn of an actor, one after the other.
use Rattle.std.proofs.Common.{◌≡◌, ℕ, ◌+◌, zero, suc, Bool, true, false, not, cond, IsTrue, ◌⊎◌, inl, inr, All, List, [], ◌∷◌, ◌++◌, map, replicate, length, Option, Some, None, refl, sym, ap, ◌∙◌, subst, slice_index_or, arith}
use Rattle.std.specs.List.{list_all, flat_map}
use Rattle.std.specs.Option.{option_map_or}
use Rattle.std.proofs.lemmas.Bool.{and_from}
use Rattle.std.proofs.lemmas.List.{append_assoc, append-nil, map-append}
use Rattle.std.proofs.lemmas.List.Elements.{All-head, All-tail}
use Rattle.std.proofs.lemmas.Grind.{fold-append}
use Rattle.floor_histories.specs.Words.{GuestShape, Irq}
use Rattle.floor_histories.specs.Calls.{plain_count, Part, Map, Clear, Event, Place, Done, Stalls, lpi_event, command_parts, command_words, command_events, queue_event, next_offset, takes_command, Happened, Beside, HandsOut, Makes, ArePartsThen, IsCommand, AreCommands, HaveSameIts, left_by, byte_places, command_places, CanHappen, HappensFreely, View, ItsCtlr, Cbaser, Cwriter, EndsWith, IsLastRead, held_at, words_read, command_targets}
use Rattle.floor_histories.specs.ItsCmd.Command.{decoded}
use Rattle.floor_histories.specs.Registers.{fault_number}
use Rattle.floor_histories.specs.GicCall.declared.command.Part.TheVariants.{Forget, Retarget, Raise, Configure}
use Rattle.floor_histories.specs.GicCall.declared.event.Event.TheVariants.{Read, Queue}
use Rattle.floor_histories.proofs.GicCall.CommandLemmas.{IsDone, command_valid, queue_valid}
use Rattle.floor_histories.specs.Histories.{IdealGuest, view_of, word_at, after_event, after_events, after_command, after_commands, IsSound, Ideal, handed_out, happened, Call, targets_in}
use Rattle.floor_histories.proofs.IdealGuests.QueueLemmas.{kept_parts}
use Rattle.gic_ideal.proofs.EffectLemmas.{shape_event}
use Rattle.gic_ideal.proofs.SoundEvents.{sound_events}
use Rattle.gic_ideal.proofs.StepLemmas.{command_follows}
use Rattle.law_eager_is_history.specs.Moments.{reads, part_made, command_made, commands_made, happenings}
use Rattle.law_eager_is_history.proofs.CourseLemmas.{state_after, state_append, IsFine, AreFine, fine_append, happenings_append, call_after, call_append}
use Rattle.law_eager_is_history.proofs.FreshLemmas.{is_no_access}
use Rattle.law_eager_is_history.proofs.WindowLemmas.{Targets, no_target, AreWindows, next_call, is_within, is_no_turn, windows_after, windows_done, windows_stalled}
use Rattle.floor_histories.proofs.GicCall.ReadLemmas.{read_of, all_read, all_early, all_late}
use Rattle.law_eager_is_history.proofs.ReadLemmas.{is_own, reads_state, reads_happen, reads_fine, piece_makes, own_named, no_read}
use Rattle.law_eager_is_history.proofs.EventLemmas.{is_plain, IsQuiet, plain_happens, plain_fine, free_can, all_of, shape_events, none_at}
use Rattle.law_eager_is_history.proofs.PlaceLemmas.{ArePlaces, byte_there, command_there}
use Rattle.law_eager_is_history.proofs.CallLemmas.{fine_view, reads_all}
use Rattle.law_eager_is_history.proofs.QueueLemmas.{done_known, stalled_known, takes_known}

-- a turn of an actor, where nothing stands at an interface
abbrev pub turn : ℕ → ℕ → IdealGuest → Ideal
turn n actor guest = record { guest = guest; at = replicate n []; spreads = None; has_its = Some actor }

pub turn_quiet : (n actor : ℕ) (guest : IdealGuest) → IsQuiet (turn n actor guest) actor true
turn_quiet n actor guest = record { home = λ key. ap not (none_at key n); its = λ e. refl }

-- Parts.

part_plain : (shape : GuestShape) (view : View) (targets : Targets) (part : Part) → IsTrue (is_plain true (lpi_event shape view targets part))
part_plain shape view targets (Forget id) = refl
part_plain shape view targets (Map id target) = refl
part_plain shape view targets (Retarget id target) = refl
part_plain shape view targets (Raise id) = refl
part_plain shape view targets (Clear id) = refl
part_plain shape view targets (Configure id) = refl

-- what holds of each touch and each raise of an LPI holds of a part
record IsPartEvent (event : Event) : Type 0 where
  pub no_access : IsTrue (is_no_access event)
  pub within : IsTrue (is_within event)
  pub no_turn : IsTrue (is_no_turn event)
  pub own : IsTrue (is_own event)

part_event : (shape : GuestShape) (view : View) (targets : Targets) (part : Part) → IsPartEvent (lpi_event shape view targets part)
part_event shape view targets (Forget id) = record { no_access = refl; within = refl; no_turn = refl; own = refl }
part_event shape view targets (Map id target) = record { no_access = refl; within = refl; no_turn = refl; own = refl }
part_event shape view targets (Retarget id target) = record { no_access = refl; within = refl; no_turn = refl; own = refl }
part_event shape view targets (Raise id) = record { no_access = refl; within = refl; no_turn = refl; own = refl }
part_event shape view targets (Clear id) = record { no_access = refl; within = refl; no_turn = refl; own = refl }
part_event shape view targets (Configure id) = record { no_access = refl; within = refl; no_turn = refl; own = refl }

part_hands : (shape : GuestShape) (view : View) (targets : Targets) (part : Part) (n actor : ℕ) (guest : IdealGuest) → HandsOut (view_of guest) (lpi_event shape view targets part) (handed_out (turn n actor guest) (lpi_event shape view targets part))
part_hands shape view targets (Forget id) n actor guest = refl
part_hands shape view targets (Map id target) n actor guest = refl
part_hands shape view targets (Retarget id target) n actor guest = refl
part_hands shape view targets (Raise id) n actor guest = refl
part_hands shape view targets (Clear id) n actor guest = refl
part_hands shape view targets (Configure id) n actor guest = refl

-- a part changes records alone
abbrev irqs_after : IdealGuest → Event → List Irq
irqs_after guest event = (after_event guest event).irqs

part_changes : (guest : IdealGuest) (irqs : List Irq) (targets : Targets) (part : Part)
    → after_event (record guest { irqs = irqs }) (lpi_event guest.shape (view_of guest) targets part) ≡ record guest { irqs = irqs_after (record guest { irqs = irqs }) (lpi_event guest.shape (view_of guest) targets part) }
part_changes guest irqs targets (Forget id) = refl
part_changes guest irqs targets (Map id target) = refl
part_changes guest irqs targets (Retarget id target) = refl
part_changes guest irqs targets (Raise id) = refl
part_changes guest irqs targets (Clear id) = refl
part_changes guest irqs targets (Configure id) = refl

-- so the parts after it read and do the same
part_same : (guest : IdealGuest) (irqs : List Irq) (targets : Targets) (part : Part) → lpi_event guest.shape (view_of (record guest { irqs = irqs })) targets part ≡ lpi_event guest.shape (view_of guest) targets part
part_same guest irqs targets (Forget id) = refl
part_same guest irqs targets (Map id target) = refl
part_same guest irqs targets (Retarget id target) = refl
part_same guest irqs targets (Raise id) = refl
part_same guest irqs targets (Clear id) = refl
part_same guest irqs targets (Configure id) = refl

places_same : (guest : IdealGuest) (irqs : List Irq) (targets : Targets) (part : Part) → byte_places guest.shape (view_of (record guest { irqs = irqs })) targets part ≡ byte_places guest.shape (view_of guest) targets part
places_same guest irqs targets (Forget id) = refl
places_same guest irqs targets (Map id target) = refl
places_same guest irqs targets (Retarget id target) = refl
places_same guest irqs targets (Raise id) = refl
places_same guest irqs targets (Clear id) = refl
places_same guest irqs targets (Configure id) = refl

-- tests of all events of the parts
parts_all : (test : Event → Bool) (shape : GuestShape) (view : View) (parts : List Part) → ((place : Place) → IsTrue (test (Read place))) → ((part : Part) → IsTrue (test (lpi_event shape view view.targets part))) → IsTrue (list_all test (flat_map (part_made shape view) parts))
parts_all test shape view [] read made = refl
parts_all test shape view (part ∷ parts) read made =
    all_of test (part_made shape view part) (flat_map (part_made shape view) parts)
    (all_of test (reads (byte_places shape view view.targets part)) (lpi_event shape view view.targets part ∷ []) (reads_all test (byte_places shape view view.targets part) read) (and_from (test (lpi_event shape view view.targets part)) true (made part) refl))
    (parts_all test shape view parts read made)

-- The command that comes next.

module _ (n actor : ℕ) (guest : IdealGuest) (sound : IsSound guest) where
  abbrev view : View
  view = view_of guest

  abbrev shape : GuestShape
  shape = guest.shape

  -- one part more
  part_state : (part : Part) (other : IdealGuest) → state_after actor (part_made guest.shape (view_of guest) part) (turn n actor other) ≡ turn n actor (after_event other (lpi_event guest.shape (view_of guest) (view_of guest).targets part))
  part_state part other =
      let event = lpi_event guest.shape (view_of guest) (view_of guest).targets part in
      let places = byte_places guest.shape (view_of guest) (view_of guest).targets part in
      state_append actor (reads places) (event ∷ []) (turn n actor other) ∙ ap (happened actor event) (reads_state actor places (turn n actor other))
      ∙ plain_happens true actor event (turn n actor other) other (part_plain guest.shape (view_of guest) (view_of guest).targets part)

  parts_state : (parts : List Part) (other : IdealGuest) → state_after actor (flat_map (part_made guest.shape (view_of guest)) parts) (turn n actor other) ≡ turn n actor (after_events (map (lpi_event guest.shape (view_of guest) (view_of guest).targets) parts) other)
  parts_state [] other = refl
  parts_state (part ∷ parts) other =
      state_append actor (part_made guest.shape (view_of guest) part) (flat_map (part_made guest.shape (view_of guest)) parts) (turn n actor other)
      ∙ ap (state_after actor (flat_map (part_made guest.shape (view_of guest)) parts)) (part_state part other)
      ∙ parts_state parts (after_event other (lpi_event guest.shape (view_of guest) (view_of guest).targets part))

  parts_fine : (parts : List Part) (other : IdealGuest) → other.shape ≡ guest.shape → All (HappensFreely guest.shape) (map (lpi_event guest.shape (view_of guest) (view_of guest).targets) parts) → AreFine actor (turn n actor other) (flat_map (part_made guest.shape (view_of guest)) parts)
  parts_fine [] other same can = tt
  parts_fine (part ∷ parts) other same can =
      let event = lpi_event guest.shape (view_of guest) (view_of guest).targets part in
      let places = byte_places guest.shape (view_of guest) (view_of guest).targets part in
      let rest = map (lpi_event guest.shape (view_of guest) (view_of guest).targets) parts in
      let first : HappensFreely guest.shape event = All-head (HappensFreely guest.shape) event rest can in
      let read : AreFine actor (turn n actor other) (reads places) = reads_fine actor places (turn n actor other) (subst (λ s. ArePlaces s places) (sym same) (byte_there guest (view_of guest) part sound first)) in
      let one : IsFine actor (turn n actor other) event = plain_fine true actor event (turn n actor other) other (turn_quiet n actor other) (part_plain guest.shape (view_of guest) (view_of guest).targets part) (subst (λ s. CanHappen s event) (sym same) (free_can guest.shape event first)) in
      fine_append actor (part_made guest.shape (view_of guest) part) (flat_map (part_made guest.shape (view_of guest)) parts) (turn n actor other)
      (fine_append actor (reads places) (event ∷ []) (turn n actor other) read (subst (λ s. AreFine actor s (event ∷ [])) (sym (reads_state actor places (turn n actor other))) (one, tt)))
      (subst (λ s. AreFine actor s (flat_map (part_made guest.shape (view_of guest)) parts)) (sym (part_state part other))
      (parts_fine parts (after_event other event) (shape_event event other ∙ same) (All-tail (HappensFreely guest.shape) event rest can)))

  -- the parts are parts of the command, after the first
  parts_then :
      (words : List Happened) (Rest : List Happened → Type 0) (last : List Event) → ((irqs : List Irq) → Rest (happenings actor last (turn n actor (record guest { irqs = irqs }))))
      → (parts : List Part) (irqs : List Irq)
      → ArePartsThen (Some actor) guest.shape (view_of guest).targets words parts Rest words (happenings actor (flat_map (part_made guest.shape (view_of guest)) parts ++ last) (turn n actor (record guest { irqs = irqs })))
  parts_then words Rest last ends [] irqs = ends irqs
  parts_then words Rest last ends (part ∷ parts) irqs =
      let targets = (view_of guest).targets in
      let now : IdealGuest = record guest { irqs = irqs } in
      let event = lpi_event guest.shape (view_of guest) targets part in
      let places = byte_places guest.shape (view_of guest) targets part in
      let mine = part_made guest.shape (view_of guest) part in
      let others = flat_map (part_made guest.shape (view_of guest)) parts in
      let state = turn n actor now in
      let own : List Happened = map (read_of (view_of now)) places ++ happenings actor (event ∷ []) state in
      let next = irqs_after now event in
      let after : state_after actor mine state ≡ turn n actor (record guest { irqs = next }) = part_state part now ∙ ap (turn n actor) (part_changes guest irqs targets part) in
      let made : happenings actor mine state ≡ own =
      happenings_append actor (reads places) (event ∷ []) state ∙ ap (λ xs. xs ++ happenings actor (event ∷ []) (state_after actor (reads places) state)) (reads_happen actor places state)
      ∙ ap (λ s. map (read_of (view_of now)) places ++ happenings actor (event ∷ []) s) (reads_state actor places state) in
      let makes : Makes (Some actor) (view_of now) (event ∷ []) places words own =
      piece_makes (Some actor) actor (view_of now) places (event ∷ []) state words (and_from (is_own event) true (part_event guest.shape (view_of guest) targets part).own refl) (part_hands guest.shape (view_of guest) targets part n actor now, tt) in
      let over : EndsWith event own = record { before = map (read_of (view_of now)) places; found = handed_out state event; split = refl } in
      record {
        view = view_of now;
        own = own;
        rest = happenings actor (others ++ last) (turn n actor (record guest { irqs = next }));
        split = ap (λ es. happenings actor es state) (append_assoc mine others last) ∙ happenings_append actor mine (others ++ last) state ∙ ap (λ xs. xs ++ happenings actor (others ++ last) (state_after actor mine state)) made
            ∙ ap (λ s. own ++ happenings actor (others ++ last) s) after;
        made = subst (λ e. Makes (Some actor) (view_of now) (e ∷ []) (byte_places guest.shape (view_of now) targets part) words own) (sym (part_same guest irqs targets part))
            (subst (λ ps. Makes (Some actor) (view_of now) (event ∷ []) ps words own) (sym (places_same guest irqs targets part)) makes);
        ends = subst (λ e. EndsWith e own) (sym (part_same guest irqs targets part)) over;
        later = parts_then words Rest last ends parts next;
      }

  -- the event with which the queue goes on
  queue_as : (P : Event → Type 0) → ((fault : ℕ) → P (Queue (view_of guest).offset (Stalls fault))) → P (Queue (next_offset (view_of guest)) (Done (command_words guest.shape (view_of guest)))) → P (queue_event guest.shape (view_of guest))
  queue_as P stalls done = of (fault_number guest.shape (view_of guest).maps (decoded (command_words guest.shape (view_of guest))))
    where
      of : (o : Option ℕ) → P (option_map_or (λ fault. Queue (view_of guest).offset (Stalls fault)) o (Queue (next_offset (view_of guest)) (Done (command_words guest.shape (view_of guest)))))
      of None = done
      of (Some fault) = stalls fault

  queue_can : CanHappen guest.shape (queue_event guest.shape (view_of guest))
  queue_can = of (queue_valid guest.shape (view_of guest) (fine_view guest sound).offset)
    where
      of : HappensFreely guest.shape (queue_event guest.shape (view_of guest)) ⊎ IsDone guest.shape (view_of guest) → CanHappen guest.shape (queue_event guest.shape (view_of guest))
      of (inl free) = free_can guest.shape (queue_event guest.shape (view_of guest)) free
      of (inr done) = subst (CanHappen guest.shape) (sym done.is) done.next

  -- The whole command.

  command_parts_of : List Event
  command_parts_of = flat_map (part_made guest.shape (view_of guest)) (command_parts guest.shape (view_of guest))

  abbrev free : All (HappensFreely guest.shape) (map (lpi_event guest.shape (view_of guest) (view_of guest).targets) (command_parts guest.shape (view_of guest)))
  free = command_valid guest.shape (view_of guest) sound.maps

  before_end : state_after actor (reads (command_places guest.shape (view_of guest)) ++ flat_map (part_made guest.shape (view_of guest)) (command_parts guest.shape (view_of guest))) (turn n actor guest)
      ≡ turn n actor (after_events (map (lpi_event guest.shape (view_of guest) (view_of guest).targets) (command_parts guest.shape (view_of guest))) guest)
  before_end =
      let places = command_places guest.shape (view_of guest) in
      let parts = command_parts guest.shape (view_of guest) in
      state_append actor (reads places) (flat_map (part_made guest.shape (view_of guest)) parts) (turn n actor guest)
      ∙ ap (state_after actor (flat_map (part_made guest.shape (view_of guest)) parts)) (reads_state actor places (turn n actor guest))
      ∙ parts_state parts guest

  queue_plain : IsTrue (is_plain true (queue_event guest.shape (view_of guest)))
  queue_plain = queue_as (λ e. IsTrue (is_plain true e)) (λ fault. refl) refl

  pub command_state : state_after actor (command_made guest.shape (view_of guest)) (turn n actor guest) ≡ turn n actor (after_command guest)
  command_state =
      let event = queue_event guest.shape (view_of guest) in
      let first = reads (command_places guest.shape (view_of guest)) ++ flat_map (part_made guest.shape (view_of guest)) (command_parts guest.shape (view_of guest)) in
      let parts = map (lpi_event guest.shape (view_of guest) (view_of guest).targets) (command_parts guest.shape (view_of guest)) in
      let middle = after_events parts guest in
      state_append actor first (event ∷ []) (turn n actor guest) ∙ ap (happened actor event) before_end
      ∙ plain_happens true actor event (turn n actor middle) middle queue_plain
      ∙ ap (turn n actor) (sym (fold-append after_event guest parts (event ∷ [])))

  pub command_fine : AreFine actor (turn n actor guest) (command_made guest.shape (view_of guest))
  command_fine =
      let event = queue_event guest.shape (view_of guest) in
      let places = command_places guest.shape (view_of guest) in
      let parts = command_parts guest.shape (view_of guest) in
      let made = flat_map (part_made guest.shape (view_of guest)) parts in
      let state = turn n actor guest in
      let events = map (lpi_event guest.shape (view_of guest) (view_of guest).targets) parts in
      let middle = after_events events guest in
      let last : IsFine actor (turn n actor middle) event = plain_fine true actor event (turn n actor middle) middle (turn_quiet n actor middle) queue_plain (subst (λ s. CanHappen s event) (sym (shape_events events guest)) queue_can) in
      fine_append actor (reads places ++ made) (event ∷ []) state
      (fine_append actor (reads places) made state (reads_fine actor places state (command_there guest.shape (view_of guest) sound.shape)) (subst (λ s. AreFine actor s made) (sym (reads_state actor places state)) (parts_fine parts guest refl free)))
      (subst (λ s. AreFine actor s (event ∷ [])) (sym before_end) (last, tt))

  -- what holds of all its events
  pub command_all : (test : Event → Bool) → ((place : Place) → IsTrue (test (Read place))) → ((part : Part) → IsTrue (test (lpi_event guest.shape (view_of guest) (view_of guest).targets part))) → IsTrue (test (queue_event guest.shape (view_of guest))) → IsTrue (list_all test (command_made guest.shape (view_of guest)))
  command_all test read made last =
      let places = command_places guest.shape (view_of guest) in
      let parts = flat_map (part_made guest.shape (view_of guest)) (command_parts guest.shape (view_of guest)) in
      all_of test (reads places ++ parts) (queue_event guest.shape (view_of guest) ∷ [])
      (all_of test (reads places) parts (reads_all test places read) (parts_all test guest.shape (view_of guest) (command_parts guest.shape (view_of guest)) read made))
      (and_from (test (queue_event guest.shape (view_of guest))) true last refl)

  pub command_no_access : IsTrue (list_all is_no_access (command_made guest.shape (view_of guest)))
  command_no_access = command_all is_no_access (λ place. refl) (λ part. (part_event guest.shape (view_of guest) (view_of guest).targets part).no_access) (queue_as (λ e. IsTrue (is_no_access e)) (λ fault. refl) refl)

  pub command_no_turn : IsTrue (list_all is_no_turn (command_made guest.shape (view_of guest)))
  command_no_turn = command_all is_no_turn (λ place. refl) (λ part. (part_event guest.shape (view_of guest) (view_of guest).targets part).no_turn) (queue_as (λ e. IsTrue (is_no_turn e)) (λ fault. refl) refl)

  -- its end begins a window of the vCPUs that the LPIs are for then
  pub command_windows : (call : Call) (t : Targets) (firsts : List Targets) → AreWindows call t firsts → AreWindows (call_after actor (command_made guest.shape (view_of guest)) (turn n actor guest) call) t (firsts ++ (view_of (after_command guest)).targets ∷ [])
  command_windows call t firsts are =
      let event = queue_event guest.shape (view_of guest) in
      let places = command_places guest.shape (view_of guest) in
      let parts = flat_map (part_made guest.shape (view_of guest)) (command_parts guest.shape (view_of guest)) in
      let first = reads places ++ parts in
      let state = turn n actor guest in
      let within : IsTrue (list_all is_within first) =
      all_of is_within (reads places) parts (reads_all is_within places (λ place. refl)) (parts_all is_within guest.shape (view_of guest) (command_parts guest.shape (view_of guest)) (λ place. refl) (λ part. (part_event guest.shape (view_of guest) (view_of guest).targets part).within)) in
      let middle = state_after actor first state in
      let so_far = call_after actor first state call in
      let early : AreWindows so_far t firsts = windows_after actor first state call t firsts within are in
      let last : AreWindows (next_call middle actor event so_far) t (firsts ++ targets_in (happened actor event middle) ∷ []) =
      queue_as (λ e. AreWindows (next_call middle actor e so_far) t (firsts ++ targets_in (happened actor e middle) ∷ []))
      (λ fault. windows_stalled middle actor so_far t firsts early (view_of guest).offset fault)
      (windows_done middle actor so_far t firsts early (next_offset (view_of guest)) (command_words guest.shape (view_of guest))) in
      let ends : happened actor event middle ≡ turn n actor (after_command guest) = sym (state_append actor first (event ∷ []) state) ∙ command_state in
      subst (λ c. AreWindows c t (firsts ++ (view_of (after_command guest)).targets ∷ [])) (sym (call_append actor first (event ∷ []) state call))
      (subst (λ s. AreWindows (next_call middle actor event so_far) t (firsts ++ targets_in s ∷ [])) ends last)

  -- the events are the command
  module _ (taken : takes_command (view_of guest) ≡ true) where
    abbrev event : Event
    event = queue_event guest.shape (view_of guest)

    abbrev places : List Place
    places = command_places guest.shape (view_of guest)

    abbrev state : Ideal
    state = turn n actor guest

    abbrev words : List Happened
    words = words_read guest.shape (view_of guest)

    abbrev Ends : List Happened → Type 0
    Ends after = Makes (Some actor) (view_of guest) (event ∷ []) [] [] after

    queue_own : IsTrue (is_own event)
    queue_own = queue_as (λ e. IsTrue (is_own e)) (λ fault. refl) refl

    queue_ends : (irqs : List Irq) → Ends (happenings actor (event ∷ []) (turn n actor (record guest { irqs = irqs })))
    queue_ends irqs =
        piece_makes (Some actor) actor (view_of guest) [] (event ∷ []) (turn n actor (record guest { irqs = irqs })) [] (and_from (is_own event) true queue_own refl)
        (queue_as (λ e. HandsOut (view_of guest) e (handed_out (turn n actor (record guest { irqs = irqs })) e)) (λ fault. refl) refl, tt)

    -- a command of these parts: all reads before the first event are its fetch
    command_by : (parts : List Part) → command_parts guest.shape (view_of guest) ≡ parts → IsCommand (Some actor) guest.shape (view_of guest) (happenings actor (reads places ++ flat_map (part_made guest.shape (view_of guest)) parts ++ event ∷ []) state)
    command_by [] are =
        record {
          taken = taken;
          fetch = map (read_of (view_of guest)) places;
          rest = happenings actor (event ∷ []) state;
          split = ap (λ es. happenings actor (es ++ event ∷ []) state) (append-nil (reads places)) ∙ happenings_append actor (reads places) (event ∷ []) state
              ∙ ap (λ xs. xs ++ happenings actor (event ∷ []) (state_after actor (reads places) state)) (reads_happen actor places state)
              ∙ ap (λ s. map (read_of (view_of guest)) places ++ happenings actor (event ∷ []) s) (reads_state actor places state);
          whole = ap not (own_named (Some actor) event queue_own);
          fetched = subst (λ xs. Makes (Some actor) (view_of guest) [] places [] xs) (append-nil (map (read_of (view_of guest)) places)) (piece_makes (Some actor) actor (view_of guest) places [] state [] refl tt);
          done = subst (λ parts. ArePartsThen (Some actor) guest.shape (view_of guest).targets words parts Ends (map (read_of (view_of guest)) places) (happenings actor (event ∷ []) state)) (sym are) (queue_ends guest.irqs);
        }
    command_by (part ∷ parts) are =
        let view = view_of guest in
        let targets = view.targets in
        let first = lpi_event guest.shape view targets part in
        let bytes = byte_places guest.shape view targets part in
        let others = flat_map (part_made guest.shape view) parts in
        let all = places ++ bytes in
        let fetch : List Happened = map (read_of view) all in
        let own : List Happened = happenings actor (first ∷ []) state in
        let next = irqs_after guest first in
        let after : happened actor first state ≡ turn n actor (record guest { irqs = next }) =
        plain_happens true actor first state guest (part_plain guest.shape view targets part) ∙ ap (turn n actor) (part_changes guest guest.irqs targets part) in
        let rest = happenings actor (first ∷ others ++ event ∷ []) state in
        let events : reads places ++ flat_map (part_made guest.shape view) (part ∷ parts) ++ event ∷ [] ≡ reads all ++ (first ∷ others ++ event ∷ []) =
        append_assoc (reads places) ((reads bytes ++ first ∷ []) ++ others) (event ∷ []) ∙ ap (λ xs. reads places ++ xs) (append_assoc (reads bytes ++ first ∷ []) others (event ∷ []) ∙ append_assoc (reads bytes) (first ∷ []) (others ++ event ∷ []))
        ∙ sym (append_assoc (reads places) (reads bytes) (first ∷ others ++ event ∷ [])) ∙ ap (λ xs. xs ++ (first ∷ others ++ event ∷ [])) (sym (map-append Read places bytes)) in
        let is_first : IsTrue (is_own first) = (part_event guest.shape view targets part).own in
        let one = piece_makes (Some actor) actor view [] (first ∷ []) state [] (and_from (is_own first) true is_first refl) (part_hands guest.shape view targets part n actor guest, tt) in
        let read = all_read view all [] own (no_read actor (first ∷ []) state (and_from (is_own first) true is_first refl)) in
        let later : ArePartsThen (Some actor) guest.shape targets words parts Ends words (happenings actor (others ++ event ∷ []) (turn n actor (record guest { irqs = next }))) = parts_then words Ends (event ∷ []) queue_ends parts next in
        let done : ArePartsThen (Some actor) guest.shape targets words (part ∷ parts) Ends fetch rest =
        record {
          view = view;
          own = own;
          rest = happenings actor (others ++ event ∷ []) (turn n actor (record guest { irqs = next }));
          split = ap (λ s. own ++ happenings actor (others ++ event ∷ []) s) after;
          made = record { events_are = one.events_are; found = one.found; reads = all_late (λ place. IsLastRead place (held_at view place) (fetch ++ own)) places bytes read };
          ends = record { before = []; found = handed_out state first; split = refl };
          later = later;
        } in
        let none : Makes (Some actor) view [] all [] fetch = subst (λ xs. Makes (Some actor) view [] all [] xs) (append-nil fetch) (piece_makes (Some actor) actor view all [] state [] refl tt) in
        record {
          taken = taken;
          fetch = fetch;
          rest = rest;
          split = ap (λ es. happenings actor es state) events ∙ happenings_append actor (reads all) (first ∷ others ++ event ∷ []) state
              ∙ ap (λ xs. xs ++ happenings actor (first ∷ others ++ event ∷ []) (state_after actor (reads all) state)) (reads_happen actor all state)
              ∙ ap (λ s. fetch ++ happenings actor (first ∷ others ++ event ∷ []) s) (reads_state actor all state);
          whole = ap not (own_named (Some actor) first is_first);
          fetched = record { events_are = none.events_are; found = none.found; reads = all_early (λ place. IsLastRead place (held_at view place) fetch) places bytes none.reads };
          done = subst (λ ps. ArePartsThen (Some actor) guest.shape targets words ps Ends fetch rest) (sym are) done;
        }

    pub is_command : IsCommand (Some actor) guest.shape (view_of guest) (happenings actor (command_made guest.shape (view_of guest)) (turn n actor guest))
    is_command = command_by (command_parts guest.shape (view_of guest)) refl

  pub sound_command : IsSound (after_command guest)
  sound_command = sound_events guest (command_events guest.shape (view_of guest)) sound (command_follows guest sound)

  -- what is known of the ITS after it
  pub command_known : HaveSameIts (left_by guest.shape (view_of guest) (queue_event guest.shape (view_of guest))) (view_of (after_command guest))
  command_known =
      let parts = command_parts guest.shape (view_of guest) in
      let targets = (view_of guest).targets in
      let events = map (lpi_event guest.shape (view_of guest) targets) parts in
      let middle = after_events events guest in
      let event = queue_event guest.shape (view_of guest) in
      let same : HaveSameIts (view_of guest) (view_of middle) = record {
        ctlr = sym (kept_parts (λ g. word_at g ItsCtlr) (λ g irqs. refl) guest.shape (view_of guest) targets parts guest);
        cbaser = sym (kept_parts (λ g. word_at g Cbaser) (λ g irqs. refl) guest.shape (view_of guest) targets parts guest);
        cwriter = sym (kept_parts (λ g. word_at g Cwriter) (λ g irqs. refl) guest.shape (view_of guest) targets parts guest);
        offset = sym (kept_parts (λ g. g.offset) (λ g irqs. refl) guest.shape (view_of guest) targets parts guest);
        stalled = sym (kept_parts (λ g. g.is_stalled) (λ g irqs. refl) guest.shape (view_of guest) targets parts guest);
        maps = sym (kept_parts (λ g. g.tables) (λ g irqs. refl) guest.shape (view_of guest) targets parts guest);
      } in
      let each : length middle.words ≡ plain_count middle.shape =
      kept_parts (λ g. length g.words) (λ g irqs. refl) guest.shape (view_of guest) targets parts guest ∙ sound.words ∙ ap plain_count (sym (shape_events events guest)) in
      subst (λ g. HaveSameIts (left_by guest.shape (view_of guest) event) (view_of g)) (sym (fold-append after_event guest events (event ∷ [])))
      (queue_as (λ e. HaveSameIts (left_by guest.shape (view_of guest) e) (view_of (after_event middle e)))
      (λ fault. stalled_known middle (view_of guest) each same (view_of guest).offset fault)
      (done_known middle (view_of guest) each same (next_offset (view_of guest)) (command_words guest.shape (view_of guest))))

  pub command_shape : (after_command guest).shape ≡ guest.shape
  command_shape = shape_events (command_events guest.shape (view_of guest)) guest

-- All commands that are taken.

-- the vCPUs that the LPIs are for after each
abbrev pub later_targets : ℕ → IdealGuest → List Targets
later_targets zero guest = []
later_targets (suc most) guest = cond (takes_command (view_of guest)) ((view_of (after_command guest)).targets ∷ later_targets most (after_command guest)) []

-- the guest as each begins
abbrev pub views_of : ℕ → IdealGuest → List View
views_of zero guest = []
views_of (suc most) guest = cond (takes_command (view_of guest)) (view_of guest ∷ views_of most (after_command guest)) []

module _ (n actor : ℕ) where
  pub commands_state : (most : ℕ) (guest : IdealGuest) → IsSound guest → state_after actor (commands_made most guest) (turn n actor guest) ≡ turn n actor (after_commands most guest)
  commands_state zero guest sound = refl
  commands_state (suc most) guest sound = of (commands_state most (after_command guest) (sound_command n actor guest sound)) (takes_command (view_of guest))
    where
      of : state_after actor (commands_made most (after_command guest)) (turn n actor (after_command guest)) ≡ turn n actor (after_commands most (after_command guest)) → (b : Bool) → state_after actor (cond b (command_made guest.shape (view_of guest) ++ commands_made most (after_command guest)) []) (turn n actor guest) ≡ turn n actor (cond b (after_commands most (after_command guest)) guest)
      of later false = refl
      of later true =
          state_append actor (command_made guest.shape (view_of guest)) (commands_made most (after_command guest)) (turn n actor guest)
          ∙ ap (state_after actor (commands_made most (after_command guest))) (command_state n actor guest sound)
          ∙ later

  pub commands_fine : (most : ℕ) (guest : IdealGuest) → IsSound guest → AreFine actor (turn n actor guest) (commands_made most guest)
  commands_fine zero guest sound = tt
  commands_fine (suc most) guest sound = of (commands_fine most (after_command guest) (sound_command n actor guest sound)) (takes_command (view_of guest))
    where
      of : AreFine actor (turn n actor (after_command guest)) (commands_made most (after_command guest)) → (b : Bool) → AreFine actor (turn n actor guest) (cond b (command_made guest.shape (view_of guest) ++ commands_made most (after_command guest)) [])
      of later false = tt
      of later true =
          fine_append actor (command_made guest.shape (view_of guest)) (commands_made most (after_command guest)) (turn n actor guest) (command_fine n actor guest sound)
          (subst (λ s. AreFine actor s (commands_made most (after_command guest))) (sym (command_state n actor guest sound)) later)

  pub commands_no_access : (most : ℕ) (guest : IdealGuest) → IsSound guest → IsTrue (list_all is_no_access (commands_made most guest))
  commands_no_access zero guest sound = refl
  commands_no_access (suc most) guest sound = of (commands_no_access most (after_command guest) (sound_command n actor guest sound)) (takes_command (view_of guest))
    where
      of : IsTrue (list_all is_no_access (commands_made most (after_command guest))) → (b : Bool) → IsTrue (list_all is_no_access (cond b (command_made guest.shape (view_of guest) ++ commands_made most (after_command guest)) []))
      of later false = refl
      of later true = all_of is_no_access (command_made guest.shape (view_of guest)) (commands_made most (after_command guest)) (command_no_access n actor guest sound) later

  pub commands_no_turn : (most : ℕ) (guest : IdealGuest) → IsSound guest → IsTrue (list_all is_no_turn (commands_made most guest))
  commands_no_turn zero guest sound = refl
  commands_no_turn (suc most) guest sound = of (commands_no_turn most (after_command guest) (sound_command n actor guest sound)) (takes_command (view_of guest))
    where
      of : IsTrue (list_all is_no_turn (commands_made most (after_command guest))) → (b : Bool) → IsTrue (list_all is_no_turn (cond b (command_made guest.shape (view_of guest) ++ commands_made most (after_command guest)) []))
      of later false = refl
      of later true = all_of is_no_turn (command_made guest.shape (view_of guest)) (commands_made most (after_command guest)) (command_no_turn n actor guest sound) later

  pub commands_windows : (most : ℕ) (guest : IdealGuest) → IsSound guest → (call : Call) (t : Targets) (firsts : List Targets) → AreWindows call t firsts → AreWindows (call_after actor (commands_made most guest) (turn n actor guest) call) t (firsts ++ later_targets most guest)
  commands_windows zero guest sound call t firsts are = subst (AreWindows call t) (sym (append-nil firsts)) are
  commands_windows (suc most) guest sound call t firsts are =
      of
      (commands_windows most (after_command guest) (sound_command n actor guest sound) (call_after actor (command_made guest.shape (view_of guest)) (turn n actor guest) call) t (firsts ++ (view_of (after_command guest)).targets ∷ []) (command_windows n actor guest sound call t firsts are))
      (takes_command (view_of guest))
    where
      of : AreWindows (call_after actor (commands_made most (after_command guest)) (turn n actor (after_command guest)) (call_after actor (command_made guest.shape (view_of guest)) (turn n actor guest) call)) t ((firsts ++ (view_of (after_command guest)).targets ∷ []) ++ later_targets most (after_command guest))
          → (b : Bool) → AreWindows (call_after actor (cond b (command_made guest.shape (view_of guest) ++ commands_made most (after_command guest)) []) (turn n actor guest) call) t (firsts ++ cond b ((view_of (after_command guest)).targets ∷ later_targets most (after_command guest)) [])
      of rest false = subst (AreWindows call t) (sym (append-nil firsts)) are
      of rest true =
          let next = after_command guest in
          let made = command_made guest.shape (view_of guest) in
          let more = call_after actor made (turn n actor guest) call in
          subst (λ c. AreWindows c t (firsts ++ ((view_of next).targets ∷ later_targets most next))) (sym (call_append actor made (commands_made most next) (turn n actor guest) call))
          (subst (λ s. AreWindows (call_after actor (commands_made most next) s more) t (firsts ++ ((view_of next).targets ∷ later_targets most next))) (sym (command_state n actor guest sound))
          (subst (AreWindows (call_after actor (commands_made most next) (turn n actor next) more) t) (append_assoc firsts ((view_of next).targets ∷ []) (later_targets most next)) rest))

  -- they are the commands of the call, of an ITS that is known, where none is left over
  pub are_commands :
      (most : ℕ) (guest : IdealGuest) → IsSound guest → (form : GuestShape) → guest.shape ≡ form → (beside : Beside) (number : ℕ) (its : View) → HaveSameIts its (view_of guest) → takes_command (view_of (after_commands most guest)) ≡ false
      → ((k : ℕ) → command_targets beside (number + k) ≡ slice_index_or ((view_of guest).targets ∷ later_targets most guest) k no_target)
      → AreCommands (Some actor) form beside number its (views_of most guest) (happenings actor (commands_made most guest) (turn n actor guest))
  are_commands zero guest sound form is beside number its same dry targets = ends its (takes_known its (view_of guest) same ∙ dry)
    where
      ends : (its : View) → takes_command its ≡ false → Makes (Some actor) its [] [] [] [] × IsTrue (not (takes_command its))
      ends its e = (piece_makes (Some actor) actor its [] [] (turn n actor guest) [] refl tt, ap not e)
  are_commands (suc most) guest sound form is beside number its same dry targets =
      of
      (λ dry known. are_commands most (after_command guest) (sound_command n actor guest sound) guest.shape (command_shape n actor guest sound) beside (number + 1) (left_by guest.shape (view_of guest) (queue_event guest.shape (view_of guest))) (command_known n actor guest sound) dry known)
      (takes_command (view_of guest)) refl dry targets
    where
      of : (takes_command (view_of (after_commands most (after_command guest))) ≡ false → ((k : ℕ) → command_targets beside (number + 1 + k) ≡ slice_index_or ((view_of (after_command guest)).targets ∷ later_targets most (after_command guest)) k no_target)
          → AreCommands (Some actor) guest.shape beside (number + 1) (left_by guest.shape (view_of guest) (queue_event guest.shape (view_of guest))) (views_of most (after_command guest)) (happenings actor (commands_made most (after_command guest)) (turn n actor (after_command guest))))
          → (b : Bool) → takes_command (view_of guest) ≡ b → takes_command (view_of (cond b (after_commands most (after_command guest)) guest)) ≡ false
          → ((k : ℕ) → command_targets beside (number + k) ≡ slice_index_or ((view_of guest).targets ∷ cond b ((view_of (after_command guest)).targets ∷ later_targets most (after_command guest)) []) k no_target)
          → AreCommands (Some actor) form beside number its (cond b (view_of guest ∷ views_of most (after_command guest)) []) (happenings actor (cond b (command_made guest.shape (view_of guest) ++ commands_made most (after_command guest)) []) (turn n actor guest))
      of next false e dry targets = (piece_makes (Some actor) actor its [] [] (turn n actor guest) [] refl tt, ap not (takes_known its (view_of guest) same ∙ e))
      of more true e dry targets =
          let next = after_command guest in
          let made = command_made guest.shape (view_of guest) in
          let later = commands_made most next in
          let own = happenings actor made (turn n actor guest) in
          let rest = happenings actor later (turn n actor next) in
          subst (λ s. AreCommands (Some actor) s beside number its (view_of guest ∷ views_of most next) (happenings actor (made ++ later) (turn n actor guest))) is
          (record {
            same = same;
            targets_are = sym (targets 0) ∙ ap (command_targets beside) (omega arith);
            own = own;
            rest = rest;
            split = happenings_append actor made later (turn n actor guest) ∙ ap (λ s. own ++ happenings actor later s) (command_state n actor guest sound);
            command = is_command n actor guest sound e;
            later = more dry (λ k. ap (command_targets beside) (omega arith) ∙ targets (suc k));
          })
