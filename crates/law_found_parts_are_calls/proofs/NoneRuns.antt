-- What a command makes of LPIs that the maps give no vCPU, while nobody else acts.
use Rattle.std.proofs.Common.{◌≡◌, ℕ, ◌⊎◌, inl, inr, ◌||◌, not, Bool, true, false, cond, is_none, IsTrue, List, [], ◌∷◌, Option, Some, None, Result, Ok, Err, refl, sym, ap, ◌∙◌, subst}
use Rattle.std.specs.List.{list_all, list_any}
use Rattle.std.specs.Option.{option_map, option_map_or}
use Rattle.std.proofs.lemmas.Bool.{and_from, and_parts}
use Rattle.std.proofs.lemmas.Option.{none-some}
use Rattle.law_unmapped_lpis.specs.Words.{GuestShape}
use Rattle.law_unmapped_lpis.specs.ItsCmd.Command.{decoded}
use Rattle.law_unmapped_lpis.specs.Registers.{BadCommand, Command, IsValid, maps_after, has_target, fault_of, fault_number, number_of, Maps}
use Rattle.law_unmapped_lpis.proofs.ItsTab.TableLemmas.{unmapped}
use Rattle.law_unmapped_lpis.specs.Calls.{Part, Map, Clear, Event, Done, Stalls, command_parts, command_words, decoded_parts, lpi_event, maps_by, next_offset, parts, queue_event, ArePartsThen, Happened, IsCommand, Makes, is_beside, named_of, View, words_read}
use Rattle.law_unmapped_lpis.specs.GicCall.declared.command.Part.TheVariants.{Forget, Retarget, Raise, Configure}
use Rattle.law_unmapped_lpis.specs.GicCall.declared.event.Event.TheVariants.{Queue}
use Rattle.law_unmapped_lpis.specs.Histories.{IdealGuest, after_event, Ideal, happened, targets_in, AreForNone}
use Rattle.law_unmapped_lpis.proofs.IdealGuests.KeyLemmas.{IsWhole}
use Rattle.law_unmapped_lpis.proofs.LawHistories.StateLemmas.{guest_is}
use Rattle.law_unmapped_lpis.proofs.LawHistories.TurnSteps.{tables_after, tables_are}
use Rattle.law_serial_is_eager.proofs.LawEagerIsHistory.CourseLemmas.{state_after, state_append}
use Rattle.law_serial_is_eager.proofs.LawLoneCallsAreEager.CommandLemmas.{events_both}
use Rattle.law_serial_is_eager.proofs.LawLoneCallsAreEager.MapsLemmas.{beside_maps, keeps_maps, tables_kept}
use Rattle.law_serial_is_eager.proofs.LawLoneCallsAreEager.MomentLemmas.{target_at}
use Rattle.law_serial_is_eager.proofs.LawLoneCallsAreEager.OneLemmas.{queue_is}
use Rattle.law_serial_is_eager.proofs.LawLoneCallsAreEager.RunLemmas.{events_of}
use Rattle.law_serial_is_eager.proofs.LawLoneCallsAreEager.TargetLemmas.{beside_targets, event_targets}
use Rattle.law_unmapped_lpis.proofs.CommandLemmas.{command_loses}
use Rattle.law_unmapped_lpis.proofs.PartLemmas.{gives_none, leaves_none, parts_none}
use Rattle.law_found_parts_are_calls.proofs.BegunRuns.{same_head, same_tail}

-- Pieces of an actor, who is this vCPU if it is one: what is beside the events that are named keeps what is said of the state.

module _ (actor : ℕ) (vcpu : Option ℕ) where
  abbrev Keeps : (Ideal → Type 0) → Type 0
  Keeps Q = (event : Event) (state : Ideal) → is_beside vcpu event ≡ true → Q state → Q (happened actor event state)

  past_beside : (Q : Ideal → Type 0) → Keeps Q → (piece : List Happened) (state : Ideal) → events_of (named_of vcpu piece) ≡ [] → Q state → Q (state_after actor (events_of piece) state)
  past_beside Q keep [] state named now = now
  past_beside Q keep (one ∷ piece) state named now = of (is_beside vcpu one.event) refl named (past_beside Q keep piece)
    where
      of : (b : Bool) → is_beside vcpu one.event ≡ b → events_of (cond (not b) (one ∷ named_of vcpu piece) (named_of vcpu piece)) ≡ []
          → ((state : Ideal) → events_of (named_of vcpu piece) ≡ [] → Q state → Q (state_after actor (events_of piece) state)) → Q (state_after actor (events_of piece) (happened actor one.event state))
      of true e named later = later (happened actor one.event state) named (keep one.event state e now)
      of false e named later = absurd (cc)

  past_one : (Q R : Ideal → Type 0) → Keeps Q → Keeps R → (event : Event) → ((state : Ideal) → Q state → R (happened actor event state)) → (piece : List Happened) (state : Ideal) → events_of (named_of vcpu piece) ≡ event ∷ [] → Q state
      → R (state_after actor (events_of piece) state)
  past_one Q R keep stay event change [] state named now = absurd (cc)
  past_one Q R keep stay event change (one ∷ piece) state named now = of (is_beside vcpu one.event) refl named (past_one Q R keep stay event change piece)
    where
      of : (b : Bool) → is_beside vcpu one.event ≡ b → events_of (cond (not b) (one ∷ named_of vcpu piece) (named_of vcpu piece)) ≡ event ∷ []
          → ((state : Ideal) → events_of (named_of vcpu piece) ≡ event ∷ [] → Q state → R (state_after actor (events_of piece) state)) → R (state_after actor (events_of piece) (happened actor one.event state))
      of true e named later = later (happened actor one.event state) named (keep one.event state e now)
      of false e named later =
          past_beside R stay piece (happened actor one.event state) (same_tail one.event event (events_of (named_of vcpu piece)) [] named)
          (subst (λ (e : Event). R (happened actor e state)) (sym (same_head one.event event (events_of (named_of vcpu piece)) [] named)) (change state now))

  -- the parts of a command, and how the queue goes on
  module _ (shape : GuestShape) (view : View) (Q : List Part → Ideal → Type 0) (R : Ideal → Type 0) (keep : (parts : List Part) → Keeps (Q parts)) (stay : Keeps R)
      (part_on : (other : View) (part : Part) (parts : List Part) (state : Ideal) → Q (part ∷ parts) state → Q parts (happened actor (lpi_event shape other view.targets part) state))
      (queue_on : (state : Ideal) → Q [] state → R (happened actor (queue_event shape view) state)) where
    past_parts : (words : List Happened) (parts : List Part) (before piece : List Happened) (state : Ideal) → ArePartsThen vcpu shape view.targets words parts (λ after. Makes vcpu view (queue_event shape view ∷ []) [] [] after) before piece → Q parts state
        → R (state_after actor (events_of piece) state)
    past_parts words [] before piece state are now = past_one (Q []) R (keep []) stay (queue_event shape view) queue_on piece state are.events_are now
    past_parts words (part ∷ parts) before piece state are now =
        subst (λ es. R (state_after actor es state)) (sym (ap events_of are.split ∙ events_both are.own are.rest))
        (subst R (sym (state_append actor (events_of are.own) (events_of are.rest) state))
        (past_parts words parts words are.rest (state_after actor (events_of are.own) state) are.later
        (past_one (Q (part ∷ parts)) (Q parts) (keep (part ∷ parts)) (keep parts) (lpi_event shape are.view view.targets part) (part_on are.view part parts) are.own state are.made.events_are now)))

    past_command : (piece : List Happened) (state : Ideal) → IsCommand vcpu shape view piece → Q (command_parts shape view) state → R (state_after actor (events_of piece) state)
    past_command piece state is now =
        subst (λ es. R (state_after actor es state)) (sym (ap events_of is.split ∙ events_both is.fetch is.rest))
        (subst R (sym (state_append actor (events_of is.fetch) (events_of is.rest) state))
        (past_parts (words_read shape view) (command_parts shape view) is.fetch is.rest (state_after actor (events_of is.fetch) state) is.done
        (past_beside (Q (command_parts shape view)) (keep (command_parts shape view)) is.fetch state is.fetched.events_are now)))

-- The maps after a command.

part_maps : (shape : GuestShape) (view : View) (targets : ℕ → Option ℕ) (part : Part) → keeps_maps (lpi_event shape view targets part) ≡ true
part_maps shape view targets (Forget id) = refl
part_maps shape view targets (Map id target) = refl
part_maps shape view targets (Retarget id target) = refl
part_maps shape view targets (Raise id) = refl
part_maps shape view targets (Clear id) = refl
part_maps shape view targets (Configure id) = refl

module _ (actor : ℕ) (vcpu : Option ℕ) (shape : GuestShape) (view : View) where
  kept_tables : (maps : Maps) (event : Event) (state : Ideal) → keeps_maps event ≡ true → state.guest.tables ≡ maps → (happened actor event state).guest.tables ≡ maps
  kept_tables maps event state keep now = tables_are actor event state ∙ tables_kept event state.guest.tables keep ∙ now

  tables_past : (piece : List Happened) (state : Ideal) → IsCommand vcpu shape view piece → state.guest.tables ≡ view.maps → (state_after actor (events_of piece) state).guest.tables ≡ tables_after (queue_event shape view) view.maps
  tables_past =
      past_command actor vcpu shape view (λ parts (s : Ideal). s.guest.tables ≡ view.maps) (λ (s : Ideal). s.guest.tables ≡ tables_after (queue_event shape view) view.maps)
      (λ parts event s beside now. kept_tables view.maps event s (beside_maps vcpu event beside) now)
      (λ event s beside now. kept_tables (tables_after (queue_event shape view) view.maps) event s (beside_maps vcpu event beside) now)
      (λ other part parts s now. kept_tables view.maps (lpi_event shape other view.targets part) s (part_maps shape other view.targets part) now)
      (λ s now. tables_are actor (queue_event shape view) s ∙ ap (tables_after (queue_event shape view)) now)

-- An LPI that is for no vCPU after it.

part_goes : (actor : ℕ) (shape : GuestShape) (view : View) (targets : ℕ → Option ℕ) (part : Part) (state : Ideal) → (happened actor (lpi_event shape view targets part) state).guest ≡ after_event state.guest (lpi_event shape view targets part)
part_goes actor shape view targets (Forget id) state = refl
part_goes actor shape view targets (Map id target) state = refl
part_goes actor shape view targets (Retarget id target) state = refl
part_goes actor shape view targets (Raise id) state = refl
part_goes actor shape view targets (Clear id) state = refl
part_goes actor shape view targets (Configure id) state = refl

either_left : (b : Bool) → b ≡ true → (b || false) ≡ true
either_left true e = refl
either_left false e = absurd (cc)

record IsFor (id : ℕ) (parts : List Part) (state : Ideal) : Type 0 where
  whole : IsWhole state.guest
  all : IsTrue (list_all (leaves_none id) parts)
  some : (targets_in state id ≡ None) ⊎ (list_any (gives_none id) parts ≡ true)

record IsForNone (id : ℕ) (state : Ideal) : Type 0 where
  whole : IsWhole state.guest
  none : targets_in state id ≡ None

module _ (actor : ℕ) (vcpu : Option ℕ) (shape : GuestShape) (view : View) (id : ℕ) where
  kept_none : (event : Event) (state : Ideal) → is_beside vcpu event ≡ true → IsWhole state.guest → targets_in state id ≡ None → targets_in (happened actor event state) id ≡ None
  kept_none event state beside whole none = event_targets actor state whole id event (beside_targets vcpu event beside) ∙ none

  keep_for : (parts : List Part) (event : Event) (state : Ideal) → is_beside vcpu event ≡ true → IsFor id parts state → IsFor id parts (happened actor event state)
  keep_for parts event state beside now = record { whole = (guest_is actor event state).whole now.whole; all = now.all; some = of now.some }
    where
      of : (targets_in state id ≡ None) ⊎ (list_any (gives_none id) parts ≡ true) → (targets_in (happened actor event state) id ≡ None) ⊎ (list_any (gives_none id) parts ≡ true)
      of (inl none) = inl (kept_none event state beside now.whole none)
      of (inr some) = inr some

  part_for : (other : View) (part : Part) (parts : List Part) (state : Ideal) → IsFor id (part ∷ parts) state → IsFor id parts (happened actor (lpi_event shape other view.targets part) state)
  part_for other part parts state now = record { whole = (guest_is actor event state).whole now.whole; all = both.1; some = of (gives_none id part) refl now.some }
    where
      event : Event
      event = lpi_event shape other view.targets part

      both : IsTrue (leaves_none id part) × IsTrue (list_all (leaves_none id) parts)
      both = and_parts (leaves_none id part) (list_all (leaves_none id) parts) now.all

      after : (targets_in state id ≡ None) ⊎ (list_any (gives_none id) (part ∷ []) ≡ true) → targets_in (happened actor (lpi_event shape other view.targets part) state) id ≡ None
      after some =
          ap (λ (g : IdealGuest). target_at g id) (part_goes actor shape other view.targets part state)
          ∙ parts_none id shape other view.targets (part ∷ []) state.guest now.whole (and_from (leaves_none id part) true both.0 refl) some

      of : (b : Bool) → gives_none id part ≡ b → (targets_in state id ≡ None) ⊎ ((b || list_any (gives_none id) parts) ≡ true)
          → (targets_in (happened actor (lpi_event shape other view.targets part) state) id ≡ None) ⊎ (list_any (gives_none id) parts ≡ true)
      of b e (inl none) = inl (after (inl none))
      of true e (inr some) = inl (after (inr (either_left (gives_none id part) e)))
      of false e (inr some) = inr some

  keep_none : (event : Event) (state : Ideal) → is_beside vcpu event ≡ true → IsForNone id state → IsForNone id (happened actor event state)
  keep_none event state beside now = record { whole = (guest_is actor event state).whole now.whole; none = kept_none event state beside now.whole now.none }

  queue_none : (state : Ideal) → IsFor id [] state → IsForNone id (happened actor (queue_event shape view) state)
  queue_none state now = record { whole = (guest_is actor (queue_event shape view) state).whole now.whole; none = queue_is shape view (λ e. targets_in (happened actor e state) id ≡ targets_in state id) (λ fault. refl) refl ∙ of now.some }
    where
      of : (targets_in state id ≡ None) ⊎ (list_any (gives_none id) [] ≡ true) → targets_in state id ≡ None
      of (inl none) = none
      of (inr some) = absurd (cc)

  none_past : (piece : List Happened) (state : Ideal) → IsCommand vcpu shape view piece → IsFor id (command_parts shape view) state → IsForNone id (state_after actor (events_of piece) state)
  none_past = past_command actor vcpu shape view (IsFor id) (IsForNone id) keep_for keep_none part_for queue_none

-- What the command is.

module _ (shape : GuestShape) (view : View) (id : ℕ) (valid : IsValid shape view.maps) (none : has_target view.maps id ≡ false → view.targets id ≡ None) where
  abbrev words : List ℕ
  words = command_words shape view

  abbrev goes_on : Event
  goes_on = Queue (next_offset view) (Done words)

  -- no part gives the LPI a vCPU, and where it had one, a part takes it
  record IsLost : Type 0 where
    all : IsTrue (list_all (leaves_none id) (command_parts shape view))
    some : (view.targets id ≡ None) ⊎ (list_any (gives_none id) (command_parts shape view) ≡ true)

  bad : (fault : ℕ) → fault_number shape view.maps (decoded words) ≡ Some fault → has_target (tables_after (queue_event shape view) view.maps) id ≡ false → IsLost
  bad fault e lost = record { all = ap (list_all (leaves_none id)) none_are; some = inl (none (ap (λ event. has_target (tables_after event view.maps) id) (sym stalls) ∙ lost)) }
    where
      none_are : command_parts shape view ≡ []
      none_are = ap (λ o. cond (is_none o) (decoded_parts shape view (decoded words)) []) e

      stalls : queue_event shape view ≡ Queue view.offset (Stalls fault)
      stalls = ap (λ o. option_map_or (λ fault. Queue view.offset (Stalls fault)) o goes_on) e

  good : (command : Command) → decoded words ≡ Ok command → fault_of shape view.maps command ≡ None → has_target (tables_after (queue_event shape view) view.maps) id ≡ false → IsLost
  good command is sound lost =
      let loses = command_loses shape view.maps view.targets id valid none command sound (ap (λ maps. has_target maps id) (sym maps_are) ∙ lost) in
      record { all = ap (list_all (leaves_none id)) parts_are ∙ loses.all; some = of loses.some }
    where
      parts_are : command_parts shape view ≡ parts shape view.maps view.targets command
      parts_are =
          ap (λ r. cond (is_none (fault_number shape view.maps r)) (decoded_parts shape view r) []) is
          ∙ ap (λ o. cond (is_none (option_map number_of o)) (parts shape view.maps view.targets command) []) sound

      queue_is_done : queue_event shape view ≡ goes_on
      queue_is_done =
          ap (λ r. option_map_or (λ fault. Queue view.offset (Stalls fault)) (fault_number shape view.maps r) goes_on) is
          ∙ ap (λ o. option_map_or (λ fault. Queue view.offset (Stalls fault)) (option_map number_of o) goes_on) sound

      maps_are : tables_after (queue_event shape view) view.maps ≡ maps_after view.maps command
      maps_are = ap (λ event. tables_after event view.maps) queue_is_done ∙ ap (maps_by view.maps) is

      of : (view.targets id ≡ None) ⊎ (list_any (gives_none id) (parts shape view.maps view.targets command) ≡ true) → (view.targets id ≡ None) ⊎ (list_any (gives_none id) (command_parts shape view) ≡ true)
      of (inl e) = inl e
      of (inr e) = inr (ap (list_any (gives_none id)) parts_are ∙ e)

  lost_is : has_target (tables_after (queue_event shape view) view.maps) id ≡ false → IsLost
  lost_is lost = of (decoded words) refl (fault_number shape view.maps (decoded words)) refl
    where
      of : (r : Result Command BadCommand) → decoded words ≡ r → (o : Option ℕ) → fault_number shape view.maps (decoded words) ≡ o → IsLost
      of r is (Some fault) e = bad fault e lost
      of (Ok command) is None e = good command is (unmapped number_of (fault_of shape view.maps command) (ap (fault_number shape view.maps) (sym is) ∙ e)) lost
      of (Err other) is None e = absurd (none-some 10 (sym (ap (fault_number shape view.maps) (sym is) ∙ e)))

-- The command.

pub command_none : (actor : ℕ) (vcpu : Option ℕ) (shape : GuestShape) (view : View) (piece : List Happened) (state : Ideal) → IsCommand vcpu shape view piece → view.maps ≡ state.guest.tables → ((id : ℕ) → view.targets id ≡ targets_in state id)
    → IsValid shape state.guest.tables → IsWhole state.guest → AreForNone state.guest → AreForNone (state_after actor (events_of piece) state).guest
command_none actor vcpu shape view piece state is maps same valid whole none id lost =
    let lost_so = lost_is shape view id (subst (IsValid shape) (sym maps) valid) (λ e. same id ∙ none id (ap (λ m. has_target m id) (sym maps) ∙ e))
    (ap (λ m. has_target m id) (sym (tables_past actor vcpu shape view piece state is (sym maps))) ∙ lost) in
    (none_past actor vcpu shape view id piece state is (record { whole = whole; all = lost_so.all; some = of lost_so.some })).none
  where
    of : (view.targets id ≡ None) ⊎ (list_any (gives_none id) (command_parts shape view) ≡ true) → (targets_in state id ≡ None) ⊎ (list_any (gives_none id) (command_parts shape view) ≡ true)
    of (inl e) = inl (sym (same id) ∙ e)
    of (inr e) = inr e
