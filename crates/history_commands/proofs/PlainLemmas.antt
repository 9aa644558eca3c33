-- After it took the ITS a call takes it no more, and stores no EnableLPIs.
use Rattle.std.proofs.Common.{◌≡◌, ℕ, not, ◌&&◌, Bool, true, false, cond, List, [], ◌∷◌, ◌++◌, map, Option, Some, None, refl, sym, ap, ◌∙◌, subst}
use Rattle.std.specs.List.{list_all}
use Rattle.std.specs.Option.{option_map_or}
use Rattle.std.proofs.lemmas.Bool.{and_parts, and_from}
use Rattle.std.proofs.lemmas.List.Folds.{list_all-append}
use Rattle.history_commands.specs.Words.{GuestShape}
use Rattle.history_commands.specs.Registers.{Maps, fault_number}
use Rattle.history_commands.specs.LegalLists.ItsCmd.Command.{decoded}
use Rattle.history_commands.specs.GicImap.Map.{decoded as its_decoded}
use Rattle.history_commands.specs.Calls.{Event, Put, Enable, ItsBegin, Done, Stalls, Runs, Happened, View, Part, Map, Clear, is_beside, named_of, command_parts, command_words, next_offset, queue_event, takes_command, lpi_event}
use Rattle.history_commands.specs.GicCall.declared.event.Event.TheVariants.{Queue}
use Rattle.history_commands.specs.GicCall.declared.command.Part.TheVariants.{Forget, Retarget, Raise, Configure}
use Rattle.history_commands.specs.HistoryCalls.Found.{found_by}
use Rattle.history_commands.specs.Known.{view_by}
use Rattle.history_commands.specs.Stage.{Stage, Between, Within, Ending, Over, FitsParts, FitsTaken, FitsNamed, FitsUnless, Follow, stage_after}
use Rattle.history_commands.specs.Written.{starting, IsWritten}
use Rattle.history_commands.proofs.StepLemmas.{events_in}
use Rattle.history_commands.specs.Writing.{is_of_its}
use Rattle.history_commands.proofs.WriteLemmas.{write_of_its}

abbrev pub is_plain_event : Event → Bool
is_plain_event ItsBegin = false
is_plain_event (Enable vcpu) = false
is_plain_event event = true

abbrev pub are_plain : List Happened → Bool
are_plain piece = list_all (λ (h : Happened). is_plain_event h.event) piece

pub plain_beside : (actor : Option ℕ) (event : Event) → is_beside actor event ≡ true → is_plain_event event ≡ true
plain_beside actor ItsBegin h = absurd (cc)
plain_beside actor (Enable vcpu) h = absurd (cc)
plain_beside actor event h = refl

plain_part : (shape : GuestShape) (view : View) (targets : ℕ → Option ℕ) (part : Part) → is_plain_event (lpi_event shape view targets part) ≡ true
plain_part shape view targets (Forget id) = refl
plain_part shape view targets (Map id target) = refl
plain_part shape view targets (Retarget id target) = refl
plain_part shape view targets (Raise id) = refl
plain_part shape view targets (Clear id) = refl
plain_part shape view targets (Configure id) = refl

plain_queue : (offset next : ℕ) (o : Option ℕ) (words : List ℕ) → is_plain_event (option_map_or (λ fault. Queue offset (Stalls fault)) o (Queue next (Done words))) ≡ true
plain_queue offset next None words = refl
plain_queue offset next (Some fault) words = refl

plain_its : (event : Event) → is_of_its event ≡ true → is_plain_event event ≡ true
plain_its ItsBegin h = absurd (cc)
plain_its (Enable vcpu) h = absurd (cc)
plain_its event h = refl

plain_parts : (shape : GuestShape) (view : View) (parts : List Part) (reads : List Happened) (one : Happened) → FitsParts shape view parts reads one → is_plain_event one.event ≡ true
plain_parts shape view [] reads one is =
    ap is_plain_event is.event_is ∙ plain_queue view.offset (next_offset view) (fault_number shape view.maps (decoded (command_words shape view))) (command_words shape view)
plain_parts shape view (part ∷ parts) reads one is = ap is_plain_event is.event_is ∙ plain_part shape (found_by reads) view.targets part

plain_taken : (shape : GuestShape) (view : View) (reads : List Happened) (b : Bool) (one : Happened) → FitsTaken shape view reads b one → is_plain_event one.event ≡ true
plain_taken shape view reads true one is = plain_parts shape view (command_parts shape view) reads one is.1
plain_taken shape view reads false one is = ap is_plain_event is.event_is

plain_named : (shape : GuestShape) (targets : ℕ → ℕ → Option ℕ) (stage : Stage) (one : Happened) → FitsNamed shape targets stage one → is_plain_event one.event ≡ true
plain_named shape targets (Between number its maps reads) one is = plain_taken shape (view_by its maps (targets number) reads) reads (takes_command (view_by its maps (targets number) reads)) one is
plain_named shape targets (Within number its maps fetch parts reads) one is = plain_parts shape (view_by its maps (targets number) fetch) parts reads one is
plain_named shape targets Ending one is = ap is_plain_event is.event_is
plain_named shape targets Over one is = absurd is

plain_fits : (shape : GuestShape) (targets : ℕ → ℕ → Option ℕ) (actor : ℕ) (stage : Stage) (one : Happened) → FitsUnless (is_beside (Some actor) one.event) shape targets stage one → is_plain_event one.event ≡ true
plain_fits shape targets actor stage one = of (is_beside (Some actor) one.event) refl
  where
    of : (b : Bool) → is_beside (Some actor) one.event ≡ b → FitsUnless b shape targets stage one → is_plain_event one.event ≡ true
    of true e is = plain_beside (Some actor) one.event e
    of false e is = plain_named shape targets stage one is

plain_follow : (shape : GuestShape) (targets : ℕ → ℕ → Option ℕ) (actor : ℕ) (is_open : Bool) (stage : Stage) (piece : List Happened) → Follow shape targets actor is_open stage piece → are_plain piece ≡ true
plain_follow shape targets actor is_open stage [] h = refl
plain_follow shape targets actor is_open stage (one ∷ piece) h =
    and_from (is_plain_event one.event) (are_plain piece) (plain_fits shape targets actor stage one h.0) (plain_follow shape targets actor is_open (stage_after shape targets actor stage one) piece h.1)

plain_made : (actor : Option ℕ) (piece : List Happened) → list_all is_of_its (events_in (named_of actor piece)) ≡ true → are_plain piece ≡ true
plain_made actor [] h = refl
plain_made actor (one ∷ piece) h = of (is_beside actor one.event) refl h (λ k. plain_made actor piece k)
  where
    of : (b : Bool) → is_beside actor one.event ≡ b → list_all is_of_its (events_in (cond (not b) (one ∷ named_of actor piece) (named_of actor piece))) ≡ true → (list_all is_of_its (events_in (named_of actor piece)) ≡ true → are_plain piece ≡ true)
        → are_plain (one ∷ piece) ≡ true
    of true e k rest = and_from (is_plain_event one.event) (are_plain piece) (plain_beside actor one.event e) (rest k)
    of false e k rest =
        let both = and_parts (is_of_its one.event) (list_all is_of_its (events_in (named_of actor piece))) k in
        and_from (is_plain_event one.event) (are_plain piece) (plain_its one.event both.0) (rest both.1)

pub plain_written : (shape : GuestShape) (maps : Maps) (targets : ℕ → ℕ → Option ℕ) (actor offset size value : ℕ) (is_open : Bool) (piece : List Happened) → IsWritten shape maps targets actor offset size value is_open piece → are_plain piece ≡ true
plain_written shape maps targets actor offset size value is_open piece is =
    ap are_plain is.split ∙ list_all-append (λ (h : Happened). is_plain_event h.event) is.written is.later
    ∙ and_from (are_plain is.written) (are_plain is.later)
    (plain_made (Some actor) is.written (ap (list_all is_of_its) is.made.events_are ∙ write_of_its shape (found_by is.written) (its_decoded offset size) value))
    (plain_follow shape targets actor is_open (starting shape (found_by is.written) maps offset size value) is.later is.follow)

pub plain_right : (one two : List Happened) → are_plain (one ++ two) ≡ true → are_plain two ≡ true
plain_right one two h = (and_parts (are_plain one) (are_plain two) (sym (list_all-append (λ (h : Happened). is_plain_event h.event) one two) ∙ h)).1
