-- The law of the next command of a queue.
use Rattle.std.proofs.Common.{◌≡◌, ℕ, cond, is_none, List, [], ◌∷◌, Option, Some, None, Result, Ok, Err, map, refl, sym, ap, ◌∙◌, subst}
use Rattle.std.specs.Option.{option_map, option_map_or}
use Rattle.std.proofs.lemmas.List.Sums.{fold-append}
use Rattle.std.proofs.lemmas.Option.{none-some}
use Rattle.law_lone_calls_are_eager.specs.ItsCmd.Command.{decoded}
use Rattle.law_lone_calls_are_eager.specs.Registers.{BadCommand, Command, maps_after, has_target, number_of, fault_of, fault_number}
use Rattle.law_lone_calls_are_eager.proofs.ItsTab.TableLemmas.{unmapped}
use Rattle.law_lone_calls_are_eager.specs.Calls.{Part, Event, Done, Stalls, parts, lpi_event, command_words, next_offset, decoded_parts, command_parts, queue_event, maps_by, maps_done}
use Rattle.law_lone_calls_are_eager.specs.GicCall.declared.event.Event.TheVariants.{Queue}
use Rattle.law_lone_calls_are_eager.specs.Histories.{IdealGuest, view_of, after_event, after_events, after_command, IsSound, AreForNone}
use Rattle.law_lone_calls_are_eager.proofs.IdealGuests.SoundLemmas.{whole_of}
use Rattle.law_lone_calls_are_eager.proofs.IdealGuests.QueueLemmas.{kept_parts, bad_command}
use Rattle.law_unmapped_lpis.specs.Laws.{CommandsLeaveNone}
use Rattle.law_unmapped_lpis.proofs.CommandLemmas.{command_loses}
use Rattle.law_unmapped_lpis.proofs.PartLemmas.{parts_none}

module _ (guest : IdealGuest) (sound : IsSound guest) (none : AreForNone guest) where
  -- what the next command is, its parts where it has no fault, and how the queue goes on then
  abbrev words : List ℕ
  words = command_words guest.shape (view_of guest)

  abbrev parts_of : Command → List Part
  parts_of command = parts guest.shape guest.tables (view_of guest).targets command

  abbrev event_of : Part → Event
  event_of = lpi_event guest.shape (view_of guest) (view_of guest).targets

  abbrev goes_on : Event
  goes_on = Queue (next_offset (view_of guest)) (Done words)

  -- one with a fault changes no map
  stalls : (fault : ℕ) → fault_number guest.shape guest.tables (decoded words) ≡ Some fault → AreForNone (after_command guest)
  stalls fault e = subst AreForNone (sym (bad_command guest fault e)) none

  done : (command : Command) → decoded words ≡ Ok command → fault_of guest.shape guest.tables command ≡ None → AreForNone (after_command guest)
  done command is good = subst AreForNone (sym after_is) at_end
    where
      parts_are : command_parts guest.shape (view_of guest) ≡ parts_of command
      parts_are = ap (λ r. cond (is_none (fault_number guest.shape guest.tables r)) (decoded_parts guest.shape (view_of guest) r) []) is ∙ ap (λ o. cond (is_none (option_map number_of o)) (parts_of command) []) good

      queue_is : queue_event guest.shape (view_of guest) ≡ goes_on
      queue_is =
          ap (λ r. option_map_or (λ fault. Queue guest.offset (Stalls fault)) (fault_number guest.shape guest.tables r) goes_on) is
          ∙ ap (λ o. option_map_or (λ fault. Queue guest.offset (Stalls fault)) (option_map number_of o) goes_on) good

      after_is : after_command guest ≡ after_event (after_events (map event_of (parts_of command)) guest) goes_on
      after_is =
          fold-append after_event guest (map event_of (command_parts guest.shape (view_of guest))) (queue_event guest.shape (view_of guest) ∷ [])
          ∙ ap (λ e. after_event (after_events (map event_of (command_parts guest.shape (view_of guest))) guest) e) queue_is
          ∙ ap (λ ps. after_event (after_events (map event_of ps) guest) goes_on) parts_are

      maps_are : maps_done (after_events (map event_of (parts_of command)) guest).tables words ≡ maps_after guest.tables command
      maps_are = ap (λ maps. maps_done maps words) (kept_parts (λ g. g.tables) (λ g irqs. refl) guest.shape (view_of guest) (view_of guest).targets (parts_of command) guest) ∙ ap (maps_by guest.tables) is

      at_end : AreForNone (after_event (after_events (map event_of (parts_of command)) guest) goes_on)
      at_end id lost =
          let loses = command_loses guest.shape guest.tables (view_of guest).targets id sound.maps (none id) command good (ap (λ maps. has_target maps id) (sym maps_are) ∙ lost) in
          parts_none id guest.shape (view_of guest) (view_of guest).targets (parts_of command) guest (whole_of guest sound) loses.all loses.some

  either_way : AreForNone (after_command guest)
  either_way = of (decoded words) refl (fault_number guest.shape guest.tables (decoded words)) refl
    where
      of : (r : Result Command BadCommand) → decoded words ≡ r → (o : Option ℕ) → fault_number guest.shape guest.tables (decoded words) ≡ o → AreForNone (after_command guest)
      of r is (Some fault) e = stalls fault e
      of (Ok command) is None e = done command is (unmapped number_of (fault_of guest.shape guest.tables command) (ap (fault_number guest.shape guest.tables) (sym is) ∙ e))
      of (Err bad) is None e = absurd (none-some 10 (sym (ap (fault_number guest.shape guest.tables) (sym is) ∙ e)))

pub commands_leave_none : CommandsLeaveNone
commands_leave_none guest sound none = either_way guest sound none
