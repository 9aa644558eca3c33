-- What is noted of each actor's call as moments go on (own choice): a call goes by more than its own events, so the rest is noted as it happens. There is one definition a field.
use Rattle.std.specs.Prelude.{◌≡◌, ℕ, ◌+◌, ◌&&◌, ◌||◌, not, Bool, true, false, List, [], ◌∷◌, ◌++◌, map, length, Option, Some, None, slice_index_or, if◌then◌else◌}
use Rattle.std.specs.List.{range_with_len}
use Rattle.std.specs.Option.{option_map_or}
use Rattle.trace_told.specs.Words.{GuestShape, Lpi, Redist, Its, Mem, Msi, is_number}
use Rattle.trace_told.specs.Registers.{translated}
use Rattle.trace_told.specs.LegalLists.GicImap.Map.{decoded as its_decoded}
use Rattle.trace_told.specs.LegalLists.GicRmap.Map.{decoded as redist_decoded}
use Rattle.trace_told.specs.LegalLists.GicHistory.History.{is_midway}
use Rattle.trace_told.specs.Calls.{Event, ItsBegin, Done, Operation, Access, Device, Happened, Moment, Happens, sets_lpis, takes_turn}
use Rattle.trace_told.specs.GicCall.declared.event.Event.TheVariants.{Raise, Queue}
use Rattle.trace_told.specs.Histories.{Ideal, Call, Course, call_of, signalled_by, targets_in}
use Rattle.trace_told.specs.LegalPlay.Pieces.{piece_of}
use Rattle.history_turns.specs.Begun.{begins_command}
use Rattle.history_turns.specs.Mapped.{mapped_by}
use Rattle.history_turns.specs.Noted.{NotedOf, HasNoted, takes, place_by, nothing_seen, with_target, seen_at, seen_on, seen_anew}
use Rattle.history_turns.specs.declared.noted.Seen.{Seen}

-- what is noted of an actor's call, of these
abbrev pub nothing_noted : NotedOf
nothing_noted = record { signals = false; lpi = None; targets = []; done = []; commands = [] }

abbrev pub noted_of : List NotedOf → ℕ → NotedOf
noted_of notes actor = slice_index_or notes actor nothing_noted

-- that is noted of a call, which has raised what it signals or not
pub record IsNoted (shape : GuestShape) (signals : Bool) (call : Call) (noted : NotedOf) : Type 0 where
  pub signals_is : signals ≡ noted.signals
  pub has : HasNoted shape noted call.operation call

-- these are of the calls of a course
pub record AreNoted (shape : GuestShape) (course : Course) (notes : List NotedOf) : Type 0 where
  pub rooms : length notes ≡ length course.calls
  pub of : (actor : ℕ) (call : Call) → call_of course actor ≡ Some call → IsNoted shape (course.signals actor) call (noted_of notes actor)

-- Whether a message-signalled interrupt raised what it signals.

-- the actor that has the ITS, if one has it, is midway in a command, by what each made in its call
abbrev pub is_midway_in : Ideal → List (List Happened) → Bool
is_midway_in ideal pieces = option_map_or (λ actor. is_midway (piece_of pieces actor)) ideal.has_its false

-- an event raises the LPI that an operation signals, and no command is midway
abbrev pub is_signal_in : Bool → Ideal → Operation → Event → Bool
is_signal_in midway ideal operation (Raise (Lpi id)) = is_number id (signalled_by ideal operation) && not midway
is_signal_in midway ideal operation event = false

-- The LPI that a message-signalled interrupt signals by the maps as its call took the ITS.

abbrev pub lpi_noted : Ideal → Operation → Event → Option ℕ → Option ℕ
lpi_noted ideal (Device (Msi device event)) ItsBegin lpi = translated ideal.guest.tables true device event
lpi_noted ideal operation event lpi = lpi

-- For which vCPUs the LPIs were in a call that sets EnableLPIs.

-- the vCPU whose EnableLPIs it sets, if it does
abbrev pub rising_of : GuestShape → Operation → Option ℕ
rising_of shape (Access (Mem (Redist vcpu) offset size write)) = if sets_lpis shape (redist_decoded offset size) write then Some vcpu else None
rising_of shape operation = None

-- of each LPI, by its number from 0
abbrev pub of_each : GuestShape → (ℕ → Seen) → List Seen
of_each shape seen = map seen (range_with_len 0 shape.lpis)

-- as the call begins
abbrev pub first_seen : Ideal → ℕ → ℕ → Seen
first_seen ideal vcpu number = with_target vcpu (targets_in ideal (8192 + number)) nothing_seen

abbrev pub seen_first : Ideal → Option ℕ → List Seen
seen_first ideal rising = option_map_or (λ vcpu. of_each ideal.guest.shape (first_seen ideal vcpu)) rising []

-- at an event of its own, before it
abbrev pub made_seen : Option ℕ → Event → NotedOf → ℕ → Seen
made_seen place event noted number = seen_anew place event (8192 + number) (seen_at noted number)

abbrev pub seen_made : GuestShape → Option ℕ → List Happened → Event → NotedOf → List Seen
seen_made shape rising piece event noted = option_map_or (λ vcpu. of_each shape (made_seen (place_by piece) event noted)) rising []

-- after each event, of anyone
abbrev pub later_seen : Ideal → ℕ → Option ℕ → NotedOf → ℕ → Seen
later_seen ideal vcpu place noted number = seen_on vcpu place (8192 + number) (targets_in ideal (8192 + number)) (seen_at noted number)

abbrev pub seen_later : Ideal → Option ℕ → List Happened → NotedOf → List Seen
seen_later ideal rising piece noted = option_map_or (λ vcpu. of_each ideal.guest.shape (later_seen ideal vcpu (place_by piece) noted)) rising noted.targets

-- What a write of a register of the ITS that takes it goes by.

-- the operation is one
abbrev pub is_taking : GuestShape → Operation → Bool
is_taking shape (Access (Mem Its offset size write)) = takes_turn shape (its_decoded offset size) write
is_taking shape operation = false

-- the doublewords of all commands that were done, oldest first, after a moment
abbrev pub done_after : Moment → List (List ℕ) → List (List ℕ)
done_after (Happens actor (Queue offset (Done words)) found) all = all ++ words ∷ []
done_after moment all = all

-- those are all, since the guest's opening
abbrev pub AreAllDone : Ideal → List (List ℕ) → Type 0
AreAllDone ideal all = ideal.guest.tables ≡ mapped_by ideal.guest.shape all

-- the commands that were done before the call took the ITS: at an event of its own, before it
abbrev pub done_made : Bool → List (List ℕ) → Event → List (List ℕ) → List (List ℕ)
done_made taking all event done = if taking && takes event then all else done

-- for which vCPUs the LPIs are, in rising INTID
abbrev pub targets_now : Ideal → List (Option ℕ)
targets_now ideal = map (λ number. targets_in ideal (8192 + number)) (range_with_len 0 ideal.guest.shape.lpis)

-- for which they were as its own commands began: at an event of its own, before it
abbrev pub commands_made : Bool → Ideal → Event → List (List (Option ℕ)) → List (List (Option ℕ))
commands_made taking ideal event commands = if taking && begins_command event then commands ++ targets_now ideal ∷ [] else commands

-- All that is noted.

-- as a call begins
abbrev pub noted_first : Ideal → Operation → NotedOf
noted_first ideal operation = record { signals = false; lpi = None; targets = seen_first ideal (rising_of ideal.guest.shape operation); done = []; commands = [] }

-- at an event of a call's own, before it: what that made so far is given, and all commands that were done
abbrev pub noted_made : Ideal → List (List ℕ) → Bool → Operation → List Happened → Event → NotedOf → NotedOf
noted_made ideal all midway operation piece event noted =
    record {
      signals = noted.signals || is_signal_in midway ideal operation event;
      lpi = lpi_noted ideal operation event noted.lpi;
      targets = seen_made ideal.guest.shape (rising_of ideal.guest.shape operation) piece event noted;
      done = done_made (is_taking ideal.guest.shape operation) all event noted.done;
      commands = commands_made (is_taking ideal.guest.shape operation) ideal event noted.commands;
    }

-- of a write of a register of the ITS that takes it
abbrev pub taken : Ideal → List (List ℕ) → Event → NotedOf → NotedOf
taken ideal all event noted = record noted { targets = []; done = done_made true all event noted.done; commands = commands_made true ideal event noted.commands }

-- after each event, of a call or of none
abbrev pub rising_in : GuestShape → Option Operation → Option ℕ
rising_in shape operation = option_map_or (rising_of shape) operation None

abbrev pub noted_later : Ideal → Option Operation → List Happened → NotedOf → NotedOf
noted_later ideal operation piece noted = record noted { targets = seen_later ideal (rising_in ideal.guest.shape operation) piece noted }
