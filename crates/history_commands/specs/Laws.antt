-- What the commands of an ITS are to the program.
use Rattle.std.specs.Prelude.{◌≡◌, ◌↔◌, ℕ, true, false, List, [], ◌∷◌, ◌++◌, length, Option, Some, None, is_none}
use Rattle.history_commands.specs.Words.{GuestShape}
use Rattle.history_commands.specs.Registers.{fault_number}
use Rattle.history_commands.specs.LegalLists.ItsCmd.Command.{decoded}
use Rattle.history_commands.specs.Calls.{Event, ItsBegin, Done, Found, Happened, Beside, Moment, Operation, IsItsCall, command_targets}
use Rattle.history_commands.specs.GicCall.declared.event.Event.TheVariants.{Queue}
use Rattle.history_commands.specs.Histories.{IdealGuest, Ideal, Call, begun, made, seeing, happened, call_of, course_of, opening_course}
use Rattle.history_commands.specs.Mapped.{nothing_mapped, mapped_by}
use Rattle.history_commands.specs.Begun.{begins_command, begun_by, takes_its, is_done, AreTargets, AreTargetsOf}
use Rattle.history_commands.specs.Written.{IsItsMade}

-- a write of a register of the ITS that takes it is over exactly where it is made so, by the maps that the ITS had as it was taken and by the vCPUs that the LPIs were for
-- as each command began; and it answers nothing
abbrev pub ItsWritesAreExact : Type 0
ItsWritesAreExact =
    (shape : GuestShape) (beside : Beside) (actor offset size value : ℕ) (piece : List Happened) (answer : Option ℕ)
    → IsItsCall shape beside actor offset size value piece answer ↔ (IsItsMade shape beside.maps (command_targets beside) actor offset size value piece × (answer ≡ None))

-- as many commands of an open call after moments of a guest have begun as its own events say
abbrev pub CommandsAreCounted : Type 0
CommandsAreCounted =
    (guest : IdealGuest) (moments : List Moment) (actor : ℕ) (call : Call) → call_of (course_of (opening_course guest) moments) actor ≡ Some call → length call.commands ≡ begun_by call.piece

-- for which vCPUs LPIs are as a call's commands begin: it begins with none, notes the guest's as it was before each event with which one begins, and nothing else
pub record CommandsGoOn : Type 0 where
  pub begins : (ideal : Ideal) (operation : Operation) → AreTargets (begun ideal operation).commands []
  pub notes :
      (ideal : Ideal) (event : Event) (found : Found) (call : Call) (noted : List (List (Option ℕ))) (targets : List (Option ℕ)) → begins_command event ≡ true → AreTargetsOf ideal targets → AreTargets call.commands noted
      → AreTargets (made ideal event found call).commands (noted ++ targets ∷ [])
  pub keeps : (ideal : Ideal) (event : Event) (found : Found) (call : Call) → begins_command event ≡ false → (made ideal event found call).commands ≡ call.commands
  pub sees : (ideal : Ideal) (call : Call) → (seeing ideal call).commands ≡ call.commands

-- what an ITS has mapped: a command that is done and has no fault adds to that, and no other event changes it; a call notes it as it takes the ITS, and nothing else
pub record MapsGoOn : Type 0 where
  pub opens : (shape : GuestShape) → mapped_by shape [] ≡ nothing_mapped
  pub done :
      (actor offset : ℕ) (words : List ℕ) (ideal : Ideal) (before : List (List ℕ)) → is_none (fault_number ideal.guest.shape ideal.guest.tables (decoded words)) ≡ true → ideal.guest.tables ≡ mapped_by ideal.guest.shape before
      → (happened actor (Queue offset (Done words)) ideal).guest.tables ≡ mapped_by ideal.guest.shape (before ++ words ∷ [])
  pub stays : (actor : ℕ) (event : Event) (ideal : Ideal) → is_done event ≡ false → (happened actor event ideal).guest.tables ≡ ideal.guest.tables
  pub notes : (ideal : Ideal) (found : Found) (call : Call) → (made ideal ItsBegin found call).maps ≡ ideal.guest.tables
  pub keeps : (ideal : Ideal) (event : Event) (found : Found) (call : Call) → takes_its event ≡ false → (made ideal event found call).maps ≡ call.maps
  pub sees : (ideal : Ideal) (call : Call) → (seeing ideal call).maps ≡ call.maps
