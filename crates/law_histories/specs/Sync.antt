-- What the ITS has done of its queue (IHI 0069, "SYNC": the effects of all commands before it are complete; own choice: each command is complete as it ends).
use Rattle.std.specs.Prelude.{◌≡◌, ℕ, List, [], ◌∷◌, ◌++◌, map, fold, Ok, Option, Some, None}
use Rattle.std.specs.List.{filter_map}
use Rattle.std.specs.Option.{option_map_or}
use Rattle.floor_histories.specs.Words.{Lpi, ClearPending, GuestShape}
use Rattle.floor_histories.specs.Registers.{Command, fault_number, Maps}
use Rattle.floor_histories.specs.ItsCmd.Command.{decoded}
use Rattle.floor_histories.specs.Calls.{Part, Map, Clear, Event, Touch, Put, ItsBegin, Found, Moment, Happens, Done, Stalls, Register, MapLpi, parts, maps_done, Happened}
use Rattle.floor_histories.specs.GicCall.declared.command.Part.TheVariants.{Forget, Retarget, Raise, Configure}
use Rattle.floor_histories.specs.GicCall.declared.event.Event.TheVariants.{Raise as RaiseEvent, Queue}
use Rattle.floor_histories.specs.GicCall.declared.touch.Touching.TheVariants.{Retarget as RetargetLpi, Configure as ConfigureLpi, Forget as ForgetLpi}
use Rattle.floor_histories.specs.Histories.{Call, call_of, course_of, opening_course, IsHistory, IsWhole, last_of, IdealGuest, CanOpen}

-- Commands.

-- the doublewords of the good commands of a history, oldest first
abbrev pub command_in : Moment → Option (List ℕ)
command_in (Happens actor (Queue offset (Done words)) found) = Some words
command_in moment = None

abbrev pub commands_of : List Moment → List (List ℕ)
commands_of moments = filter_map command_in moments

-- what they have mapped, one after the other
abbrev pub mapped_by : Maps → List (List ℕ) → Maps
mapped_by maps commands = fold maps_done maps commands

-- the part of a command that an event is, if it is one; the configuration that a touch brings is what its call read, and no matter here
abbrev pub part_of : Event → Option Part
part_of (RaiseEvent (Lpi id)) = Some (Raise id)
part_of (Touch (Lpi id) (Register ClearPending value)) = Some (Clear id)
part_of (Touch (Lpi id) ForgetLpi) = Some (Forget id)
part_of (Touch (Lpi id) (MapLpi target enabled prio)) = Some (Map id target)
part_of (Touch (Lpi id) (RetargetLpi target)) = Some (Retarget id target)
part_of (Touch (Lpi id) (ConfigureLpi enabled prio)) = Some (Configure id)
part_of event = None

-- the parts that a call has done of its next command: those since it took the ITS, stored a register or ended a command
abbrev pub more_parts : List Part → Event → List Part
more_parts done ItsBegin = []
more_parts done (Put word value) = []
more_parts done (Queue offset change) = []
more_parts done event = option_map_or (λ part. done ++ part ∷ []) (part_of event) done

abbrev pub parts_in : List Happened → List Part
parts_in piece = fold more_parts [] (map (λ happened. happened.event) piece)

-- Their ends.

-- the vCPU that each LPI was for as the command began that a call is in: as it took the ITS, or as the command before ended
abbrev pub begun_for : Call → ℕ → Option ℕ
begun_for call = fold (λ before now. now) (λ id. None) call.commands

-- a call ends a good command: by the maps of that moment it has no fault, and the call has done its parts, in order, by the vCPUs that the LPIs were for
-- as it began
pub record IsDone (shape : GuestShape) (maps : Maps) (call : Call) (words : List ℕ) : Type 0 where
  pub command : Command
  pub is : decoded words ≡ Ok command
  pub good : fault_number shape maps (decoded words) ≡ None
  pub done : parts_in call.piece ≡ parts shape maps (begun_for call) command

-- a call ends a bad one: it has this fault, and the call has done nothing of it
pub record IsStalled (shape : GuestShape) (maps : Maps) (call : Call) (fault : ℕ) : Type 0 where
  pub words : List ℕ
  pub is : fault_number shape maps (decoded words) ≡ Some fault
  pub nothing : parts_in call.piece ≡ []

-- the call of an actor ends one so, where the history so far is this
pub record EndsWell (guest : IdealGuest) (moments : List Moment) (actor : ℕ) (words : List ℕ) : Type 0 where
  pub call : Call
  pub its : call_of (course_of (opening_course guest) moments) actor ≡ Some call
  pub well : IsDone guest.shape (last_of guest moments).guest.tables call words

pub record EndsBadly (guest : IdealGuest) (moments : List Moment) (actor fault : ℕ) : Type 0 where
  pub call : Call
  pub its : call_of (course_of (opening_course guest) moments) actor ≡ Some call
  pub badly : IsStalled guest.shape (last_of guest moments).guest.tables call fault

-- The law.

-- at a moment, as after a SYNC: the maps are what all good commands so far made of those with which the guest opened, and each of them was done before it ended; a bad one was not begun
pub record IsSynced (guest : IdealGuest) (moments : List Moment) : Type 0 where
  pub maps : (last_of guest moments).guest.tables ≡ mapped_by guest.tables (commands_of moments)
  pub well : (early late : List Moment) (actor offset : ℕ) (words : List ℕ) (found : Found) → moments ≡ early ++ Happens actor (Queue offset (Done words)) found ∷ late → EndsWell guest early actor words
  pub badly : (early late : List Moment) (actor offset fault : ℕ) (found : Found) → moments ≡ early ++ Happens actor (Queue offset (Stalls fault)) found ∷ late → EndsBadly guest early actor fault

-- at each moment of a history of a guest that can go on until all its calls ended
abbrev pub SyncHolds : Type 0
SyncHolds = (guest : IdealGuest) (moments more : List Moment) → CanOpen guest → IsHistory guest (moments ++ more) → IsWhole guest (moments ++ more) → IsSynced guest moments
