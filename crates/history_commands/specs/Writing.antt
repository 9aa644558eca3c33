-- How the program finds the register's part of a write of the ITS: which events it can have, and where it may end (own choice).
use Rattle.std.specs.Prelude.{◌≡◌, ℕ, ◌||◌, Bool, true, false, List, [], map, All, Option, Some}
use Rattle.history_commands.specs.Words.{GuestShape, Its as ItsFrame}
use Rattle.history_commands.specs.Registers.{Maps}
use Rattle.history_commands.specs.Calls.{Event, Put, Runs, Happened, View, HandsOut, Makes, access_events, access_places, is_beside, named_of}
use Rattle.history_commands.specs.GicCall.declared.event.Event.TheVariants.{Queue}
use Rattle.history_commands.specs.HistoryCalls.Found.{found_by}
use Rattle.history_commands.specs.Stage.{Follow}
use Rattle.history_commands.specs.Written.{starting}

-- a write of a register can have this event
abbrev pub is_of_its : Event → Bool
is_of_its (Put word value) = true
is_of_its (Queue offset Runs) = true
is_of_its event = false

-- or it is not named
abbrev pub may_be_written : Option ℕ → Event → Bool
may_be_written actor event = is_beside actor event || is_of_its event

-- the named events are these, and hand out what the view has
pub record IsRegisterMade (actor : Option ℕ) (view : View) (events : List Event) (piece : List Happened) : Type 0 where
  pub events_are : map (λ happened. happened.event) (named_of actor piece) ≡ events
  pub found : All (λ happened. HandsOut view happened.event happened.found) (named_of actor piece)

-- the register is written before a place, and the commands follow from there
pub record IsWrittenAt (shape : GuestShape) (maps : Maps) (targets : ℕ → ℕ → Option ℕ) (actor offset size value : ℕ) (is_open : Bool) (written later : List Happened) : Type 0 where
  pub made :
      Makes (Some actor) (found_by written) (access_events shape (found_by written) ItsFrame offset size (Some value)) (access_places shape (found_by written) ItsFrame offset size (Some value)) [] written
  pub follow : Follow shape targets actor is_open (starting shape (found_by written) maps offset size value) later
