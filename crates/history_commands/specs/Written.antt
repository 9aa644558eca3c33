-- Writes of registers of the ITS that take it: when what one made is the call, said of its own events, of the maps that it took, and of the vCPUs that LPIs were for as
-- its commands began.
use Rattle.std.specs.Prelude.{◌≡◌, ℕ, Bool, true, false, List, [], ◌∷◌, ◌++◌, Option, Some, None, if◌then◌else◌}
use Rattle.history_commands.specs.Words.{GuestShape, Its as ItsFrame}
use Rattle.history_commands.specs.Registers.{Maps}
use Rattle.history_commands.specs.Calls.{Event, ItsBegin, Happened, View, Makes, access_events, access_places, its_starts, its_written_by, named_of, is_beside}
use Rattle.history_commands.specs.GicImap.Map.{decoded as its_decoded}
use Rattle.history_commands.specs.GicCall.declared.event.Found.TheVariants.{Nothing}
use Rattle.history_commands.specs.HistoryCalls.Found.{found_by}
use Rattle.history_commands.specs.Known.{its_in}
use Rattle.history_commands.specs.Stage.{Stage, Between, Ending, Follow}

-- the commands that a write starts, where the guest is as in a view before it
abbrev pub starting : GuestShape → View → Maps → ℕ → ℕ → ℕ → Stage
starting shape view maps offset size value =
    if its_starts shape view (its_decoded offset size) (Some value)
    then Between 0 (its_in (its_written_by shape view (access_events shape view ItsFrame offset size (Some value)))) maps []
    else Ending

-- the ITS was taken, of a call that is open or over: the register is written, as what was read till then and not later tells, and the commands follow
pub record IsWritten (shape : GuestShape) (maps : Maps) (targets : ℕ → ℕ → Option ℕ) (actor offset size value : ℕ) (is_open : Bool) (piece : List Happened) : Type 0 where
  pub written : List Happened
  pub later : List Happened
  pub split : piece ≡ written ++ later
  pub made :
      Makes (Some actor) (found_by written) (access_events shape (found_by written) ItsFrame offset size (Some value)) (access_places shape (found_by written) ItsFrame offset size (Some value)) [] written
  pub follow : Follow shape targets actor is_open (starting shape (found_by written) maps offset size value) later

-- no event is named before this one
pub record IsFirstNamed (actor : ℕ) (piece : List Happened) (first : Happened) (rest : List Happened) : Type 0 where
  pub idle : List Happened
  pub split : piece ≡ idle ++ first ∷ rest
  pub quiet : named_of (Some actor) idle ≡ []
  pub named : is_beside (Some actor) first.event ≡ false

-- the call: the ITS is taken, the register is written, and the commands are done until the ITS is given back
pub record IsItsMade (shape : GuestShape) (maps : Maps) (targets : ℕ → ℕ → Option ℕ) (actor offset size value : ℕ) (piece : List Happened) : Type 0 where
  pub first : Happened
  pub rest : List Happened
  pub is_first : IsFirstNamed actor piece first rest
  pub taken : first.event ≡ ItsBegin
  pub found : first.found ≡ Nothing
  pub goes_on : IsWritten shape maps targets actor offset size value false rest
