-- What a call notes of an ITS and of LPIs as its commands begin, and how that goes on.
use Rattle.std.specs.Prelude.{◌≡◌, ℕ, ◌+◌, ◌<◌, Bool, true, false, List, length, filter, Option, None, slice_index_or}
use Rattle.history_commands.specs.Calls.{Event, ItsBegin, QueueChange, Runs, Done, Happened}
use Rattle.history_commands.specs.GicCall.declared.event.Event.TheVariants.{Queue}
use Rattle.history_commands.specs.Histories.{Ideal, targets_in}
use Rattle.history_commands.specs.Mapped.{targets_by}

-- as a call takes the ITS its first command begins, and as a command ends the next one
abbrev pub begins_command : Event → Bool
begins_command ItsBegin = true
begins_command (Queue offset Runs) = false
begins_command (Queue offset change) = true
begins_command event = false

-- how many commands of a call began, by its own events
abbrev pub begun_by : List Happened → ℕ
begun_by piece = length (filter (λ happened. begins_command happened.event) piece)

-- each LPI was for this vCPU, or for none, as each command began: of an LPI that the guest does not have nothing is said, and it is for none
pub record AreTargets (begun : List (ℕ → Option ℕ)) (noted : List (List (Option ℕ))) : Type 0 where
  pub count : length begun ≡ length noted
  pub each : (number id : ℕ) → slice_index_or begun number (λ lpi. None) id ≡ targets_by noted number id

-- these are the vCPUs that the LPIs of a guest are for, in rising INTID
pub record AreTargetsOf (ideal : Ideal) (targets : List (Option ℕ)) : Type 0 where
  pub count : length targets ≡ ideal.guest.shape.lpis
  pub each : (number : ℕ) → number < ideal.guest.shape.lpis → slice_index_or targets number None ≡ targets_in ideal (8192 + number)

-- the ITS is taken
abbrev pub takes_its : Event → Bool
takes_its ItsBegin = true
takes_its event = false

-- the end of a command
abbrev pub is_done : Event → Bool
is_done (Queue offset (Done words)) = true
is_done event = false
