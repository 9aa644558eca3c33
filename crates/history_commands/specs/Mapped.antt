-- What an ITS has mapped after commands, and for which vCPUs LPIs were as a call's commands began, as a record of that tells it (own choice of the record).
use Rattle.std.specs.Prelude.{ℕ, ◌-◌, nat_lt, is_none, List, [], fold, Option, Some, None, slice_get, slice_index_or, unwrap_or, if◌then◌else◌}
use Rattle.history_commands.specs.Words.{GuestShape}
use Rattle.history_commands.specs.Registers.{Maps, fault_number}
use Rattle.history_commands.specs.LegalLists.ItsCmd.Command.{decoded}
use Rattle.history_commands.specs.Calls.{maps_done}

abbrev pub nothing_mapped : Maps
nothing_mapped = record { devices = []; events = []; collections = [] }

-- the command of these doublewords is done, if it has no fault
abbrev pub mapped_after : GuestShape → Maps → List ℕ → Maps
mapped_after shape maps words = if is_none (fault_number shape maps (decoded words)) then maps_done maps words else maps

-- the maps after commands that were done one after the other, where nothing was mapped before
abbrev pub mapped_by : GuestShape → List (List ℕ) → Maps
mapped_by shape done = fold (mapped_after shape) nothing_mapped done

-- the vCPU of an LPI, if it is for one, of those that the LPIs are for in rising INTID
abbrev pub target_at : List (Option ℕ) → ℕ → Option ℕ
target_at targets id = if nat_lt id 8192 then None else slice_index_or targets (id - 8192) None

-- and as the command of a number began
abbrev pub targets_by : List (List (Option ℕ)) → ℕ → ℕ → Option ℕ
targets_by commands number id = target_at (slice_index_or commands number []) id
