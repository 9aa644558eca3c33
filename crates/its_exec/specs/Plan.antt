-- The parts of a command in the order in which an actor does them: those of one event, and those of several LPIs.
use Rattle.std.specs.Prelude.{◌≡◌, ℕ, ◌+◌, Bool, true, false, IsTrue, is_some, List, Option, Some, None, if◌then◌else◌}
use Rattle.std.specs.Option.{option_map}
use Rattle.port_call.specs.Words.{Lpi, GuestShape, has_interrupt}
use Rattle.port_call.specs.Calls.{Part, Map, Clear, each, parts}
use Rattle.port_call.specs.GicCall.declared.command.Part.TheVariants.{Forget, Retarget, Raise, Configure}
use Rattle.port_call.specs.Registers.{Command, Movi, Int, Clear as ClearCommand, Mapd, Mapc, Mapti, Mapi, Inv, Invall, Movall, Discard, Maps, pair_of, id_of, target_of}
use Rattle.port_call.specs.Core.{reading_of, Seen, shape_of}
use Rattle.its_exec.specs.Known.{IsUntouched}
use Rattle.its_exec.specs.Command.{DoesParts}
use Rattle.its_exec.specs.Parts.{DoesPart}

-- the actor has the ITS, and the present command made no step on the word of any LPI yet
pub record IsFresh (seen : Seen) : Type 0 where
  pub reading : IsTrue (is_some (reading_of seen.own))
  pub each : (id : ℕ) → IsTrue (has_interrupt (shape_of seen) (Lpi id)) → IsUntouched seen id

-- an event that is mapped again: what it had is forgotten first
abbrev pub first_of : Maps → Command → Option Part
first_of maps (Mapti device event id icid) = option_map Forget (id_of maps (device, event))
first_of maps (Mapi device event icid) = option_map Forget (id_of maps (device, event))
first_of maps command = None

-- the part of the event of a command
abbrev pub second_of : Maps → Command → Option Part
second_of maps (Mapti device event id icid) = option_map (Map id) (target_of maps icid)
second_of maps (Mapi device event icid) = option_map (Map event) (target_of maps icid)
second_of maps (Movi device event icid) = option_map (λ id. Retarget id (target_of maps icid)) (id_of maps (device, event))
second_of maps (Int device event) = option_map Raise (id_of maps (device, event))
second_of maps (ClearCommand device event) = option_map Clear (id_of maps (device, event))
second_of maps (Discard device event) = option_map Forget (id_of maps (device, event))
second_of maps (Inv device event) = option_map Configure (id_of maps (device, event))
second_of maps command = None

-- a command is about the LPIs of a collection or of a vCPU
abbrev pub is_several : Maps → Command → Bool
is_several maps (Mapc icid rdbase valid) = if valid then true else is_some (target_of maps icid)
is_several maps (Invall icid) = true
is_several maps (Movall rdbase second) = true
is_several maps command = false

-- a MAPD is about the LPIs of a device
abbrev pub is_mapd : Command → Bool
is_mapd (Mapd device size itt_addr valid) = true
is_mapd command = false

-- the actor did a part, if there is one
abbrev pub DoesSome : Seen → Seen → ℕ → Option Part → Type 0
DoesSome old new address None = new ≡ old
DoesSome old new address (Some part) = DoesPart old new address part

-- the INTIDs that events have are LPIs of the guest
pub record HasLpis (shape : GuestShape) (maps : Maps) : Type 0 where
  pub each : (event pair : ℕ × ℕ) → pair_of maps event ≡ Some pair → IsTrue (has_interrupt shape (Lpi pair.0))

-- the actor forgot the LPI of an event
pub record ForgetsEvent (old new : Seen) (address : ℕ) (maps : Maps) (event : ℕ × ℕ) : Type 0 where
  pub pair : ℕ × ℕ
  pub is : pair_of maps event ≡ Some pair
  pub does : DoesPart old new address (Forget pair.0)

-- all LPIs of the guest have INTIDs below this
abbrev pub lpis_end : GuestShape → ℕ
lpis_end shape = 8192 + shape.lpis

-- the actor forgot these LPIs, in this order, where they are all parts of the command
pub record ForgetsAll (old new : Seen) (address : ℕ) (ids : List ℕ) : Type 0 where
  pub does :
      (maps : Maps) (command : Command) → ((targets : ℕ → Option ℕ) → parts (shape_of old) maps targets command ≡ each ids Forget)
      → DoesParts old new address maps command (lpis_end (shape_of old)) (each ids Forget)
