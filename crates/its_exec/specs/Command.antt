-- What an actor does for a command.
use Rattle.std.specs.Prelude.{◌≡◌, ℕ, ◌+◌, ◌%◌, ◌≤◌, ◌==◌, Bool, IsTrue, List, [], Option, Some, None, Ok}
use Rattle.std.specs.List.{list_any}
use Rattle.port_call.specs.Words.{Lpi, Its, Mem, has_interrupt}
use Rattle.port_call.specs.Calls.{Cbaser, Part, Access, parts, command_words, queue_address, Happened, ArePartsThen}
use Rattle.port_call.specs.Registers.{Command, fault_of, Maps}
use Rattle.port_call.specs.ItsCmd.Command.{decoded}
use Rattle.port_call.specs.Core.{Made, known_maps, Seen, Adds, shape_of, part_events, Progress}
use Rattle.port_call.specs.Memory.{view_by}
use Rattle.port_call.specs.Piece.{IsIdle, IsGoodPiece}
use Rattle.port_call.specs.Rest.{StaysAtEase}
use Rattle.its_exec.specs.Known.{HasFetched, IsUntouched, AgreeFound, AgreeWith, are_within, are_going, HasBegun}
use Rattle.its_exec.specs.Config.{Keeps}
use Rattle.its_exec.specs.Parts.{lpi_of}

-- a command has a part of an LPI
abbrev pub has_part : ℕ → List Part → Bool
has_part id done = list_any (λ part. lpi_of part == id) done

-- the next command, at an address, is this one, has no fault with these maps, and was read
pub record HasCommand (seen : Seen) (address : ℕ) (maps : Maps) (command : Command) : Type 0 where
  pub aligned : address % 8 ≡ 0
  pub address_is : queue_address ((view_by seen).words Cbaser) + (view_by seen).offset ≡ address
  pub maps_are : known_maps seen.own ≡ maps
  pub decoded_is : decoded (command_words (shape_of seen) (view_by seen)) ≡ Ok command
  pub good : fault_of (shape_of seen) maps command ≡ None
  pub begun : HasBegun seen address

-- the actor's call is a write of a register of the ITS
pub record IsItsWrite (p : Progress) : Type 0 where
  pub offset : ℕ
  pub size : ℕ
  pub value : ℕ
  pub is : p.operation ≡ Some (Access (Mem Its offset size (Some value)))

-- no event is left
abbrev pub IsOver : List Happened → Type 0
IsOver piece = piece ≡ []

-- the actor did some parts of the command at an address, one after the other; it made no step on the words of LPIs from `top` on
pub record DoesParts (old new : Seen) (address : ℕ) (maps : Maps) (command : Command) (top : ℕ) (done : List Part) : Type 0 where
  pub steps : List Made
  pub adds : Adds old new steps
  pub within : IsTrue (are_within steps)
  pub going : IsTrue (are_going steps)
  pub local_is : StaysAtEase old.local new.local
  pub keeps : Keeps old new address steps
  pub untouched : (id : ℕ) → IsTrue (has_interrupt (shape_of old) (Lpi id)) → top ≤ id → IsUntouched old id → IsUntouched new id
  pub makes :
      (actor : Option ℕ) (targets : ℕ → Option ℕ) → AgreeFound new targets
      → (words before : List Happened) → HasFetched old address words → HasFetched old address before → ArePartsThen actor (shape_of old) targets words done IsOver before (part_events old steps)
  pub piece : (p : Progress) → IsIdle old p → IsItsWrite p → p.wants ≡ [] → HasCommand old address maps command → IsGoodPiece old p steps

-- the actor did all parts of the command: those that it has, whatever vCPUs the other LPIs are for
pub record DoesCommand (old new : Seen) (address : ℕ) (maps : Maps) (command : Command) : Type 0 where
  pub top : ℕ
  pub done : List Part
  pub does : DoesParts old new address maps command top done
  pub all : (targets : ℕ → Option ℕ) → AgreeWith new maps targets → parts (shape_of old) maps targets command ≡ done
