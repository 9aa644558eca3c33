-- A run of the queue: its commands are those that the law of calls asks for.
use Rattle.std.specs.Prelude.{◌≡◌, ℕ, ◌+◌, false, List, [], ◌∷◌, Option}
use Rattle.port_call.specs.Words.{GuestShape}
use Rattle.port_call.specs.Calls.{takes_command, Happened, Beside, HaveSameIts, AreCommands, View, command_targets}
use Rattle.port_call.specs.Registers.{Maps}
use Rattle.port_call.specs.Core.{Made, known_maps, Seen, Adds, shape_of, part_events, Progress}
use Rattle.port_call.specs.Memory.{view_by}
use Rattle.port_call.specs.Piece.{IsIdle, IsGoodPiece}
use Rattle.its_exec.specs.Command.{IsItsWrite}
use Rattle.its_exec.specs.declared.known.KnownQueue.{KnownQueue}
use Rattle.its_exec.specs.declared.queue.QueueEnd.{QueueEnd}
use Rattle.its_exec.specs.Known.{AgreeWith, LooksAtQueue}
use Rattle.its_exec.specs.Queue.{Taken, AreTaken, IsOverWith}

-- the vCPUs that the LPIs are for as each command begins, the first of which has this number, agree with what it found
abbrev pub AgreeAll : Beside → ℕ → List Taken → Type 0
AgreeAll beside number [] = Unit {0}
AgreeAll beside number (one ∷ rest) = AgreeWith one.takes.last (known_maps one.from.own) (command_targets beside number) × AgreeAll beside (number + 1) rest

-- a piece is all commands that are taken, with the guest as in some views as they begin
pub record AreListed (actor : Option ℕ) (shape : GuestShape) (beside : Beside) (number : ℕ) (its : View) (piece : List Happened) : Type 0 where
  pub views : List View
  pub are : AreCommands actor shape beside number its views piece

-- commands that were taken, one after the other, are one part: its events are those of all commands that are taken, where no further one is, and it is
-- proper in a write of a register of the ITS
pub record IsRun (old new : Seen) (commands : List Taken) : Type 0 where
  pub steps : List Made
  pub adds : Adds old new steps
  pub events :
      (actor : Option ℕ) (beside : Beside) (number : ℕ) (its : View) → AgreeAll beside number commands → takes_command (view_by new) ≡ false → HaveSameIts its (view_by old)
      → AreListed actor (shape_of old) beside number its (part_events old steps)
  pub piece : (p : Progress) → IsIdle old p → IsItsWrite p → p.wants ≡ [] → IsGoodPiece old p steps

abbrev pub TakenAreRuns : Type 0
TakenAreRuns = (old new : Seen) (commands : List Taken) → AreTaken old commands new → IsRun old new commands

-- The queue as it is found.

-- an actor looked at the registers of the queue, and took commands until no further one is taken. That is one part: its events are those of all commands
-- that are taken of the ITS as the looks found it, and it is proper in a write of a register of the ITS
pub record RunsQueue (old new : Seen) (shape : GuestShape) (tables : Maps) (end : QueueEnd) : Type 0 where
  pub start : Seen
  pub queue : KnownQueue
  pub looks : LooksAtQueue old start queue
  pub over : IsOverWith start new shape tables end
  pub steps : List Made
  pub adds : Adds old new steps
  pub events :
      (actor : Option ℕ) (beside : Beside) (number : ℕ) (its : View) → AgreeAll beside number over.commands → HaveSameIts its (view_by start)
      → AreListed actor (shape_of old) beside number its (part_events old steps)
  pub piece : (p : Progress) → IsIdle old p → IsItsWrite p → p.wants ≡ [] → IsGoodPiece old p steps
