-- The command queue, as an actor that has the ITS goes over it.
use Rattle.std.specs.Prelude.{◌≡◌, ℕ, ◌+◌, ◌%◌, true, false, IsTrue, List, [], ◌∷◌, ◌++◌, fold, Option, Some, None}
use Rattle.port_call.specs.Words.{GuestShape}
use Rattle.port_call.specs.Calls.{queue_address, command_words, queue_event, Runs, Fault as FaultWord, Happened, HaveSameIts, IsCommand, left_by, View}
use Rattle.port_call.specs.GicCall.declared.event.Event.TheVariants.{Queue as QueueEvent}
use Rattle.port_call.specs.GicCall.declared.event.Found.TheVariants.{Nothing}
use Rattle.port_call.specs.Registers.{fault_number, IsValid, Maps}
use Rattle.port_call.specs.ItsCmd.Command.{decoded}
use Rattle.port_call.specs.Core.{CoreStep, RamLook, CommandDone, fault_place, has_all_shut, known_maps, ends_command, Made, Seen, Adds, AddsStep, shape_of, part_events, Progress}
use Rattle.port_call.specs.Piece.{IsIdle, IsGoodPiece, IsRestedPiece}
use Rattle.its_exec.specs.Command.{IsItsWrite}
use Rattle.port_call.specs.Memory.{view_by}
use Rattle.port_call.specs.Rest.{IsAtEase}
use Rattle.port_call.specs.Store.{Stores}
use Rattle.its_exec.specs.declared.fetch.Fetched.{Fetched}
use Rattle.its_exec.specs.declared.known.KnownQueue.{KnownQueue}
use Rattle.its_exec.specs.Config.{HoldsCommand}
use Rattle.its_exec.specs.declared.queue.QueueEnd.{QueueEnd}
use Rattle.its_exec.specs.declared.queue.QueueEnd.TheVariants.{Empty, Stalled}
use Rattle.its_exec.specs.Known.{KnowsQueue, AgreeWith, are_within, takes_next}
use Rattle.its_exec.specs.Plan.{IsFresh}

-- the actor has the ITS with these tables, knows all translation lines to be shut, and is where a command begins
pub record IsReady (seen : Seen) (shape : GuestShape) (tables : Maps) (queue : KnownQueue) : Type 0 where
  pub shape_is : shape ≡ shape_of seen
  pub taken : IsTrue seen.taken
  pub ease : IsAtEase seen.local
  pub lines : IsTrue (has_all_shut seen.local)
  pub maps : tables ≡ known_maps seen.own
  pub valid : IsValid shape tables
  pub fresh : IsFresh seen
  pub knows : KnowsQueue seen queue

-- the actor has the ITS with these tables, knows all translation lines to be shut, and owes nothing
pub record HasIts (seen : Seen) (tables : Maps) : Type 0 where
  pub taken : IsTrue seen.taken
  pub ease : IsAtEase seen.local
  pub lines : IsTrue (has_all_shut seen.local)
  pub maps : tables ≡ known_maps seen.own
  pub valid : IsValid (shape_of seen) tables

-- a write of a register moved the queue to an offset, and ended its stall
pub record MovesQueue (old new : Seen) (offset : ℕ) : Type 0 where
  pub made : Made
  pub adds : Adds old new (made ∷ [])
  pub step_is : made.step ≡ CommandDone offset false None
  pub local_is : new.local ≡ old.local
  pub events : part_events old (made ∷ []) ≡ (record { event = QueueEvent offset Runs; found = Nothing }) ∷ []
  pub piece : IsRestedPiece old (made ∷ [])

-- it holds the next command as it was fetched
pub record HoldsNext (seen : Seen) (queue : KnownQueue) (fetched : Fetched) : Type 0 where
  pub knows : KnowsQueue seen queue
  pub holds : HoldsCommand seen fetched
  pub address_is : fetched.address ≡ queue_address queue.cbaser + queue.offset
  pub words_are : fetched.words ≡ command_words (shape_of seen) (view_by seen)

-- and that has a fault with the maps that it knows
pub record HasBad (seen : Seen) (queue : KnownQueue) (fault : ℕ) : Type 0 where
  pub fetched : Fetched
  pub next : HoldsNext seen queue fetched
  pub bad : fault_number (shape_of seen) (known_maps seen.own) (decoded fetched.words) ≡ Some fault

-- it made one step
pub record MakesStep (old new : Seen) (step : CoreStep) : Type 0 where
  pub found : ℕ
  pub adds : AddsStep old new step found

-- it stored the number of a fault, and then the queue stalled
pub record StallsAt (old new : Seen) (offset fault : ℕ) : Type 0 where
  pub mid : Seen
  pub stores : Stores old mid FaultWord fault
  pub ends : MakesStep mid new (CommandDone offset true None)

-- a look found the number of the fault that is stored
pub record LooksAtFault (old new : Seen) (fault : ℕ) : Type 0 where
  pub found : ℕ
  pub adds : AddsStep old new (RamLook (fault_place (shape_of old))) found
  pub fault_is : fault ≡ found % 256

-- the fault of a queue that is stalled is that of the last command that was taken, if it had one, and else the one that is stored
abbrev pub TellsFault : Seen → Seen → Option ℕ → ℕ → Type 0
TellsFault old new (Some last) fault = (new ≡ old) × (fault ≡ last)
TellsFault old new None fault = LooksAtFault old new fault

-- the queue is stalled at an offset, with this fault
pub record IsStalled (old new : Seen) (queue : KnownQueue) (last : Option ℕ) (offset fault : ℕ) : Type 0 where
  pub stalled : queue.stalled ≡ true
  pub offset_is : offset ≡ queue.offset
  pub fault_is : TellsFault old new last fault

-- how the queue is at its end, where the last command that was taken had this fault, or none
abbrev pub EndsAt : Seen → Seen → KnownQueue → Option ℕ → QueueEnd → Type 0
EndsAt old new queue last Empty = (new ≡ old) × (queue.stalled ≡ false)
EndsAt old new queue last (Stalled offset fault) = IsStalled old new queue last offset fault

-- some events are those of the next command of the ITS as the actor knew it, which has this fault or none, where the LPIs are for these vCPUs as it
-- begins; and the actor knows what they left
pub record AreOfCommand (old new : Seen) (fault : Option ℕ) (actor : Option ℕ) (targets : ℕ → Option ℕ) (piece : List Happened) : Type 0 where
  pub view : View
  pub same : HaveSameIts (view_by old) view
  pub targets_are : view.targets ≡ targets
  pub fault_is : fault_number (shape_of old) view.maps (decoded (command_words (shape_of old) view)) ≡ fault
  pub command : IsCommand actor (shape_of old) view piece
  pub left : HaveSameIts (left_by (shape_of old) view (queue_event (shape_of old) view)) (view_by new)

-- some steps are those of one command: the actor was where a command begins, then came steps that end none, and then the one that ends it
pub record AreOfOne (old last : Seen) (steps : List Made) : Type 0 where
  pub fresh : IsFresh old
  pub first : List Made
  pub adds : Adds old last first
  pub within : IsTrue (are_within first)
  pub ending : Made
  pub ends : IsTrue (ends_command ending.step)
  pub split : steps ≡ first ++ ending ∷ []

-- the actor took a command, which has this fault or none: what is to be seen of its steps are the events of that command, whatever vCPUs the LPIs are
-- for that it did not find; and they are proper. It has for itself what it had, but for the interrupt whose marks it sent last
pub record TakesCommand (old new : Seen) (fault : Option ℕ) : Type 0 where
  pub last : Seen
  pub steps : List Made
  pub adds : Adds old new steps
  pub one : AreOfOne old last steps
  pub local_is : record new.local { marks = old.local.marks } ≡ old.local
  pub is : (actor : Option ℕ) (targets : ℕ → Option ℕ) → AgreeWith last (known_maps old.own) targets → AreOfCommand old new fault actor targets (part_events old steps)
  pub piece : (p : Progress) → IsIdle old p → IsItsWrite p → p.wants ≡ [] → IsGoodPiece old p steps

-- commands that were taken, one after the other
pub record Taken : Type 0 where
  pub from : Seen
  pub to : Seen
  pub fault : Option ℕ
  pub takes : TakesCommand from to fault

abbrev pub AreTaken : Seen → List Taken → Seen → Type 0
AreTaken old [] new = new ≡ old
AreTaken old (one ∷ rest) new = (one.from ≡ old) × AreTaken one.to rest new

-- the fault of the last of them, if it had one
abbrev pub last_fault : List Taken → Option ℕ
last_fault commands = fold (λ before one. one.fault) None commands

pub record TakesAll (old new : Seen) (fault : Option ℕ) : Type 0 where
  pub commands : List Taken
  pub are : AreTaken old commands new
  pub fault_is : last_fault commands ≡ fault

-- the actor is over with the queue: it took commands until no further one is taken, and was told how the queue ended
pub record IsOverWith (old new : Seen) (shape : GuestShape) (tables : Maps) (end : QueueEnd) : Type 0 where
  pub mid : Seen
  pub queue : KnownQueue
  pub commands : List Taken
  pub taken : AreTaken old commands mid
  pub ready : IsReady mid shape tables queue
  pub over : takes_next queue ≡ false
  pub ends : EndsAt mid new queue (last_fault commands) end
