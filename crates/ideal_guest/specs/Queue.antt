-- What is true of the command queue of an ITS under the ideal controller (IHI 0069, "The ITS command queue").
use Rattle.std.specs.Prelude.{ℕ, ◌≡◌, ◌<◌, ◌%◌, not, Bool, true, false, IsTrue, Some}
use Rattle.floor_calls.specs.Registers.{Command, Movi, Int, Clear, Discard, Inv, fault_number, queue_bytes}
use Rattle.floor_calls.specs.ItsCmd.Command.{decoded}
use Rattle.floor_calls.specs.Calls.{Cbaser, Cwriter, Fault, takes_command, command_words}
use Rattle.ideal_guest.specs.declared.guest.IdealGuest.{IdealGuest}
use Rattle.ideal_guest.specs.Ideal.{view_of, word_at, with_word, with_queue, after_command, after_queued}
use Rattle.ideal_guest.specs.Sound.{IsSound}

-- a command that is about one event, which stays as it is or goes
abbrev pub is_of_event : Command → Bool
is_of_event (Movi device event icid) = true
is_of_event (Int device event) = true
is_of_event (Clear device event) = true
is_of_event (Discard device event) = true
is_of_event (Inv device event) = true
is_of_event command = false

-- the places of the queue: that of the next command, and the one up to which GITS_CWRITER has commands, are in the queue
pub record IsQueueInOrder (guest : IdealGuest) : Type 0 where
  pub next : guest.offset < queue_bytes (word_at guest Cbaser)
  pub writer : word_at guest Cwriter < queue_bytes (word_at guest Cbaser)
  pub place : word_at guest Cwriter % 32 ≡ 0

-- the commands that are taken are all: after them no further one can be
abbrev pub QueuesRunDry : Type 0
QueuesRunDry = (guest : IdealGuest) → IsSound guest → IsQueueInOrder guest → IsTrue (not (takes_command (view_of (after_queued guest))))

-- a command that has a fault changes nothing but this: the queue stalls at it, and the number of the fault is stored
abbrev pub BadCommandsStall : Type 0
BadCommandsStall =
    (guest : IdealGuest) (fault : ℕ) → fault_number guest.shape guest.tables (decoded (command_words guest.shape (view_of guest))) ≡ Some fault
    → after_command guest ≡ with_queue (with_word guest Fault fault) guest.offset true
