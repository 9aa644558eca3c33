-- A write of a register of the ITS, by the actor that has it, before any command.
use Rattle.std.specs.Prelude.{◌≡◌, ℕ, ◌&&◌, Bool, true, false, IsTrue, List, [], ◌++◌, Some, if◌then◌else◌}
use Rattle.pe_mem.specs.Registers.{Half, retries, Table, Devices, Collections, Baser0 as Baser0Reg, Baser1 as Baser1Reg}
use Rattle.pe_mem.specs.GicImap.declared.map.Reg.{Reg}
use Rattle.pe_mem.specs.Calls.{PlainWord, Baser0, Baser1, its_written, Makes, HaveSameIts, its_write_places, its_written_by, View}
use Rattle.pe_mem.specs.GicCall.Access.{starts_commands}
use Rattle.pe_mem.specs.Core.{Made, known_maps, Seen, Adds, shape_of, part_events}
use Rattle.pe_mem.specs.PortCall.Memory.{view_by}
use Rattle.pe_mem.specs.PortCall.Piece.{IsRestedPiece}
use Rattle.pe_mem.specs.ItsExec.declared.known.KnownQueue.{KnownQueue}
use Rattle.pe_mem.specs.ItsExec.Known.{queue_reads}
use Rattle.pe_mem.specs.ItsExec.Queue.{IsReady, MovesQueue}

-- the actor has the ITS with the tables as it knows them, and its queue so
abbrev pub IsReadyNow : Seen → KnownQueue → Type 0
IsReadyNow seen queue = IsReady seen (shape_of seen) (known_maps seen.own) queue

-- an actor that looked at the registers of the queue, and found them so, wrote a register: its events, with those looks, are the write's, of the guest
-- as it is in some view; where commands start, it knows the ITS that they start from
pub record WritesRegister (old new : Seen) (queue : KnownQueue) (reg : Reg) (half : Half) (value : ℕ) (starts : Bool) : Type 0 where
  pub view : View
  pub part : List Made
  pub adds : Adds old new part
  pub local_is : new.local ≡ old.local
  pub maps_are : view.maps ≡ known_maps old.own
  pub made : Makes (Some old.actor) view (its_written view reg half value) (its_write_places reg) [] (queue_reads queue ++ part_events old part)
  pub starts_are : starts_commands view reg half value ≡ starts
  pub left : IsTrue starts → HaveSameIts (its_written_by (shape_of old) view (its_written view reg half value)) (view_by new)
  pub piece : IsRestedPiece old part

-- a write of GITS_CWRITER ends a stall, or does not
abbrev pub Retries : Bool → Seen → Seen → ℕ → Type 0
Retries true old new offset = MovesQueue old new offset
Retries false old new offset = new ≡ old

abbrev pub RetriesBy : Seen → Seen → KnownQueue → ℕ → Type 0
RetriesBy old new queue value = Retries (queue.stalled && retries queue.cbaser value) old new queue.offset

-- the queue as it is known then
abbrev pub retried : KnownQueue → ℕ → KnownQueue
retried queue value = record queue { stalled = if queue.stalled && retries queue.cbaser value then false else queue.stalled }

-- the register of a table's address, and its plain word
abbrev pub baser_reg : Table → Reg
baser_reg Devices = Baser0Reg
baser_reg Collections = Baser1Reg

abbrev pub baser_word : Table → PlainWord
baser_word Devices = Baser0
baser_word Collections = Baser1
