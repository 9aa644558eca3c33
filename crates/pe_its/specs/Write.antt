-- The actor that has the ITS serves a write of a register: the register, and the commands that this starts.
use Rattle.std.specs.Prelude.{◌≡◌, ℕ, Bool, true, false}
use Rattle.pe_mem.specs.Words.{GuestShape}
use Rattle.pe_mem.specs.Registers.{Half, Maps}
use Rattle.pe_mem.specs.GicImap.declared.map.Reg.{Reg}
use Rattle.pe_mem.specs.Core.{Seen}
use Rattle.pe_mem.specs.ItsExec.declared.known.KnownQueue.{KnownQueue}
use Rattle.pe_mem.specs.ItsExec.declared.queue.QueueEnd.{QueueEnd}
use Rattle.pe_mem.specs.ItsExec.Known.{LooksAtQueue}
use Rattle.pe_mem.specs.ItsExec.Queue.{IsOverWith}
use Rattle.pe_its.specs.Register.{WritesRegister}

-- it looked at the registers of the queue, and wrote the register
pub record BeginsWrite (old mid : Seen) (reg : Reg) (half : Half) (value : ℕ) (starts : Bool) : Type 0 where
  pub start : Seen
  pub queue : KnownQueue
  pub looks : LooksAtQueue old start queue
  pub writes : WritesRegister start mid queue reg half value starts

-- it took commands until no further one is taken
pub record RunsAll (old new : Seen) : Type 0 where
  pub shape : GuestShape
  pub tables : Maps
  pub end : QueueEnd
  pub over : IsOverWith old new shape tables end

abbrev pub RunsIf : Bool → Seen → Seen → Type 0
RunsIf true old new = RunsAll old new
RunsIf false old new = new ≡ old

-- it did both
pub record ServesWrite (old new : Seen) (reg : Reg) (half : Half) (value : ℕ) : Type 0 where
  pub mid : Seen
  pub starts : Bool
  pub begins : BeginsWrite old mid reg half value starts
  pub runs : RunsIf starts mid new
