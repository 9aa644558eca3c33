-- A read of a register of the ITS.
use Rattle.std.specs.Prelude.{◌≡◌, ℕ, []}
use Rattle.pe_mem.specs.GicImap.declared.map.Reg.{Reg}
use Rattle.pe_mem.specs.Calls.{its_held, its_read_places}
use Rattle.pe_mem.specs.Core.{Seen, shape_of}
use Rattle.pe_mem.specs.Call.{ServesFreely}

-- an actor looked at what a register goes by, if it goes by anything, and reads this
pub record ReadsIts (old new : Seen) (reg : Reg) (value : ℕ) : Type 0 where
  pub serves : ServesFreely old new (λ view. []) (λ view. its_read_places reg)
  pub value_is : value ≡ its_held (shape_of old) serves.view reg
