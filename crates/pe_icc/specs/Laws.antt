-- What an entry and an exit say of a vCPU that accesses its CPU interface between them.
use Rattle.std.specs.Prelude.{ℕ, None}
use Rattle.pe_loop.specs.Calls.{Residence}
use Rattle.pe_loop.specs.VcpuState.declared.loaded.Loaded.{Loaded}
use Rattle.pe_loop.specs.VcpuState.declared.shelved.Shelved.{Shelved}
use Rattle.pe_loop.specs.Core.{Seen, shape_of, part_of, Progress, progress_of, IsProper}
use Rattle.pe_loop.specs.Enter.{IsBetween, Enters}
use Rattle.pe_loop.specs.Leave.{Leaves}
use Rattle.pe_icc.specs.Amid.{IsRunning}

-- an entry that is a part of its own leaves the vCPU between two accesses
abbrev pub EntryRuns : Type 0
EntryRuns =
    (old new : Seen) (vcpu : Shelved) (lrs : ℕ) (loaded : Loaded) (enters : Enters old new vcpu lrs loaded) (p : Progress) → IsBetween old p
    → IsRunning new loaded (progress_of (shape_of old) old.actor p (part_of Residence lrs enters.part None))

-- and an exit that is a part of its own may come there; it leaves the vCPU where it may enter again
pub record RunEnds (old new : Seen) (lrs : ℕ) (vcpu : Loaded) (shelved : Shelved) (leaves : Leaves old new vcpu shelved) (p : Progress) : Type 0 where
  pub proper : IsProper (shape_of old) old.actor p (part_of Residence lrs leaves.part None)
  pub between : IsBetween new (progress_of (shape_of old) old.actor p (part_of Residence lrs leaves.part None))

abbrev pub ExitRests : Type 0
ExitRests = (old new : Seen) (lrs : ℕ) (vcpu : Loaded) (shelved : Shelved) (leaves : Leaves old new vcpu shelved) (p : Progress) → IsRunning old vcpu p → RunEnds old new lrs vcpu shelved leaves p
