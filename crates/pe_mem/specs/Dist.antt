-- Accesses of the distributor.
use Rattle.std.specs.Prelude.{◌≡◌, ℕ, List, [], is_none, if◌then◌else◌, Option, Some, None}
use Rattle.its_exec.specs.GicDmap.declared.map.Reg.{Reg}
use Rattle.its_exec.specs.GicDmap.declared.map.RegRef.{RegRef}
use Rattle.its_exec.specs.GicDmap.declared.map.RegRef.TheVariants.{Plain}
use Rattle.its_exec.specs.Registers.{Half, Whole}
use Rattle.its_exec.specs.Calls.{Place, dist_events, dist_plain, dist_held, dist_value, dist_places, read_answer}
use Rattle.its_exec.specs.Core.{Seen, shape_of}
use Rattle.pe_mem.specs.Call.{Serves}

-- the places that an access reads
abbrev pub dist_reads : RegRef → Option ℕ → List Place
dist_reads reference write = if is_none write then dist_places reference else []

-- an access, and what it reads
pub record ServesDist (old new : Seen) (reference : RegRef) (write : Option ℕ) (value : ℕ) : Type 0 where
  pub serves :
      Serves old new (λ view. dist_events (shape_of old) view reference write) (λ view. dist_reads reference write) (λ view. dist_events (shape_of old) view reference write)
  pub reads : read_answer write value ≡ read_answer write (dist_value (shape_of old) serves.view reference)

-- a read of a register that has no part for each interrupt
pub record ReadsDist (old new : Seen) (reg : Reg) (value : ℕ) : Type 0 where
  pub serves :
      Serves old new (λ view. dist_plain (shape_of old) view reg Whole None) (λ view. dist_places (Plain reg Whole)) (λ view. dist_plain (shape_of old) view reg Whole None)
  pub value_is : value ≡ dist_held (shape_of old) serves.view reg

-- a write of one, or of a half of one
abbrev pub WritesDist : Seen → Seen → Reg → Half → ℕ → Type 0
WritesDist old new reg half value =
    Serves old new (λ view. dist_plain (shape_of old) view reg half (Some value)) (λ view. []) (λ view. dist_plain (shape_of old) view reg half (Some value))
