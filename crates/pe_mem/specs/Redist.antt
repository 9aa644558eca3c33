-- Accesses of a redistributor.
use Rattle.std.specs.Prelude.{◌≡◌, ℕ, Bool, IsTrue, [], ◌∷◌, if◌then◌else◌, Option, Some, None}
use Rattle.its_exec.specs.Words.{Lpi, has_interrupt}
use Rattle.its_exec.specs.Registers.{Half, Whole}
use Rattle.its_exec.specs.GicRmap.declared.map.Reg.{Reg}
use Rattle.its_exec.specs.GicRmap.declared.map.RegRef.{RegRef}
use Rattle.its_exec.specs.GicRmap.declared.map.RegRef.TheVariants.{Plain}
use Rattle.its_exec.specs.Calls.{PlainWord, Put, enable_events, redist_events, redist_written, redist_held, redist_value, table_places, redist_places, read_answer, Enable, MakesAfter, pended_events, sets_lpis}
use Rattle.its_exec.specs.GicCall.declared.event.Event.TheVariants.{Read}
use Rattle.its_exec.specs.GicCall.declared.event.Found.TheVariants.{Lpis as FoundLpis}
use Rattle.its_exec.specs.GicCall.declared.event.Place.TheVariants.{Lpis}
use Rattle.its_exec.specs.Histories.{before_enabling}
use Rattle.its_exec.specs.Core.{Made, Seen, Adds, shape_of, part_events}
use Rattle.its_exec.specs.PortCall.Piece.{takes_none, IsPiece}
use Rattle.pe_mem.specs.Call.{Serves, ServesFreely}
use Rattle.pe_mem.specs.Found.{goes_by, reads_bit}
use Rattle.pe_mem.specs.Looked.{IsLookedAt}

-- an access, and what it reads
pub record ServesRedist (old new : Seen) (vcpu : ℕ) (reference : RegRef) (write : Option ℕ) (value : ℕ) : Type 0 where
  pub serves :
      Serves old new (λ view. redist_events (shape_of old) view vcpu reference write) (λ view. redist_places (shape_of old) view vcpu reference write)
      (λ view. redist_events (shape_of old) (before_enabling vcpu view) vcpu reference write)
  pub reads : read_answer write value ≡ read_answer write (redist_value (shape_of old) serves.view vcpu reference)
  pub found : (id : ℕ) → IsTrue (has_interrupt (shape_of old) (Lpi id)) → IsTrue (goes_by (shape_of old) serves.view vcpu reference write id) → IsLookedAt old serves.part id (serves.view.targets id)
  pub after :
      IsTrue (sets_lpis (shape_of old) reference write)
      → MakesAfter (Some old.actor) serves.view (Enable vcpu) (pended_events (shape_of old) serves.view vcpu) (redist_places (shape_of old) serves.view vcpu reference write) (part_events old serves.part)

-- a read of a register that has no part for each interrupt
pub record ReadsRedist (old new : Seen) (vcpu : ℕ) (reg : Reg) (value : ℕ) : Type 0 where
  pub serves : ServesFreely old new (λ view. []) (λ view. redist_places (shape_of old) view vcpu (Plain reg Whole) None)
  pub value_is : value ≡ redist_held (shape_of old) serves.view vcpu reg

-- a write of one, or of a half of one
pub record WritesRedist (old new : Seen) (vcpu : ℕ) (reg : Reg) (half : Half) (value : ℕ) : Type 0 where
  pub serves :
      Serves old new (λ view. redist_written (shape_of old) view vcpu reg half value) (λ view. redist_places (shape_of old) view vcpu (Plain reg half) (Some value))
      (λ view. redist_written (shape_of old) (before_enabling vcpu view) vcpu reg half value)
  pub found : (id : ℕ) → IsTrue (has_interrupt (shape_of old) (Lpi id)) → IsTrue (goes_by (shape_of old) serves.view vcpu (Plain reg half) (Some value) id) → IsLookedAt old serves.part id (serves.view.targets id)
  pub after :
      IsTrue (sets_lpis (shape_of old) (Plain reg half) (Some value))
      → MakesAfter (Some old.actor) serves.view (Enable vcpu) (pended_events (shape_of old) serves.view vcpu) (redist_places (shape_of old) serves.view vcpu (Plain reg half) (Some value)) (part_events old serves.part)

-- an actor looked at EnableLPIs of a vCPU, and found this
pub record LooksAtLpis (old new : Seen) (vcpu : ℕ) (enabled : Bool) : Type 0 where
  pub look : Made
  pub adds : Adds old new (look ∷ [])
  pub local_is : new.local ≡ old.local
  pub none_taken : IsTrue (takes_none (look ∷ []))
  pub events : part_events old (look ∷ []) ≡ (record { event = Read (Lpis vcpu); found = FoundLpis enabled }) ∷ []
  pub piece : IsPiece old (look ∷ [])

-- it stored a word changed, unless it found EnableLPIs 1
abbrev pub StoresTable : Seen → Seen → ℕ → PlainWord → (ℕ → ℕ) → Type 0
StoresTable old new vcpu word changed = ServesFreely old new (λ view. if view.lpis vcpu then [] else Put word (changed (view.words word)) ∷ []) (λ view. Lpis vcpu ∷ [])

-- EnableLPIs became 1: as it rises, those LPIs that are for the vCPU and have their bit in its pending table become pending
pub record EnablesLpis (old new : Seen) (vcpu : ℕ) : Type 0 where
  pub serves :
      Serves old new (λ view. enable_events (shape_of old) view vcpu) (λ view. if view.lpis vcpu then [] else table_places (shape_of old) view vcpu) (λ view. enable_events (shape_of old) (before_enabling vcpu view) vcpu)
  pub found : (id : ℕ) → IsTrue (has_interrupt (shape_of old) (Lpi id)) → IsTrue (reads_bit (shape_of old) serves.view vcpu id) → IsLookedAt old serves.part id (serves.view.targets id)
  pub after :
      MakesAfter (Some old.actor) serves.view (Enable vcpu) (pended_events (shape_of old) serves.view vcpu) (if serves.view.lpis vcpu then [] else table_places (shape_of old) serves.view vcpu) (part_events old serves.part)
