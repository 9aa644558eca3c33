-- An actor stores a plain word that goes by what the word holds.
use Rattle.std.specs.Prelude.{◌≡◌, ℕ, ◌^◌, ◌<◌, Bool, true, false}
use Rattle.its_exec.specs.Registers.{half_limit, half_written, IsPart, inserted, propbaser_bits, pendbaser_bits}
use Rattle.its_exec.specs.Calls.{PlainWord}
use Rattle.its_exec.specs.Core.{Seen}
use Rattle.its_exec.specs.PortCall.Store.{Stores, MissesStore}
use Rattle.pe_mem.specs.declared.store.Change.{Change}
use Rattle.pe_mem.specs.declared.store.Change.TheVariants.{Bits, Propbaser, Pendbaser}

-- the word after a write
abbrev pub changed_by : Change → ℕ → ℕ
changed_by (Bits part value) stored = inserted stored part value
changed_by (Propbaser half value) stored = propbaser_bits (half_written half stored value)
changed_by (Pendbaser half value) stored = pendbaser_bits (half_written half stored value)

-- the value fits what is written
abbrev pub FitsChange : Change → Type 0
FitsChange (Bits part value) = IsPart part × (value < 2 ^ part.bits)
FitsChange (Propbaser half value) = value < half_limit half
FitsChange (Pendbaser half value) = value < half_limit half

-- an actor stored a word changed from what it found
pub record Updates (old new : Seen) (word : PlainWord) (changed : ℕ → ℕ) : Type 0 where
  pub found : ℕ
  pub stores : Stores old new word (changed found)
  pub found_is : stores.last.found ≡ found

-- one try
abbrev pub TriesUpdate : Seen → Seen → PlainWord → (ℕ → ℕ) → Bool → Type 0
TriesUpdate old new word changed true = Updates old new word changed
TriesUpdate old new word changed false = MissesStore old new word
