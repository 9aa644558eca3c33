-- An actor stores the plain word of a register of the ITS, changed from what it found, unless the write is ignored for that.
use Rattle.std.specs.Prelude.{◌≡◌, [], ◌∷◌, ◌++◌, ℕ, ◌<◌, nat_lt, Option, Some, None, Result, Ok, Err, if◌then◌else◌}
use Rattle.pe_mem.specs.Registers.{half_limit, half_written, cbaser_bits, baser_bits, queue_offset, queue_bytes}
use Rattle.pe_mem.specs.Calls.{PlainWord, IsLastRead}
use Rattle.pe_mem.specs.GicCall.declared.event.Found.TheVariants.{Word as FoundWord}
use Rattle.pe_mem.specs.GicCall.declared.event.Place.TheVariants.{Word}
use Rattle.pe_mem.specs.Core.{Seen, part_events}
use Rattle.pe_mem.specs.PortCall.Store.{Stores, MissesStore}
use Rattle.pe_its.specs.declared.change.Change.{Change}
use Rattle.pe_its.specs.declared.change.Change.TheVariants.{Cbaser, Baser, Cwriter}
use Rattle.pe_its.specs.declared.change.Late.{Late}

-- the offset that a write of GITS_CWRITER stores, unless it is not below the queue's bytes
abbrev pub offset_stored : ℕ → ℕ → Option ℕ
offset_stored cbaser value = if nat_lt (queue_offset value) (queue_bytes cbaser) then Some (queue_offset value) else None

-- the word after a write, unless that is ignored
abbrev pub changed_by : Change → ℕ → Option ℕ
changed_by (Cbaser half value) stored = Some (cbaser_bits (half_written half stored value))
changed_by (Baser half value) stored = Some (baser_bits (half_written half stored value))
changed_by (Cwriter cbaser half value) stored = offset_stored cbaser (half_written half stored value)

-- the value fits what is written
abbrev pub FitsChange : Change → Type 0
FitsChange (Cbaser half value) = value < half_limit half
FitsChange (Baser half value) = value < half_limit half
FitsChange (Cwriter cbaser half value) = value < half_limit half

-- an actor stored a word changed from this, which it found, and which its last look had found
pub record StoresChanged (old new : Seen) (word : PlainWord) (changed : ℕ → Option ℕ) (found : ℕ) : Type 0 where
  pub value : ℕ
  pub changed_is : changed found ≡ Some value
  pub stores : Stores old new word value
  pub found_is : stores.last.found ≡ found
  pub read : IsLastRead (Word word) (FoundWord found) (part_events old (stores.misses ++ stores.last ∷ []))

-- it looked at a word, for which the write is ignored
pub record KeepsWord (old new : Seen) (word : PlainWord) (changed : ℕ → Option ℕ) : Type 0 where
  pub found : ℕ
  pub kept : changed found ≡ None
  pub looks : MissesStore old new word
  pub read : IsLastRead (Word word) (FoundWord found) (part_events old looks.part)

-- what became of it: the word that was found where it was stored
abbrev pub ChangesWord : Seen → Seen → PlainWord → (ℕ → Option ℕ) → Option ℕ → Type 0
ChangesWord old new word changed (Some found) = StoresChanged old new word changed found
ChangesWord old new word changed None = KeepsWord old new word changed

-- one try
abbrev pub TriesChange : Seen → Seen → PlainWord → (ℕ → Option ℕ) → Result (Option ℕ) Late → Type 0
TriesChange old new word changed (Ok found) = ChangesWord old new word changed found
TriesChange old new word changed (Err late) = MissesStore old new word
