-- A memory of 64-bit words as bytes, little-endian (own choice: IHI 0069 leaves the guest's memory to the system).
use Rattle.std.specs.Prelude.{ℕ, zero, suc, ◌≡◌, ◌<◌, ◌+◌, ◌-◌, ◌*◌, ◌/◌, ◌%◌, ◌^◌, ◌&&◌, nat_le, nat_lt, IsTrue, if◌then◌else◌, Some, List, length, slice_index, slice_set}
use Rattle.gic_ram.specs.declared.access.Part.{Part}
use Rattle.gic_ram.specs.Access.{is_size, part_of, extracted, inserted}

-- the byte at this place of a word or a value, the least significant one at 0
abbrev pub byte_of : ℕ → ℕ → ℕ
byte_of value place = value / 2 ^ (8 * place) % 2 ^ 8

-- the byte at an address of a memory of words
abbrev pub byte_at : List ℕ → ℕ → ℕ
byte_at words address = byte_of (slice_index words (address / 8)) (address % 8)

-- the number that so many bytes from an address on spell, the least significant one first
abbrev pub number_at : List ℕ → ℕ → ℕ → ℕ
number_at words address zero = 0
number_at words address (suc size) = byte_at words address + 2 ^ 8 * number_at words (address + 1) size

-- what an access reads
abbrev pub read_from : List ℕ → Part → ℕ
read_from words part = extracted (slice_index words part.index) part

-- the memory after an access has written a value
abbrev pub written_to : List ℕ → Part → ℕ → List ℕ
written_to words part value = slice_set words part.index (inserted (slice_index words part.index) part value)

-- an access to the memory reads the number that its bytes spell
abbrev pub ReadsAreBytes : Type 0
ReadsAreBytes =
    (words : List ℕ) (address size : ℕ) (part : Part) → IsTrue (is_size size) → part_of address size (8 * length words) ≡ Some part
    → read_from words part ≡ number_at words address size

-- an access that writes sets the bytes of its addresses to those of the value, and no other byte
abbrev pub WritesAreBytes : Type 0
WritesAreBytes =
    (words : List ℕ) (address size value : ℕ) (part : Part) → IsTrue (is_size size) → part_of address size (8 * length words) ≡ Some part → value < 2 ^ (8 * size)
    → (at : ℕ) → byte_at (written_to words part value) at ≡ (if nat_le address at && nat_lt at (address + size) then byte_of value (at - address) else byte_at words at)

-- an access that reads where it has written gives the value
abbrev pub WritesReadBack : Type 0
WritesReadBack =
    (words : List ℕ) (address size value : ℕ) (part : Part) → IsTrue (is_size size) → part_of address size (8 * length words) ≡ Some part → value < 2 ^ (8 * size)
    → read_from (written_to words part value) part ≡ value
