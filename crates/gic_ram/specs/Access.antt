-- An access to a memory of 64-bit words, as bits of one word (own choice: IHI 0069 leaves the guest's memory to the system).
use Rattle.std.specs.Prelude.{ℕ, ◌≤◌, ◌+◌, ◌*◌, ◌/◌, ◌%◌, ◌^◌, ◌==◌, ◌&&◌, ◌||◌, nat_le, Bool, if◌then◌else◌, Option, Some, None}
use Rattle.gic_ram.specs.declared.access.Part.{Part}

-- the sizes of an access, in bytes
abbrev pub is_size : ℕ → Bool
is_size size = size == 1 || size == 2 || size == 4 || size == 8

-- every byte of the access is in a memory of this many bytes
abbrev pub is_within : ℕ → ℕ → ℕ → Bool
is_within address size ram = nat_le (address + size) ram

-- the part of an access: none where it is not aligned to its size, or not within the memory
abbrev pub part_of : ℕ → ℕ → ℕ → Option Part
part_of address size ram =
    if address % size == 0 && is_within address size ram
    then Some (record { index = address / 8; shift = 8 * (address % 8); bits = 8 * size })
    else None

-- bits of one word
pub record IsPart (part : Part) : Type 0 where
  pub some_bit : 1 ≤ part.bits
  pub in_word : part.shift + part.bits ≤ 64

-- the bits of the part, as a number
abbrev pub extracted : ℕ → Part → ℕ
extracted word part = word / 2 ^ part.shift % 2 ^ part.bits

-- the word with these bits replaced: what stands below the part and above it stays
abbrev pub inserted : ℕ → Part → ℕ → ℕ
inserted word part value =
    let top = part.shift + part.bits in
    word % 2 ^ part.shift + value * 2 ^ part.shift + word / 2 ^ top * 2 ^ top
