-- What C feeds of the guest's memory: bytes of the ranges that a call wants, range by range.
use Rattle.std.specs.Prelude.{ℕ, ◌+◌, ◌-◌, ◌==◌, ◌&&◌, nat_le, nat_lt, Bool, true, false, List, [], ◌∷◌, ◌++◌, take, drop, length, if◌then◌else◌, Option, Some, None}
use Rattle.std.specs.Option.{option_map_or}
use Rattle.std.specs.Int.{w64, from_le_bytes}
use Rattle.vm_saved.specs.GicVm.GuestMemory.declared.wants.Span.{Span}
use Rattle.gic_c.specs.declared.feed.Call.{Call}
use Rattle.gic_c.specs.declared.feed.Feed.{Feed}

-- nothing was fed
abbrev pub no_feed : Feed
no_feed = record { call = None; bytes = [] }

-- two calls have the same arguments
abbrev pub is_same_write : Option ℕ → Option ℕ → Bool
is_same_write None None = true
is_same_write (Some value) (Some other) = value == other
is_same_write write other = false

abbrev pub is_same_call : Call → Call → Bool
is_same_call call other = call.vcpu == other.vcpu && call.address == other.address && call.size == other.size && is_same_write call.write other.write

-- what was fed for a call: nothing, where it was fed for another one
abbrev pub begun : Feed → Call → Feed
begun feed call = if option_map_or (λ other. is_same_call other call) feed.call false then feed else record { call = Some call; bytes = [] }

-- the same with these bytes more
abbrev pub fed_with : Feed → List ℕ → Feed
fed_with feed bytes = record feed { bytes = feed.bytes ++ bytes }

-- the range that comes next where so many bytes were fed: the first that is not empty behind those that these fill
abbrev pub next_of : List Span → ℕ → Option Span
next_of [] count = None
next_of (span ∷ spans) count = if nat_lt count span.bytes then (if count == 0 then Some span else None) else next_of spans (count - span.bytes)

-- the eight bytes at an offset as a number, the first one the least significant; none where there are not as many
abbrev pub doubleword_at : List ℕ → ℕ → Option ℕ
doubleword_at bytes offset = if nat_le (offset + 8) (length bytes) then Some (from_le_bytes w64 (take 8 (drop offset bytes))) else None

-- a range has the eight bytes at an address
abbrev pub has_doubleword : Span → ℕ → Bool
has_doubleword span address = nat_le span.address address && nat_le (address + 8) (span.address + span.bytes)

-- the doubleword at an address, where the bytes of these ranges stand one behind the other: of the first range that has it, and none outside of them
abbrev pub read_at : List Span → List ℕ → ℕ → Option ℕ
read_at [] bytes address = None
read_at (span ∷ spans) bytes address = if has_doubleword span address then doubleword_at bytes (address - span.address) else read_at spans (drop span.bytes bytes) address
