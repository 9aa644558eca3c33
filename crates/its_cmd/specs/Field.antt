-- Where the fields of an ITS command stand (IHI 0069, "ITS commands"; the upper end of both RDbase fields is an own choice).
use Rattle.std.specs.Prelude.{ℕ, ◌+◌, ◌-◌, List, slice_index}
use Rattle.floor_words.specs.Words.{field_at}

-- bits [high:low] of a doubleword
abbrev pub bits_of : ℕ → ℕ → ℕ → List ℕ → ℕ
bits_of word high low words = field_at (slice_index words word) low (high - low + 1)

-- the command's number
abbrev pub number_in : List ℕ → ℕ
number_in = bits_of 0 7 0

-- DeviceID
abbrev pub device_in : List ℕ → ℕ
device_in = bits_of 0 63 32

-- EventID
abbrev pub event_in : List ℕ → ℕ
event_in = bits_of 1 31 0

-- pINTID
abbrev pub pintid_in : List ℕ → ℕ
pintid_in = bits_of 1 63 32

-- Size
abbrev pub size_in : List ℕ → ℕ
size_in = bits_of 1 4 0

-- ITT_addr
abbrev pub itt_addr_in : List ℕ → ℕ
itt_addr_in = bits_of 2 51 8

-- ICID
abbrev pub icid_in : List ℕ → ℕ
icid_in = bits_of 2 15 0

-- RDbase
abbrev pub rdbase_in : List ℕ → ℕ
rdbase_in = bits_of 2 50 16

-- V
abbrev pub valid_in : List ℕ → ℕ
valid_in = bits_of 2 63 63

-- the second RDbase
abbrev pub second_in : List ℕ → ℕ
second_in = bits_of 3 50 16
