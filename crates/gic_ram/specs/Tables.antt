-- The tables of LPIs in memory (IHI 0069, "LPI Configuration tables" and "LPI Pending tables").
use Rattle.std.specs.Prelude.{ℕ, ◌+◌, ◌-◌, ◌*◌, ◌/◌, ◌%◌, ◌^◌, Bool}
use Rattle.floor_words.specs.Words.{has_bit, field_at}

-- the INTIDs of LPIs (IHI 0069, "INTIDs"), of which there are those of 16 bits (own choice)
abbrev pub first_lpi : ℕ
first_lpi = 8192

abbrev pub last_lpi : ℕ
last_lpi = 65535

-- a configuration byte enables its LPI: bit 0; bit 1 is ignored
abbrev pub is_enabled : ℕ → Bool
is_enabled byte = has_bit byte 0

-- the priority in a configuration byte: bits [7:2], of which the low one is dropped, since five priority bits are implemented
abbrev pub priority_of : ℕ → ℕ
priority_of byte = field_at byte 3 5 * 2 ^ 3

-- the address that a register has in its bits [51:low]
abbrev pub table_at : ℕ → ℕ → ℕ
table_at low register = field_at register low (52 - low) * 2 ^ low

-- the configuration table has one byte for each LPI, from the first one on; PROPBASER has its address in bits [51:12]
abbrev pub config_address : ℕ → ℕ → ℕ
config_address propbaser id = table_at 12 propbaser + (id - first_lpi)

-- the pending table has one bit for each INTID, from 0 on; PENDBASER has its address in bits [51:16]
abbrev pub pending_address : ℕ → ℕ → ℕ × ℕ
pending_address pendbaser id = (table_at 16 pendbaser + id / 8, id % 8)
