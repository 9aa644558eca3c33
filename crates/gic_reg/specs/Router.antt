-- The affinity in an IROUTER (IHI 0069, GICD_IROUTER<n>): Aff3 in bits [39:32], Aff2, Aff1 and Aff0 in bits [23:0].
-- Interrupt_Routing_Mode, bit 31, reads 0 and ignores writes (own choice). An affinity has Aff3 in bits [31:24].
use Rattle.std.specs.Prelude.{ℕ, ◌+◌, ◌*◌, ◌/◌, ◌%◌, ◌^◌}

-- what the register reads that stores an affinity
abbrev pub router_of : ℕ → ℕ
router_of affinity = affinity % 2 ^ 24 + affinity / 2 ^ 24 * 2 ^ 32

-- the affinity that a write of a value stores
abbrev pub affinity_in : ℕ → ℕ
affinity_in value = value % 2 ^ 24 + value / 2 ^ 32 % 2 ^ 8 * 2 ^ 24
