-- What a redistributor's registers hold (IHI 0069, GICR_CTLR, GICR_TYPER, GICR_PROPBASER and GICR_PENDBASER).
use Rattle.std.specs.Prelude.{ℕ, ◌+◌, ◌*◌, ◌^◌, ◌==◌, ◌&&◌, ◌||◌, Bool, if◌then◌else◌}
use Rattle.gic_frame.specs.Words.{GuestShape, bit_of, has_bit, field_at}
use Rattle.gic_frame.specs.Guest.{has_lpis}

-- EnableLPIs, bit 0 of GICR_CTLR, after a write: it goes from 0 to 1 alone, and stays as it is in a guest without LPIs
abbrev pub enable_lpis_after : GuestShape → Bool → ℕ → Bool
enable_lpis_after shape enabled value = enabled || (has_lpis shape && has_bit value 0)

-- GICR_CTLR as it reads: EnableLPIs, 0 in a guest without LPIs
abbrev pub ctlr_of : GuestShape → Bool → ℕ
ctlr_of shape enabled = bit_of (has_lpis shape && enabled)

-- GICR_TYPER of a vCPU, a field a line
abbrev pub typer_of : GuestShape → ℕ → ℕ
typer_of shape vcpu =
    -- PLPIS: there are LPIs
    bit_of (has_lpis shape)
    -- Last: the redistributor of the greatest vCPU
    + bit_of (vcpu + 1 == shape.vcpus) * 2 ^ 4
    -- Processor_Number [23:8]
    + vcpu * 2 ^ 8
    -- Affinity_Value [63:32]: Aff0 is the vCPU's number, Aff1 to Aff3 are 0 (own choice)
    + vcpu * 2 ^ 32

-- what a write of GICR_PROPBASER stores: IDbits [4:0] and the address [51:12]
abbrev pub propbaser_bits : ℕ → ℕ
propbaser_bits value = field_at value 0 5 + field_at value 12 40 * 2 ^ 12

-- what a write of GICR_PENDBASER stores: the address [51:16] and PTZ, bit 62
abbrev pub pendbaser_bits : ℕ → ℕ
pendbaser_bits value = field_at value 16 36 * 2 ^ 16 + field_at value 62 1 * 2 ^ 62

-- what GICR_PENDBASER reads: the address [51:16]; PTZ reads 0
abbrev pub pendbaser_read : ℕ → ℕ
pendbaser_read stored = field_at stored 16 36 * 2 ^ 16

-- what is stored after a write: it is ignored once EnableLPIs is 1
abbrev pub propbaser_after : Bool → ℕ → ℕ → ℕ
propbaser_after enabled stored value = if enabled then stored else propbaser_bits value

abbrev pub pendbaser_after : Bool → ℕ → ℕ → ℕ
pendbaser_after enabled stored value = if enabled then stored else pendbaser_bits value
