-- What the distributor's registers hold (IHI 0069, GICD_CTLR, GICD_TYPER, GICD_SETSPI_NSR and GICD_CLRSPI_NSR).
use Rattle.std.specs.Prelude.{ℕ, ◌+◌, ◌-◌, ◌*◌, ◌/◌, ◌^◌, ◌==◌, not, Bool}
use Rattle.gic_frame.specs.Words.{GuestShape, bit_of, has_bit, field_at}
use Rattle.gic_frame.specs.Guest.{has_lpis}
use Rattle.gic_dmap.specs.declared.contents.Enables.{Enables}

-- GICD_TYPER, a field a line
abbrev pub typer_of : GuestShape → ℕ
typer_of shape =
    -- ITLinesNumber [4:0]: blocks of 32 SPIs
    shape.spis / 32
    -- ESPI: there are extended SPIs
    + bit_of (not (shape.espis == 0)) * 2 ^ 8
    -- MBIS: SETSPI and CLRSPI are there
    + 2 ^ 16
    -- LPIS: there are LPIs
    + bit_of (has_lpis shape) * 2 ^ 17
    -- IDbits [23:19]: INTIDs have 14 bits (own choice); A3V, bit 24, is 0: Aff3 is 0 in each vCPU's affinity
    + 13 * 2 ^ 19
    -- No1N: there are no SPIs that go to any one of several vCPUs
    + 2 ^ 25
    -- RSS: SGIs go to affinities with an Aff0 above 15 too
    + 2 ^ 26
    -- ESPI_range [31:27]: blocks of 32 extended SPIs, less 1
    + (shape.espis / 32 - 1) * 2 ^ 27

-- the group enables that a write of GICD_CTLR keeps: EnableGrp0 and EnableGrp1
abbrev pub enables_in : ℕ → Enables
enables_in value = record { group0 = has_bit value 0; group1 = has_bit value 1 }

-- GICD_CTLR as it reads: the group enables, ARE (bit 4) and DS (bit 6), which are 1, and RWP (bit 31)
abbrev pub ctlr_of : Enables → Bool → ℕ
ctlr_of enables is_spreading = bit_of enables.group0 + bit_of enables.group1 * 2 ^ 1 + 2 ^ 4 + 2 ^ 6 + bit_of is_spreading * 2 ^ 31

-- the INTID that a write of SETSPI_NSR or CLRSPI_NSR names: bits [12:0]
abbrev pub message_intid : ℕ → ℕ
message_intid value = field_at value 0 13
