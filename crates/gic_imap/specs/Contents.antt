-- What an ITS's registers hold (IHI 0069, GITS_CTLR, GITS_TYPER, GITS_CBASER, GITS_CWRITER, GITS_CREADR and GITS_BASER<n>).
use Rattle.std.specs.Prelude.{ℕ, ◌+◌, ◌*◌, ◌^◌, ◌&&◌, not, nat_lt, Bool, if◌then◌else◌}
use Rattle.gic_frame.specs.Words.{GuestShape, bit_of, has_bit, field_at}
use Rattle.gic_frame.specs.Guest.{has_lpis}
use Rattle.gic_imap.specs.declared.contents.Table.{Table}
use Rattle.gic_imap.specs.declared.contents.Table.TheVariants.{Devices, Collections}

-- what a write of GITS_CTLR keeps: Enabled, bit 0
abbrev pub enabled_in : ℕ → Bool
enabled_in value = has_bit value 0

-- GITS_CTLR as it reads: Enabled, and Quiescent, bit 31, exactly where it is not (own choice)
abbrev pub ctlr_of : Bool → ℕ
ctlr_of enabled = bit_of enabled + bit_of (not enabled) * 2 ^ 31

-- GITS_TYPER, a field a line; 0 in a guest without LPIs, which has no ITS: there all registers read 0 and ignore writes (own
-- choice)
abbrev pub typer_of : GuestShape → ℕ
typer_of shape = if has_lpis shape then fields else 0
  where
    fields : ℕ
    fields =
        -- Physical: LPIs are there
        1
        -- ITT_entry_size [7:4]: an entry has 8 bytes
        + 7 * 2 ^ 4
        -- ID_bits [12:8]: EventIDs have 16 bits
        + 15 * 2 ^ 8
        -- Devbits [17:13]: DeviceIDs have 16 bits; PTA, bit 19, is 0: RDbase is a vCPU number
        + 15 * 2 ^ 13

-- what a write of GITS_CBASER stores: Size [7:0], the address [51:12] and Valid, bit 63
abbrev pub cbaser_bits : ℕ → ℕ
cbaser_bits value = field_at value 0 8 + field_at value 12 40 * 2 ^ 12 + field_at value 63 1 * 2 ^ 63

-- the bytes of the queue that CBASER names, also while Valid is 0: Size is one less than its pages of 4 KiB
abbrev pub queue_bytes : ℕ → ℕ
queue_bytes cbaser = 4096 * (field_at cbaser 0 8 + 1)

-- what is stored after a write of GITS_CBASER: it is ignored while Enabled is 1
abbrev pub cbaser_after : Bool → ℕ → ℕ → ℕ
cbaser_after enabled stored value = if enabled then stored else cbaser_bits value

-- the offset in GITS_CWRITER and GITS_CREADR: bits [19:5], in their place
abbrev pub queue_offset : ℕ → ℕ
queue_offset value = field_at value 5 15 * 2 ^ 5

-- what is stored after a write of GITS_CWRITER: the offset, where it is below the queue's bytes; else the write is ignored
-- whole (own choice). Retry, bit 0, is not stored
abbrev pub cwriter_after : ℕ → ℕ → ℕ → ℕ
cwriter_after cbaser stored value = if nat_lt (queue_offset value) (queue_bytes cbaser) then queue_offset value else stored

-- a write of GITS_CWRITER tries the command again at which the queue stalled: it is not ignored, and Retry, bit 0, is 1
abbrev pub retries : ℕ → ℕ → Bool
retries cbaser value = nat_lt (queue_offset value) (queue_bytes cbaser) && has_bit value 0

-- GITS_CREADR as it reads: Stalled, bit 0, and the offset of the next command
abbrev pub creadr_of : Bool → ℕ → ℕ
creadr_of is_stalled offset = bit_of is_stalled + queue_offset offset

-- the Type of the table that a BASER names: devices in BASER0, collections in BASER1
abbrev pub table_type : Table → ℕ
table_type Devices = 1
table_type Collections = 4

-- what a write of a GITS_BASER stores, a field a term: Size [7:0], Page_Size [9:8], Shareability [11:10], the address [47:12],
-- OuterCache [55:53], InnerCache [61:59] and Valid, bit 63
abbrev pub baser_bits : ℕ → ℕ
baser_bits value =
    field_at value 0 8
    + field_at value 8 2 * 2 ^ 8
    + field_at value 10 2 * 2 ^ 10
    + field_at value 12 36 * 2 ^ 12
    + field_at value 53 3 * 2 ^ 53
    + field_at value 59 3 * 2 ^ 59
    + field_at value 63 1 * 2 ^ 63

-- what is stored after a write of a GITS_BASER: it is ignored while Enabled is 1
abbrev pub baser_after : Bool → ℕ → ℕ → ℕ
baser_after enabled stored value = if enabled then stored else baser_bits value

-- a GITS_BASER as it reads: what is stored, Entry_Size [52:48], which is 7 (an entry has 8 bytes), and Type [58:56]
abbrev pub baser_of : Table → ℕ → ℕ
baser_of table stored = baser_bits stored + 7 * 2 ^ 48 + table_type table * 2 ^ 56
