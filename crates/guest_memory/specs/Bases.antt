-- The registers that tell where the guest has the command queue of the ITS and the tables of LPIs (IHI 0069, GITS_CBASER, GICR_PROPBASER and
-- GICR_PENDBASER). They read back as the guest wrote them. Beneath, each stands for a place in the GIC's own memory (own choice).
use Rattle.std.specs.Prelude.{ℕ, ◌+◌, ◌*◌, ◌%◌, ◌^◌, Some, slice_index, slice_set, replicate}
use Rattle.ideal_guest.specs.Words.{field_at, Frame, Redist, Its, GuestOp, Mem}
use Rattle.guest_memory.specs.declared.base.Base.{Base}
use Rattle.guest_memory.specs.declared.base.Base.TheVariants.{Queue, Properties, Pending}
use Rattle.guest_memory.specs.declared.base.Bases.{Bases}

-- what a register keeps of a value, a field a line
abbrev pub kept_of : Base → ℕ → ℕ
kept_of Queue value =
    -- Size [7:0]
    field_at value 0 8
    -- Shareability [11:10] and the address [51:12]
    + field_at value 10 42 * 2 ^ 10
    -- OuterCache [55:53]
    + field_at value 53 3 * 2 ^ 53
    -- InnerCache [61:59]
    + field_at value 59 3 * 2 ^ 59
    -- Valid
    + field_at value 63 1 * 2 ^ 63
kept_of (Properties vcpu) value =
    -- IDbits [4:0]
    field_at value 0 5
    -- InnerCache [9:7], Shareability [11:10] and the address [51:12]
    + field_at value 7 45 * 2 ^ 7
    -- OuterCache [58:56]
    + field_at value 56 3 * 2 ^ 56
kept_of (Pending vcpu) value =
    -- InnerCache [9:7] and Shareability [11:10]
    field_at value 7 5 * 2 ^ 7
    -- the address [51:16]
    + field_at value 16 36 * 2 ^ 16
    -- OuterCache [58:56]
    + field_at value 56 3 * 2 ^ 56
    -- PTZ
    + field_at value 62 1 * 2 ^ 62

-- what it reads of what it keeps: PTZ, bit 62 of GICR_PENDBASER, reads 0
abbrev pub read_of : Base → ℕ → ℕ
read_of (Pending vcpu) kept = kept % 2 ^ 62
read_of base kept = kept

-- the guest's address in it: bits [51:12], of GICR_PENDBASER [51:16]
abbrev pub address_of : Base → ℕ → ℕ
address_of (Pending vcpu) kept = field_at kept 16 36 * 2 ^ 16
address_of base kept = field_at kept 12 40 * 2 ^ 12

-- The GIC's own memory: below 1 MiB what a register stands for that was never written, then the largest queue (1 MiB), then 64 KiB for each of 32 vCPUs, for
-- its pending table, whose bits of LPIs begin at 0x400, with its configuration table behind these, from 0x1000 on.

-- its bytes
abbrev pub memory_bytes : ℕ
memory_bytes = 0x400000

-- the place that a register stands for
abbrev pub place_of : Base → ℕ
place_of Queue = 0x100000
place_of (Pending vcpu) = 0x200000 + 0x10000 * vcpu
place_of (Properties vcpu) = 0x201000 + 0x10000 * vcpu

-- what the ideal controller's register is written: the place for the address, and the fields that the GIC looks at
abbrev pub placed_of : Base → ℕ → ℕ
placed_of Queue kept = field_at kept 0 8 + place_of Queue + field_at kept 63 1 * 2 ^ 63
placed_of (Properties vcpu) kept = field_at kept 0 5 + place_of (Properties vcpu)
placed_of (Pending vcpu) kept = place_of (Pending vcpu) + field_at kept 62 1 * 2 ^ 62

-- where the register is, and its offset there
abbrev pub frame_of : Base → Frame
frame_of Queue = Its
frame_of (Properties vcpu) = Redist vcpu
frame_of (Pending vcpu) = Redist vcpu

abbrev pub offset_of : Base → ℕ
offset_of Queue = 0x80
offset_of (Properties vcpu) = 0x70
offset_of (Pending vcpu) = 0x78

-- the operation by which the ideal controller's register is written the place that stands for the guest's address
abbrev pub placed_op : Base → ℕ → GuestOp
placed_op base kept = Mem (frame_of base) (offset_of base) 8 (Some (placed_of base kept))

-- the vCPU whose register it is; 0 for the ITS
abbrev pub vcpu_of : Base → ℕ
vcpu_of Queue = 0
vcpu_of (Properties vcpu) = vcpu
vcpu_of (Pending vcpu) = vcpu

-- what is kept in a register
abbrev pub base_in : Bases → Base → ℕ
base_in bases Queue = bases.queue
base_in bases (Properties vcpu) = slice_index bases.properties vcpu
base_in bases (Pending vcpu) = slice_index bases.pending vcpu

-- the registers after this is kept in one
abbrev pub with_base : Bases → Base → ℕ → Bases
with_base bases Queue kept = record bases { queue = kept }
with_base bases (Properties vcpu) kept = record bases { properties = slice_set bases.properties vcpu kept }
with_base bases (Pending vcpu) kept = record bases { pending = slice_set bases.pending vcpu kept }

-- the registers after reset
abbrev pub no_bases : Bases
no_bases = record { queue = 0; properties = replicate 32 0; pending = replicate 32 0 }
