-- What holds of each guest that has no fault, and what its vCPUs and devices can do (own choice).
use Rattle.std.specs.Prelude.{◌≡◌, ℕ, ◌*◌, ◌%◌, ◌^◌, ◌≤◌, ◌&&◌, ◌||◌, List, All, Bool, true, false, not, IsTrue, nat_lt, nat_le, if◌then◌else◌, Option, Some, None, is_some, is_none, map, unwrap_or}
use Rattle.std.specs.Option.{option_map_or}
use Rattle.gic_ram.specs.Words.{GuestShape, Key, Private, Spi, Lpi, IccReg, Frame, Dist, Redist, Its, Ram, GuestOp, Icc, Mem, DeviceOp, Message, Wire, Msi, IsShape, is_sgi, has_interrupt, is_readable, is_writable}
use Rattle.gic_ram.specs.Access.{is_size, part_of}
use Rattle.gic_guest.specs.declared.guest.GuestSpec.{GuestSpec}
use Rattle.gic_guest.specs.declared.preset.Preset.{Preset}

-- the value is there and passes a test
abbrev pub passes : {X : Type 0} → (X → Bool) → Option X → Bool
passes test found = option_map_or test found false

-- ---- guests

-- the interrupt that a preset opens: a private one of its vCPU, or a shared one
abbrev pub preset_key : Preset → Key
preset_key preset = if nat_lt preset.id 32 then Private (unwrap_or preset.vcpu 0) preset.id else Spi preset.id

-- a preset names a vCPU exactly where its interrupt is private, and else a target that the guest has
abbrev pub is_addressed : GuestShape → Preset → Bool
is_addressed shape preset =
    if nat_lt preset.id 32 then is_none preset.to && is_some preset.vcpu
    else is_none preset.vcpu && passes (λ to. nat_lt to shape.vcpus) preset.to

-- a preset opens an interrupt of the guest, at a priority of five bits, in a group; an SGI is edge-triggered (IHI 0069, "INTIDs")
pub record IsGoodPreset (shape : GuestShape) (preset : Preset) : Type 0 where
  pub there : IsTrue (has_interrupt shape (preset_key preset))
  pub addressed : IsTrue (is_addressed shape preset)
  pub prio : preset.prio ≤ 248
  pub prio_bits : preset.prio % 8 ≡ 0
  pub group : preset.group ≤ 1
  pub sgi_is_edge : IsTrue (preset.edge || not (is_sgi (preset_key preset)))

-- a guest's numbers are in range, and its presets are good
pub record IsGoodGuest (guest : GuestSpec) : Type 0 where
  pub shape : IsShape guest.shape
  pub presets : All (IsGoodPreset guest.shape) guest.presets

-- what each guest has of each kind
abbrev pub shapes_of : List GuestSpec → List GuestShape
shapes_of guests = map (λ guest. guest.shape) guests

-- ---- operations

-- a register can be written, where there is a value to write, or else read
abbrev pub is_usable : IccReg → Option ℕ → Bool
is_usable reg None = is_readable reg
is_usable reg (Some value) = is_writable reg

-- a value that is written fits in this many bytes
abbrev pub fits : ℕ → Option ℕ → Bool
fits size None = true
fits size (Some value) = nat_lt value (2 ^ (8 * size))

-- the guest has what is accessed: there is a redistributor for each vCPU
abbrev pub has_frame : GuestShape → Frame → Bool
has_frame shape Dist = true
has_frame shape (Redist vcpu) = nat_lt vcpu shape.vcpus
has_frame shape Its = true
has_frame shape Ram = true

-- an access lies in its frame (IHI 0069, "The GIC memory-mapped register maps"); one of the memory is besides aligned to its size
abbrev pub is_inside : GuestShape → Frame → ℕ → ℕ → Bool
is_inside shape Dist offset size = nat_lt offset 0x10000
is_inside shape (Redist vcpu) offset size = nat_lt offset 0x20000
is_inside shape Its offset size = nat_lt offset 0x20000
is_inside shape Ram offset size = is_some (part_of offset size shape.ram)

-- a vCPU's operation is one that its guest can do
abbrev pub is_good_op : GuestShape → GuestOp → Bool
is_good_op shape (Icc reg write) = is_usable reg write
is_good_op shape (Mem frame offset size write) = is_size size && fits size write && has_frame shape frame && is_inside shape frame offset size

-- a wire can be that of an interrupt: a PPI has one, and an SPI (IHI 0069, "INTIDs")
abbrev pub has_wire : Key → Bool
has_wire (Private vcpu id) = nat_le 16 id
has_wire (Spi id) = true
has_wire (Lpi id) = false

-- a device's operation is of an interrupt that the guest has; an MSI becomes an LPI, so it needs a guest with LPIs
abbrev pub is_good_event : GuestShape → DeviceOp → Bool
is_good_event shape (Message spi) = has_interrupt shape (Spi spi)
is_good_event shape (Wire key up) = has_wire key && has_interrupt shape key
is_good_event shape (Msi number event) = nat_lt 0 shape.lpis
