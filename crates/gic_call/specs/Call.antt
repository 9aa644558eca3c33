-- The calls of a guest and of its devices: of which events each consists, and what it reads. The commands that a write of an ITS register
-- starts come between its events and the end of its turn.
use Rattle.std.specs.Prelude.{ℕ, List, [], ◌∷◌, ◌++◌, ◌&&◌, Bool, false, if◌then◌else◌, Option, Some, None}
use Rattle.std.specs.Option.{option_map_or}
use Rattle.std.specs.List.{range_with_len, filter_map}
use Rattle.floor_registers.specs.Words.{GuestShape, Private, Spi, Lpi, IccReg, Sgi1r, Frame, Dist, Redist, Its, Ram as Memory, DeviceOp, Message, Wire, Msi}
use Rattle.floor_registers.specs.Registers.{intid_of, is_target, has_lpis, translated}
use Rattle.floor_registers.specs.GicDmap.Map.{decoded as dist_decoded}
use Rattle.floor_registers.specs.GicRmap.Map.{decoded as redist_decoded}
use Rattle.floor_registers.specs.GicImap.declared.map.RegRef.{RegRef as ItsRef}
use Rattle.floor_registers.specs.GicImap.declared.map.RegRef.TheVariants.{Plain as ItsPlain}
use Rattle.floor_registers.specs.GicImap.Map.{decoded as its_decoded}
use Rattle.gic_call.specs.declared.event.Event.{Event}
use Rattle.gic_call.specs.declared.event.Event.TheVariants.{Raise, Up, Down, Cpu, ItsBegin, ItsEnd}
use Rattle.gic_call.specs.View.{View, memory_at, is_its_enabled}
use Rattle.gic_call.specs.Access.{dist_events, dist_value, redist_events, redist_value, its_written, its_value, takes_its, starts_commands as register_starts, memory_written}

-- a write of ICC_SGI1R by this sender makes the SGI pending at a vCPU, if the value names it, whichever group it has (own choice)
abbrev pub sgi_at : ℕ → ℕ → ℕ → Option Event
sgi_at value sender vcpu = if is_target value sender vcpu then Some (Raise (Private vcpu (intid_of value))) else None

-- the SGIs of a write, in rising order of vCPU
abbrev pub sgi_events : GuestShape → ℕ → ℕ → List Event
sgi_events shape sender value = filter_map (sgi_at value sender) (range_with_len 0 shape.vcpus)

-- what follows an access of a CPU interface register
abbrev pub icc_raises : GuestShape → ℕ → IccReg → Option ℕ → List Event
icc_raises shape vcpu Sgi1r (Some value) = sgi_events shape vcpu value
icc_raises shape vcpu reg write = []

-- the events of an access of a CPU interface register
abbrev pub icc_events : GuestShape → ℕ → IccReg → Option ℕ → List Event
icc_events shape vcpu reg write = Cpu vcpu reg write ∷ icc_raises shape vcpu reg write

-- an access of the ITS takes it: a write of a register that takes one, in a guest that has an ITS
abbrev pub takes_turn : GuestShape → ItsRef → Option ℕ → Bool
takes_turn shape (ItsPlain reg half) (Some value) = has_lpis shape && takes_its reg
takes_turn shape ref write = false

-- the events of an access of the ITS, before any command
abbrev pub its_events : GuestShape → View → ItsRef → Option ℕ → List Event
its_events shape view (ItsPlain reg half) (Some value) = if has_lpis shape then its_written view reg half value else []
its_events shape view ref write = []

-- the access starts commands
abbrev pub its_starts : GuestShape → View → ItsRef → Option ℕ → Bool
its_starts shape view (ItsPlain reg half) (Some value) = has_lpis shape && register_starts view reg half value
its_starts shape view ref write = false

-- the events of an access of memory or of a memory-mapped register, before any command and without the turn of the ITS
abbrev pub access_events : GuestShape → View → Frame → ℕ → ℕ → Option ℕ → List Event
access_events shape view Dist offset size write = dist_events shape view (dist_decoded offset size) write
access_events shape view (Redist vcpu) offset size write = redist_events shape view vcpu (redist_decoded offset size) write
access_events shape view Its offset size write = its_events shape view (its_decoded offset size) write
access_events shape view Memory offset size None = []
access_events shape view Memory offset size (Some value) = memory_written shape view offset size value

-- the access starts commands
abbrev pub starts_commands : GuestShape → View → Frame → ℕ → ℕ → Option ℕ → Bool
starts_commands shape view Its offset size write = its_starts shape view (its_decoded offset size) write
starts_commands shape view frame offset size write = false

-- what a read of memory or of a memory-mapped register answers
abbrev pub access_value : GuestShape → View → Frame → ℕ → ℕ → ℕ
access_value shape view Dist offset size = dist_value shape view (dist_decoded offset size)
access_value shape view (Redist vcpu) offset size = redist_value shape view vcpu (redist_decoded offset size)
access_value shape view Its offset size = its_value shape view (its_decoded offset size)
access_value shape view Memory offset size = memory_at shape view offset size

-- the LPI that a message-signalled interrupt makes pending, if any
abbrev pub msi_raises : View → ℕ → ℕ → List Event
msi_raises view device event = option_map_or (λ id. Raise (Lpi id) ∷ []) (translated view.maps (is_its_enabled view) device event) []

-- the events of what a device does
abbrev pub device_events : View → DeviceOp → List Event
device_events view (Message spi) = Raise (Spi spi) ∷ []
device_events view (Wire key up) = (if up then Up key else Down key) ∷ []
device_events view (Msi device event) = ItsBegin ∷ msi_raises view device event ++ ItsEnd ∷ []
