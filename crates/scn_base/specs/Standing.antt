-- Where the vCPUs stand and how the wires are before a step of a scenario (own choice).
use Rattle.std.specs.Prelude.{◌≡◌, ℕ, ◌+◌, ◌≤◌, ◌&&◌, ◌==◌, nat_lt, Bool, true, false, IsTrue, List, [], ◌∷◌, ◌++◌, length, All, map, replicate, take, sum_by, slice_get, slice_index_or, slice_set, Option, Some, None}
use Rattle.std.specs.Option.{option_map_or}
use Rattle.std.specs.List.{list_any, range_with_len}
use Rattle.gic_guest.specs.Words.{GuestShape, Key, Message, Wire, Msi, Enter, Exit, Lrs, IsShape, interrupt_count, place_of}
use Rattle.gic_guest.specs.Good.{passes}
use Rattle.scn_base.specs.declared.step.Step.{Step}
use Rattle.scn_base.specs.declared.step.Step.TheVariants.{Vcpu, Device, Pe}
use Rattle.scn_base.specs.declared.pes.VcpuName.{VcpuName}
use Rattle.scn_base.specs.declared.standing.MovedWire.{MovedWire}
use Rattle.scn_base.specs.declared.standing.Standing.{Standing}

-- ---- PEs

-- a vCPU by the number of its guest and its own
abbrev pub vcpu_name : ℕ → ℕ → VcpuName
vcpu_name guest vcpu = record { guest = guest; vcpu = vcpu }

-- the vCPUs of the guests, the first of which has this number, in order of guest and number
abbrev pub vcpus_from : ℕ → List GuestShape → List VcpuName
vcpus_from guest [] = []
vcpus_from guest (shape ∷ shapes) = map (vcpu_name guest) (range_with_len 0 shape.vcpus) ++ vcpus_from (guest + 1) shapes

-- which vCPU stands on each PE at the opening: on PE 0, 1, .. the vCPUs in order, as far as both last
abbrev pub opening_pes : ℕ → List GuestShape → List (Option VcpuName)
opening_pes pes shapes = map (slice_get (vcpus_from 0 shapes)) (range_with_len 0 pes)

-- the same after a step: a vCPU is on the PE that it entered, and on none after its exit
abbrev pub pes_after : Step → List (Option VcpuName) → List (Option VcpuName)
pes_after (Vcpu guest vcpu op) pes = pes
pes_after (Device guest device op) pes = pes
pes_after (Pe pe (Enter guest vcpu)) pes = slice_set pes pe (Some (vcpu_name guest vcpu))
pes_after (Pe pe Exit) pes = slice_set pes pe None
pes_after (Pe pe Lrs) pes = pes

-- the guests have this vCPU
abbrev pub has_vcpu : List GuestShape → ℕ → ℕ → Bool
has_vcpu shapes guest vcpu = passes (λ shape. nat_lt vcpu shape.vcpus) (slice_get shapes guest)

-- each vCPU that stands on a PE is one of the guests'
abbrev pub ResidentsExist : List GuestShape → List (Option VcpuName) → Type 0
ResidentsExist shapes pes = All (λ resident. IsTrue (option_map_or (λ name. has_vcpu shapes name.guest name.vcpu) resident true)) pes

-- the vCPU stands on a PE
abbrev pub is_resident : List (Option VcpuName) → ℕ → ℕ → Bool
is_resident pes guest vcpu = list_any (passes (λ name. name.guest == guest && name.vcpu == vcpu)) pes

-- which vCPU stands on a PE
abbrev pub resident_of : List (Option VcpuName) → ℕ → Option VcpuName
resident_of pes pe = slice_index_or pes pe None

-- ---- wires

-- how many wires the guests have: each interrupt has one
abbrev pub wire_count : List GuestShape → ℕ
wire_count shapes = sum_by interrupt_count shapes

-- the wires of all guests have one numbering: guest after guest, and in a guest by the place of the interrupt
abbrev pub wire_place : List GuestShape → ℕ → Key → ℕ
wire_place shapes guest key = wire_count (take guest shapes) + option_map_or (λ shape. place_of shape key) (slice_get shapes guest) 0

-- which device has moved each wire, if any, and its level, after a step
abbrev pub wires_after : List GuestShape → Step → List (Option MovedWire) → List (Option MovedWire)
wires_after shapes (Vcpu guest vcpu op) wires = wires
wires_after shapes (Device guest device (Message spi)) wires = wires
wires_after shapes (Device guest device (Wire key up)) wires = slice_set wires (wire_place shapes guest key) (Some (record { device = device; up = up }))
wires_after shapes (Device guest device (Msi number event)) wires = wires
wires_after shapes (Pe pe op) wires = wires

-- ---- both

-- the standing at the opening: no wire has been moved, and each is down
abbrev pub opening_standing : ℕ → List GuestShape → Standing
opening_standing pes shapes = record { shapes = shapes; pes = opening_pes pes shapes; wires = replicate (wire_count shapes) None }

-- the standing after a step
abbrev pub standing_after : Step → Standing → Standing
standing_after step standing =
    record {
      shapes = standing.shapes;
      pes = pes_after step standing.pes;
      wires = wires_after standing.shapes step standing.wires;
    }

-- a wire of a guest: which device has moved it, and its level, if any has
abbrev pub wire_of : Standing → ℕ → Key → Option MovedWire
wire_of standing guest key = slice_index_or standing.wires (wire_place standing.shapes guest key) None

-- a standing of few guests, each with numbers in range, with a place for each wire, and of few PEs
pub record IsStanding (standing : Standing) : Type 0 where
  pub shapes : All IsShape standing.shapes
  pub guests : length standing.shapes ≤ 4
  pub pes : length standing.pes ≤ 8
  pub wires : length standing.wires ≡ wire_count standing.shapes
