-- Where the frames of a machine are in the guest's physical addresses (IHI 0069, "The GIC memory-mapped register maps": a frame begins at a multiple of
-- 64 KiB; own choice: the redistributors stand side by side, in the order of their vCPUs).
use Rattle.std.specs.Prelude.{ℕ, ◌+◌, ◌-◌, ◌*◌, ◌/◌, ◌%◌, ◌^◌, ◌==◌, ◌&&◌, ◌||◌, Bool, IsTrue, nat_le, if◌then◌else◌, Option, Some, None}
use Rattle.ideal_guest.specs.Words.{GuestShape, Frame, Dist, Redist, Its, is_within}
use Rattle.ideal_guest.specs.Calls.{has_frame, is_inside}
use Rattle.gic_vm.specs.declared.layout.Layout.{Layout}
use Rattle.gic_vm.specs.declared.layout.Region.{Region}

-- the bytes of the frames: of the distributor, of the two of a redistributor, of the two of the ITS
abbrev pub dist_bytes : ℕ
dist_bytes = 0x10000

abbrev pub redist_bytes : ℕ
redist_bytes = 0x20000

abbrev pub its_bytes : ℕ
its_bytes = 0x20000

-- where each frame is, and where all redistributors are
abbrev pub dist_region : Layout → Region
dist_region layout = record { base = layout.dist; bytes = dist_bytes }

abbrev pub redist_region : GuestShape → Layout → Region
redist_region shape layout = record { base = layout.redist; bytes = redist_bytes * shape.vcpus }

abbrev pub its_region : Layout → Region
its_region layout = record { base = layout.its; bytes = its_bytes }

-- a region begins at a multiple of 64 KiB, and ends within the 52 bits of a physical address
abbrev pub is_placed : Region → Bool
is_placed region = region.base % 0x10000 == 0 && nat_le (region.base + region.bytes) (2 ^ 52)

-- two regions have no byte in common
abbrev pub are_apart : Region → Region → Bool
are_apart one other = nat_le (one.base + one.bytes) other.base || nat_le (other.base + other.bytes) one.base

-- the frames of a guest of this shape are placed, and no two have a byte in common
abbrev pub is_layout : GuestShape → Layout → Bool
is_layout shape layout =
    let dist = dist_region layout in
    let redist = redist_region shape layout in
    let its = its_region layout in
    is_placed dist && is_placed redist && is_placed its && are_apart dist redist && are_apart dist its && are_apart redist its

-- the offset of an address in a region, if it is there
abbrev pub offset_in : Region → ℕ → Option ℕ
offset_in region address = if is_within region.base region.bytes address then Some (address - region.base) else None

-- the frame with an offset from the first redistributor on
abbrev pub redist_at : ℕ → Frame × ℕ
redist_at offset = (Redist (offset / redist_bytes), offset % redist_bytes)

-- the frame that an address is in, with the offset there; none outside of the frames
abbrev pub frame_at : GuestShape → Layout → ℕ → Option (Frame × ℕ)
frame_at shape layout address =
    if is_within layout.dist dist_bytes address then Some (Dist, address - layout.dist)
    else (if is_within layout.redist (redist_bytes * shape.vcpus) address then Some (redist_at (address - layout.redist))
    else (if is_within layout.its its_bytes address then Some (Its, address - layout.its)
    else None))

-- a place in a frame that the guest has
pub record IsPlace (shape : GuestShape) (place : Frame × ℕ) : Type 0 where
  pub there : IsTrue (has_frame shape place.0)
  pub inside : (size : ℕ) → IsTrue (is_inside shape place.0 place.1 size)
