-- Places in frames are those of operations that a guest can do.
use Rattle.std.proofs.Common.{◌≡◌, ℕ, ◌-◌, ◌*◌, ◌/◌, ◌%◌, ◌<◌, ◌^◌, ◌==◌, ◌&&◌, zero, suc, if◌then◌else◌, Bool, true, false, nat_lt, IsTrue, IfSome, Option, option_map, Some, None, refl, arith}
use Rattle.std.proofs.lemmas.Grind.{common_steps}
use Rattle.ideal_guest.specs.Words.{GuestShape, Frame, Dist, Its, is_within}
use Rattle.ideal_guest.specs.Registers.{is_size}
use Rattle.ideal_guest.specs.Calls.{has_frame, is_inside, fits, is_good_op}
use Rattle.gic_vm.specs.declared.layout.Layout.{Layout}
use Rattle.gic_vm.specs.Layout.{dist_bytes, redist_bytes, its_bytes, redist_at, frame_at, IsPlace}
use Rattle.guest_memory.specs.declared.access.Access.{Access}
use Rattle.guest_memory.specs.Access.{op_of}
use Rattle.gic_vm.specs.Mmio.{low_bytes, access_of}

-- the offset of what is within
below : (first count n : ℕ) → is_within first count n ≡ true → n - first < count
below first count n h = grind (arith, common_steps, h)

less : (x y : ℕ) → x < y → IsTrue (nat_lt x y)
less x y h = grind (arith, common_steps, h)

-- by an offset from the first redistributor on
redist_there : (shape : GuestShape) (offset : ℕ) → offset < redist_bytes * shape.vcpus → IsPlace shape (redist_at offset)
redist_there shape offset h =
    record {
      there = less (offset / redist_bytes) shape.vcpus (omega (arith, h));
      inside = λ size. less (offset % redist_bytes) redist_bytes (omega arith);
    }

-- an address in a frame is a place
pub frame_there : (shape : GuestShape) (layout : Layout) (address : ℕ) → IfSome (frame_at shape layout address) (IsPlace shape)
frame_there shape layout address =
    of (is_within layout.dist dist_bytes address) refl (is_within layout.redist (redist_bytes * shape.vcpus) address) refl (is_within layout.its its_bytes address) refl
  where
    of : (a : Bool) → is_within layout.dist dist_bytes address ≡ a → (b : Bool) → is_within layout.redist (redist_bytes * shape.vcpus) address ≡ b → (c : Bool) → is_within layout.its its_bytes address ≡ c
        → IfSome (if a then Some (Dist, address - layout.dist) else (if b then Some (redist_at (address - layout.redist)) else (if c then Some (Its, address - layout.its) else None))) (IsPlace shape)
    of true e b f c g = record { there = refl; inside = λ size. less (address - layout.dist) dist_bytes (below layout.dist dist_bytes address e) }
    of false e true f c g = redist_there shape (address - layout.redist) (below layout.redist (redist_bytes * shape.vcpus) address f)
    of false e false f true g = record { there = refl; inside = λ size. less (address - layout.its) its_bytes (below layout.its its_bytes address g) }
    of false e false f false g = tt

-- the low bytes of a value fit as many
low_fits : (size : ℕ) (write : Option ℕ) → IsTrue (fits size (option_map (low_bytes size) write))
low_fits size None = refl
low_fits size (Some value) = less (value % 2 ^ (8 * size)) (2 ^ (8 * size)) (omega (arith, pow_some (8 * size)))
  where
    pow_some : (n : ℕ) → 0 < 2 ^ n
    pow_some zero = omega arith
    pow_some (suc n) = omega (arith, pow_some n)

-- the operation that an access of a place is can be done
pub access_there : (shape : GuestShape) (place : Frame × ℕ) (size : ℕ) (write : Option ℕ) → IsPlace shape place → IfSome (access_of place size write) (λ access. IsTrue (is_good_op shape (op_of access)))
access_there shape place size write is = of (is_size size) refl (place.1 % size == 0)
  where
    good : (a c d e : Bool) → IsTrue a → IsTrue c → IsTrue d → IsTrue e → IsTrue (a && c && d && e)
    good true true true e h i j k = k
    good true true false e h i j k = j
    good true false d e h i j k = i
    good false c d e h i j k = h

    access : Access
    access = record { frame = place.0; offset = place.1; size = size; write = option_map (low_bytes size) write }

    of : (a : Bool) → is_size size ≡ a → (b : Bool) → IfSome (if a && b then Some access else None) (λ access. IsTrue (is_good_op shape (op_of access)))
    of true e true = good (is_size size) (fits size (option_map (low_bytes size) write)) (has_frame shape place.0) (is_inside shape place.0 place.1 size) e (low_fits size write) is.there (is.inside size)
    of true e false = tt
    of false e b = tt
