-- The interrupts of a guest (IHI 0069, "INTIDs"), and their numbering in key order (own choice).
use Rattle.std.specs.Prelude.{◌≡◌, ℕ, ◌+◌, ◌-◌, ◌*◌, ◌/◌, ◌%◌, ◌<◌, ◌↔◌, ◌&&◌, ◌||◌, ◌==◌, Bool, true, false, IsTrue, nat_lt, nat_le, if◌then◌else◌, Option, Some, None}
use Rattle.std.specs.declared.cmp.Ordering.{Ordering}
use Rattle.std.specs.declared.cmp.Ordering.TheVariants.{Less}
use Rattle.gic_base.specs.declared.shape.GuestShape.{GuestShape}
use Rattle.gic_base.specs.Shape.{IsShape}
use Rattle.gic_base.specs.declared.interrupt.Key.{Key}
use Rattle.gic_base.specs.declared.interrupt.Key.TheVariants.{Private, Spi, Lpi}

-- the INTID of an interrupt
abbrev pub intid_of : Key → ℕ
intid_of (Private vcpu id) = id
intid_of (Spi id) = id
intid_of (Lpi id) = id

-- an SGI: a private interrupt with an INTID from 0 to 15
abbrev pub is_sgi : Key → Bool
is_sgi (Private vcpu id) = nat_lt id 16
is_sgi (Spi id) = false
is_sgi (Lpi id) = false

-- the number is one of so many from a first one on
abbrev pub is_within : ℕ → ℕ → ℕ → Bool
is_within first count n = nat_le first n && nat_lt n (first + count)

-- the guest has this interrupt: the INTIDs 0 to 31 are private to each vCPU, SPIs are those from 32 and extended SPIs those from
-- 4096, LPIs those from 8192
abbrev pub has_interrupt : GuestShape → Key → Bool
has_interrupt shape (Private vcpu id) = nat_lt vcpu shape.vcpus && nat_lt id 32
has_interrupt shape (Spi id) = is_within 32 shape.spis id || is_within 4096 shape.espis id
has_interrupt shape (Lpi id) = is_within 8192 shape.lpis id

-- the interrupt is shared, or private to this vCPU
abbrev pub is_of_vcpu : ℕ → Key → Bool
is_of_vcpu vcpu (Private v id) = v == vcpu
is_of_vcpu vcpu (Spi id) = true
is_of_vcpu vcpu (Lpi id) = true

-- the two interrupts are one
abbrev pub is_same_key : Key → Key → Bool
is_same_key (Private v i) (Private w j) = v == w && i == j
is_same_key (Spi i) (Spi j) = i == j
is_same_key (Lpi i) (Lpi j) = i == j
is_same_key one other = false

-- the interrupt with this INTID at this vCPU, if the guest has one
abbrev pub key_of : ℕ → ℕ → GuestShape → Option Key
key_of id vcpu shape =
    if nat_lt id 32 then (if nat_lt vcpu shape.vcpus then Some (Private vcpu id) else None)
    else (if is_within 32 shape.spis id || is_within 4096 shape.espis id then Some (Spi id)
    else (if is_within 8192 shape.lpis id then Some (Lpi id) else None))

-- how many private interrupts the guest has in all
abbrev pub private_count : GuestShape → ℕ
private_count shape = 32 * shape.vcpus

-- how many of its interrupts come before its extended SPIs, and before its LPIs
abbrev pub espis_from : GuestShape → ℕ
espis_from shape = private_count shape + shape.spis

abbrev pub lpis_from : GuestShape → ℕ
lpis_from shape = espis_from shape + shape.espis

-- how many interrupts the guest has
abbrev pub interrupt_count : GuestShape → ℕ
interrupt_count shape = lpis_from shape + shape.lpis

-- the place of an interrupt in key order, from 0
abbrev pub place_of : GuestShape → Key → ℕ
place_of shape (Private vcpu id) = 32 * vcpu + id
place_of shape (Spi id) = if nat_lt id 4096 then private_count shape + (id - 32) else espis_from shape + (id - 4096)
place_of shape (Lpi id) = lpis_from shape + (id - 8192)

-- the interrupt at a place
abbrev pub key_at : GuestShape → ℕ → Key
key_at shape place =
    if nat_lt place (private_count shape) then Private (place / 32) (place % 32)
    else (if nat_lt place (espis_from shape) then Spi (place - private_count shape + 32)
    else (if nat_lt place (lpis_from shape) then Spi (place - espis_from shape + 4096)
    else Lpi (place - lpis_from shape + 8192)))

-- an interrupt that the order of the keys puts before another has the lower place
abbrev pub PlacesAreOrdered : (Key → Key → Ordering) → Type 0
PlacesAreOrdered cmp =
    (shape : GuestShape) (j k : Key) → IsShape shape → IsTrue (has_interrupt shape j) → IsTrue (has_interrupt shape k) → (cmp j k ≡ Less) ↔ (place_of shape j < place_of shape k)
