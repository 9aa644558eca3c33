-- The touch of an interrupt by an access or an ITS command (IHI 0069, "The Distributor register map" and "ITS commands").
use Rattle.std.specs.Prelude.{ℕ, ◌%◌, ◌^◌, ◌&&◌, ◌==◌, Bool, true, false, nat_lt, nat_le, IsTrue, Option, Some, None}
use Rattle.floor_registers.specs.Words.{Kind, Routing, Key, Spi, Lpi, GuestShape, has_interrupt, Irq, Target, is_vcpu_or_none}
use Rattle.floor_registers.specs.Registers.{part_bits, has_part, shows_route, part_read, part_written}
use Rattle.gic_call.specs.declared.touch.Touching.{Touching}
use Rattle.gic_call.specs.declared.touch.Touching.TheVariants.{Read, Register, Enables, MapLpi, Retarget, Configure, Forget}

-- the record after a touch, one row each
abbrev pub touched : GuestShape → Key → Touching → Irq → Irq
touched shape key (Read kind) irq = irq
touched shape key (Register kind value) irq = part_written kind key irq value shape
touched shape key (Enables en0 en1) irq = record irq { en0 = en0; en1 = en1 }
touched shape key (MapLpi target enabled prio) irq = record irq { route = Target (Some target); enabled = enabled; prio = prio }
touched shape key (Retarget target) irq = record irq { route = Target target }
touched shape key (Configure enabled prio) irq = record irq { enabled = enabled; prio = prio }
touched shape key Forget irq = record irq { soft = false; route = Target None; enabled = false; prio = 0 }

-- what a touch answers, of the record before it
abbrev pub touch_answer : Touching → Irq → Option ℕ
touch_answer (Read kind) irq = Some (part_read kind irq)
touch_answer touch irq = None

-- the record has what the touch reads
abbrev pub is_shown : Touching → Irq → Bool
is_shown (Read kind) irq = shows_route kind irq.route
is_shown touch irq = true

-- an LPI
abbrev pub is_lpi : Key → Bool
is_lpi (Lpi id) = true
is_lpi key = false

-- registers of this kind have a part of the interrupt: an IROUTER is an SPI's
abbrev pub has_shown_part : Kind → Key → Bool
has_shown_part Routing (Spi id) = true
has_shown_part Routing key = false
has_shown_part kind key = true

-- a priority: a multiple of 8 up to 248 (IHI 0069, "Interrupt prioritization"; own choice of five priority bits)
abbrev pub is_priority : ℕ → Bool
is_priority prio = prio % 8 == 0 && nat_le prio 248

-- the touch is one of such an interrupt, and its values are in range: a command's touch is of an LPI
abbrev pub is_touch_of : GuestShape → Key → Touching → Bool
is_touch_of shape key (Read kind) = has_shown_part kind key
is_touch_of shape key (Register kind value) = has_part kind key && nat_lt value (2 ^ part_bits kind)
is_touch_of shape key (Enables en0 en1) = true
is_touch_of shape key (MapLpi target enabled prio) = is_lpi key && nat_lt target shape.vcpus && is_priority prio
is_touch_of shape key (Retarget target) = is_lpi key && is_vcpu_or_none shape target
is_touch_of shape key (Configure enabled prio) = is_lpi key && is_priority prio
is_touch_of shape key Forget = is_lpi key

-- the guest has the interrupt, and the touch is one of it
pub record CanTouch (shape : GuestShape) (key : Key) (touch : Touching) : Type 0 where
  pub there : IsTrue (has_interrupt shape key)
  pub fits : IsTrue (is_touch_of shape key touch)
