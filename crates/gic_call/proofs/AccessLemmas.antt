-- What an access does to the interrupt of a part, this can have.
use Rattle.std.proofs.Common.{IsTrue, ◌<◌, ◌^◌, ◌&&◌, ℕ, nat_lt, refl}
use Rattle.floor_registers.specs.Words.{GuestShape, Key, Private, Spi, Lpi, Routing, has_interrupt, Kind}
use Rattle.floor_registers.specs.Registers.{part_bits, has_part}
use Rattle.floor_registers.proofs.GicFrame.TestLemmas.{both, is_under}
use Rattle.gic_call.specs.Touch.{CanTouch, has_shown_part}
use Rattle.gic_call.specs.declared.touch.Touching.TheVariants.{Read, Register}

-- an interrupt that has a part that a register writes has one that it reads
pub can_read : (shape : GuestShape) (key : Key) (kind : Kind) → IsTrue (has_interrupt shape key) → IsTrue (has_part kind key) → CanTouch shape key (Read kind)
can_read shape key kind there part = record { there = there; fits = shown kind key part }
  where
    shown : (kind : Kind) (key : Key) → IsTrue (has_part kind key) → IsTrue (has_shown_part kind key)
    shown Routing (Spi id) h = refl
    shown Routing (Private vcpu id) h = absurd (cc)
    shown Routing (Lpi id) h = absurd (cc)
    shown kind key h = refl

pub can_write : (shape : GuestShape) (key : Key) (kind : Kind) (value : ℕ) → IsTrue (has_interrupt shape key) → IsTrue (has_part kind key) → value < 2 ^ part_bits kind → CanTouch shape key (Register kind value)
can_write shape key kind value there part fits = record { there = there; fits = both (has_part kind key) (nat_lt value (2 ^ part_bits kind)) part (is_under value (2 ^ part_bits kind) fits) }
