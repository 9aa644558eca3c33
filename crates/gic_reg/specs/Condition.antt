-- Which interrupts have a part in which registers, and how they are routed.
use Rattle.std.specs.Prelude.{Bool, true, false}
use Rattle.gic_frame.specs.Words.{Kind, SetPending, ClearPending, Routing, Key, Spi, Lpi, GuestShape, Route, Affinity, Target, is_vcpu_or_none}

-- the interrupt has a part that a register of this kind writes: an IROUTER is an SPI's, and an LPI is pended and cleared
-- alone, as the ITS commands INT and CLEAR do
abbrev pub has_part : Kind → Key → Bool
has_part Routing (Spi id) = true
has_part Routing key = false
has_part SetPending key = true
has_part ClearPending key = true
has_part kind (Lpi id) = false
has_part kind key = true

-- an SPI is routed by an affinity; any other interrupt to a vCPU of the guest or to none
abbrev pub is_routed : GuestShape → Key → Route → Bool
is_routed shape (Spi id) (Affinity affinity) = true
is_routed shape (Spi id) (Target target) = false
is_routed shape key (Affinity affinity) = false
is_routed shape key (Target target) = is_vcpu_or_none shape target

-- the register shows what the record has: an IROUTER an affinity
abbrev pub shows_route : Kind → Route → Bool
shows_route Routing (Affinity affinity) = true
shows_route Routing (Target target) = false
shows_route kind route = true
