-- Which records an interrupt of a guest can have (own choice of what is kept; IHI 0069, "INTIDs", for the kinds of interrupts).
use Rattle.std.specs.Prelude.{ℕ, ◌≡◌, ◌&&◌, ◌||◌, not, Bool, true, false, is_none, nat_lt, IsTrue, Option, None}
use Rattle.std.specs.Option.{option_map_or}
use Rattle.gic_base.specs.declared.shape.GuestShape.{GuestShape}
use Rattle.gic_base.specs.declared.interrupt.Key.{Key}
use Rattle.gic_base.specs.declared.interrupt.Key.TheVariants.{Private, Spi, Lpi}
use Rattle.gic_word.specs.declared.record.Group.{Group}
use Rattle.gic_word.specs.declared.record.Group.TheVariants.{G0, G1}
use Rattle.gic_word.specs.declared.record.Route.{Route}
use Rattle.gic_word.specs.declared.record.Route.TheVariants.{Affinity, Target}
use Rattle.gic_word.specs.declared.record.Irq.{Irq}
use Rattle.gic_word.specs.Record.{is_number}
use Rattle.gic_word.specs.Word.{IsIrq}

-- there is no such number, or it is one of the guest's vCPUs
abbrev pub is_vcpu_or_none : GuestShape → Option ℕ → Bool
is_vcpu_or_none shape vcpu = option_map_or (λ vcpu. nat_lt vcpu shape.vcpus) vcpu true

-- a private interrupt is for its own vCPU, an SPI is routed by an affinity, an LPI is for a vCPU of the guest or for none
abbrev pub is_routed_as : GuestShape → Key → Route → Bool
is_routed_as shape (Private vcpu id) (Target target) = is_number vcpu target
is_routed_as shape (Spi id) (Affinity affinity) = true
is_routed_as shape (Lpi id) (Target target) = is_vcpu_or_none shape target
is_routed_as shape key route = false

-- the second group
abbrev pub is_group_1 : Group → Bool
is_group_1 G0 = false
is_group_1 G1 = true

-- an SGI is edge-triggered; an LPI is too, of group 1, and never active
abbrev pub is_of_kind : Key → Irq → Bool
is_of_kind (Private vcpu id) irq = not (nat_lt id 16) || irq.edge
is_of_kind (Spi id) irq = true
is_of_kind (Lpi id) irq = irq.edge && is_group_1 irq.group && is_none irq.act_by

-- the record can stand in a word, is routed as the interrupt's kind and of that kind, and is active by a vCPU of the guest or by
-- none, and held by one or by none
pub record IsRecordOf (shape : GuestShape) (key : Key) (irq : Irq) : Type 0 where
  pub packable : IsIrq irq
  pub route : IsTrue (is_routed_as shape key irq.route)
  pub kind : IsTrue (is_of_kind key irq)
  pub active : IsTrue (is_vcpu_or_none shape irq.act_by)
  pub holder : IsTrue (is_vcpu_or_none shape irq.holder)

-- no interface holds the interrupt, and no access waits for it: so in the ideal controller
pub record IsHome (irq : Irq) : Type 0 where
  pub unheld : irq.holder ≡ None
  pub unwanted : irq.want ≡ false
