-- The ideal controller of one guest while interrupts stand at its CPU interfaces, which have room for all (own choice, as IHI 0069 leaves it).
use Rattle.std.specs.Prelude.{ℕ, Bool, not, List, [], map, find, replicate, Option, option_map, None, is_some, slice_index_or, slice_set}
use Rattle.std.specs.List.{list_any}
use Rattle.ideal_guest.specs.Words.{Key, is_same_key, Irq}
use Rattle.ideal_guest.specs.Registers.{AtInterface, InterfaceState}
use Rattle.ideal_guest.specs.Calls.{Entry, Moved, at_interface, View}
use Rattle.ideal_guest.specs.declared.guest.IdealGuest.{IdealGuest}
use Rattle.ideal_guest.specs.Ideal.{irq_at, changed_irq, cpu_at, view_of}

-- an interrupt at an interface, with what the interface has of it
pub record Standing : Type 0 where
  pub key : Key
  pub entry : Entry

-- the guest; what stands at each vCPU's interface; the actor that copies GICD_CTLR's enables to all interrupts, and the one that has the ITS
pub record Ideal : Type 0 where
  pub guest : IdealGuest
  pub at : List (List Standing)
  pub spreads : Option ℕ
  pub has_its : Option ℕ

-- as a guest opens: nothing is at an interface, and nobody has the ITS
abbrev pub opening : IdealGuest → Ideal
opening guest = record { guest = guest; at = replicate guest.shape.vcpus []; spreads = None; has_its = None }

-- what stands at a vCPU's interface
abbrev pub standing_at : Ideal → ℕ → List Standing
standing_at state vcpu = slice_index_or state.at vcpu []

abbrev pub is_of : Key → Standing → Bool
is_of key standing = is_same_key standing.key key

-- an interrupt there, with its record
abbrev pub moved_at : Ideal → ℕ → Key → Option Moved
moved_at state vcpu key = option_map (λ standing. record { irq = irq_at state.guest key; entry = standing.entry }) (find (is_of key) (standing_at state vcpu))

-- an interrupt is home: it is at no interface
abbrev pub is_home : Ideal → Key → Bool
is_home state key = not (list_any (list_any (is_of key)) state.at)

-- the interface of a vCPU as an access of its registers sees it
abbrev pub shown_at : Ideal → Standing → AtInterface
shown_at state standing = at_interface standing.key (record { irq = irq_at state.guest standing.key; entry = standing.entry })

abbrev pub interface_at : Ideal → ℕ → InterfaceState
interface_at state vcpu = record { cpu = cpu_at state.guest vcpu; at = map (shown_at state) (standing_at state vcpu) }

-- what a call can find in the guest
abbrev pub view_at : Ideal → View
view_at state = record (view_of state.guest) { is_spreading = is_some state.spreads }

-- the state with a record of an interrupt, and with others at an interface
abbrev pub with_irq : Ideal → Key → Irq → Ideal
with_irq state key irq = record state { guest = changed_irq key (λ before. irq) state.guest }

abbrev pub with_standing : Ideal → ℕ → List Standing → Ideal
with_standing state vcpu standing = record state { at = slice_set state.at vcpu standing }
