-- Which events a guest can have: what they name is there, and their values are in range.
use Rattle.std.specs.Prelude.{◌≡◌, ℕ, ◌%◌, ◌<◌, ◌&&◌, Bool, true, false, IsTrue, nat_lt}
use Rattle.floor_registers.specs.Words.{GuestShape, has_interrupt}
use Rattle.gic_open.specs.GicGuest.Good.{has_wire, is_usable}
use Rattle.gic_open.specs.declared.plain.PlainWord.{PlainWord}
use Rattle.gic_open.specs.declared.plain.PlainWord.TheVariants.{Fault}
use Rattle.gic_open.specs.Plain.{has_plain}
use Rattle.gic_call.specs.declared.event.Event.{Event}
use Rattle.gic_call.specs.declared.event.Event.TheVariants.{Raise, Up, Down, Enable, Touch, Reach, Take, Leave, Cpu, Read, Put, CtlrBegin, CtlrEnd, ItsBegin, ItsEnd, Queue}
use Rattle.gic_call.specs.declared.event.Place.{Place}
use Rattle.gic_call.specs.declared.event.Place.TheVariants.{Word, Lpis}
use Rattle.gic_call.specs.declared.event.QueueChange.TheVariants.{Done, Stalls}
use Rattle.gic_call.specs.Touch.{CanTouch}

-- the guest has the place
abbrev pub has_place : GuestShape → Place → Bool
has_place shape (Word word) = has_plain shape word
has_place shape (Lpis vcpu) = nat_lt vcpu shape.vcpus
has_place shape place = true

-- an offset in bytes is that of a command in the largest queue
pub record IsOffset (offset : ℕ) : Type 0 where
  pub place : offset % 32 ≡ 0
  pub within : offset < 1048576

-- a plain word that an actor stores; the number of a fault is stored with the stall alone
abbrev pub is_stored : PlainWord → Bool
is_stored Fault = false
is_stored word = true

-- the event names what the guest has, in range
abbrev pub CanHappen : GuestShape → Event → Type 0
CanHappen shape (Raise key) = IsTrue (has_interrupt shape key)
CanHappen shape (Up key) = IsTrue (has_wire key && has_interrupt shape key)
CanHappen shape (Down key) = IsTrue (has_wire key && has_interrupt shape key)
CanHappen shape (Enable vcpu) = vcpu < shape.vcpus
CanHappen shape (Touch key touching) = CanTouch shape key touching
CanHappen shape (Reach key vcpu) = IsTrue (has_interrupt shape key) × (vcpu < shape.vcpus)
CanHappen shape (Take key vcpu) = IsTrue (has_interrupt shape key) × (vcpu < shape.vcpus)
CanHappen shape (Leave key vcpu) = IsTrue (has_interrupt shape key) × (vcpu < shape.vcpus)
CanHappen shape (Cpu vcpu reg write) = (vcpu < shape.vcpus) × IsTrue (is_usable reg write)
CanHappen shape (Read place) = IsTrue (has_place shape place)
CanHappen shape (Put word value) = IsTrue (has_plain shape word) × IsTrue (is_stored word)
CanHappen shape (CtlrBegin enables) = Unit {0}
CanHappen shape CtlrEnd = Unit {0}
CanHappen shape ItsBegin = Unit {0}
CanHappen shape ItsEnd = Unit {0}
CanHappen shape (Queue offset (Stalls fault)) = IsOffset offset × (fault < 256)
CanHappen shape (Queue offset change) = IsOffset offset

-- the same of an event that the guest can have whatever its ITS has mapped: any but the end of a command
abbrev pub HappensFreely : GuestShape → Event → Type 0
HappensFreely shape (Queue offset (Done words)) = ⊥
HappensFreely shape event = CanHappen shape event
