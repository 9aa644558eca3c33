-- What holds of each state that the ideal controller reaches.
use Rattle.std.specs.Prelude.{◌≡◌, ◌<◌, ◌%◌, ◌||◌, not, IsTrue, length, All}
use Rattle.floor_calls.specs.Words.{GuestShape, Key, IsShape, has_interrupt, interrupt_count, Irq, IsRecordOf, IsHome}
use Rattle.floor_calls.specs.Registers.{CpuRec, HasBinaryPoints, HasLevels, IsValid}
use Rattle.ideal_guest.specs.declared.guest.IdealGuest.{IdealGuest}
use Rattle.floor_calls.specs.Calls.{has_wire, Fault, plain_count}
use Rattle.ideal_guest.specs.Ideal.{irq_at, word_at}

-- the record is one that this interrupt of the guest can have, no interface holds it, and nothing rose that has no wire
pub record IsIdealRecord (shape : GuestShape) (key : Key) (irq : Irq) : Type 0 where
  pub valid : IsRecordOf shape key irq
  pub home : IsHome irq
  pub unrisen : IsTrue (has_wire key || not irq.rise)

-- the binary points have three bits, and there are 32 levels
pub record IsIdealCpu (cpu : CpuRec) : Type 0 where
  pub points : HasBinaryPoints cpu
  pub levels : HasLevels cpu

-- the guest has a record for each of its interrupts and vCPUs, each of which is valid, and each of its plain words; its queue is at the place of a
-- command, the number of a fault has one byte, and its commands can have made its maps
pub record IsSound (guest : IdealGuest) : Type 0 where
  pub shape : IsShape guest.shape
  pub irqs : length guest.irqs ≡ interrupt_count guest.shape
  pub cpus : length guest.cpus ≡ guest.shape.vcpus
  pub records : (key : Key) → IsTrue (has_interrupt guest.shape key) → IsIdealRecord guest.shape key (irq_at guest key)
  pub interfaces : All IsIdealCpu guest.cpus
  pub words : length guest.words ≡ plain_count guest.shape
  pub place : guest.offset % 32 ≡ 0
  pub offset : guest.offset < 1048576
  pub fault : word_at guest Fault < 256
  pub maps : IsValid guest.shape guest.tables
