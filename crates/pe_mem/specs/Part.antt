-- An access to the part that an interrupt has in the registers of a kind.
use Rattle.std.specs.Prelude.{◌≡◌, ℕ, ◌<◌, Option, Some, None, IsTrue}
use Rattle.its_exec.specs.Words.{Key, Kind, GuestShape, has_interrupt, Irq, IsRecordOf, IsIrq, irq_of}
use Rattle.its_exec.specs.Registers.{half_limit, half_written, shows_route, part_read}
use Rattle.its_exec.specs.Calls.{Touching, Register, CanTouch, has_shown_part}
use Rattle.its_exec.specs.GicCall.declared.touch.Touching.TheVariants.{Read}
use Rattle.its_exec.specs.Core.{Seen}
use Rattle.its_exec.specs.PortCall.declared.touching.Missed.{Missed}
use Rattle.its_exec.specs.PortCall.Touch.{MissesTouch, Touches}
use Rattle.pe_mem.specs.declared.attempt.PartAccess.{PartAccess}
use Rattle.pe_mem.specs.declared.attempt.PartAccess.TheVariants.{Reads, Writes, WritesHalf}

-- what it does to the interrupt: a read of its part, or a write of a value
abbrev pub touching_of : Kind → Option ℕ → Touching
touching_of kind None = Read kind
touching_of kind (Some value) = Register kind value

-- what it answers, of a part that reads so: a write 0
abbrev pub part_answer : Option ℕ → ℕ → ℕ
part_answer None read = read
part_answer (Some value) read = 0

-- what an access does to an interrupt with this record: of a write of a half the other half is as it is stored
abbrev pub touching_by : PartAccess → Kind → Irq → Touching
touching_by Reads kind irq = Read kind
touching_by (Writes value) kind irq = Register kind value
touching_by (WritesHalf half value) kind irq = Register kind (half_written half (part_read kind irq) value)

-- the half of a part that an access writes takes its value
abbrev pub FitsPart : PartAccess → Type 0
FitsPart Reads = Unit {0}
FitsPart (Writes value) = Unit {0}
FitsPart (WritesHalf half value) = value < half_limit half

-- an access is one of the interrupt, whatever record it has: the guest has the interrupt, which has the part
pub record CanAttempt (shape : GuestShape) (key : Key) (kind : Kind) (access : PartAccess) : Type 0 where
  pub there : IsTrue (has_interrupt shape key)
  pub part : IsTrue (has_shown_part kind key)
  pub can : (irq : Irq) → IsRecordOf shape key irq → CanTouch shape key (touching_by access kind irq)
  pub fits : FitsPart access

-- an actor made such an access, and found the interrupt with this record
pub record Attempts (old new : Seen) (key : Key) (kind : Kind) (access : PartAccess) (irq : Irq) : Type 0 where
  pub found : ℕ
  pub touches : Touches old new key (touching_by access kind (irq_of found)) found
  pub irq_is : irq ≡ irq_of found
  pub packable : IsIrq irq
  pub shown : IsTrue (shows_route kind irq.route)

-- it did not, of an interrupt that it looked at with this record
pub record Misses (old new : Seen) (key : Key) (kind : Kind) (access : PartAccess) (missed : Missed) : Type 0 where
  pub looked : Irq
  pub misses : MissesTouch old new key (touching_by access kind looked) missed

-- an actor read an interrupt's part or wrote it, and found the interrupt's word so
pub record Accesses (old new : Seen) (key : Key) (kind : Kind) (write : Option ℕ) (answer : ℕ) : Type 0 where
  pub found : ℕ
  pub touches : Touches old new key (touching_of kind write) found
  pub answer_is : answer ≡ part_answer write (part_read kind (irq_of found))
