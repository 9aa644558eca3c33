-- Interrupts that wait for a vCPU (own choice).
use Rattle.std.specs.Prelude.{◌≡◌, ℕ, false, IsTrue, None}
use Rattle.law_registers_stand.specs.Words.{Key, GuestShape, has_interrupt, Irq as IrqRecord, irq_of}
use Rattle.law_registers_stand.specs.Histories.{Track}
use Rattle.law_registers_stand.specs.Core.{Irq, CoreState, word_in}
use Rattle.law_scans_miss_none.specs.Index.{waits_for}
use Rattle.law_scans_miss_none.specs.Excuse.{IsExcused}

-- the record in an interrupt's word
abbrev pub record_in : GuestShape → CoreState → Key → IrqRecord
record_in shape state key = irq_of (word_in shape state (Irq key))

-- an interrupt waits for a vCPU: nobody holds it, no access waits for it, and the vCPU may take it to its interface, but for what it enables there itself
pub record IsWaiting (shape : GuestShape) (state : CoreState) (vcpu : ℕ) (key : Key) : Type 0 where
  pub there : IsTrue (has_interrupt shape key)
  pub home : (record_in shape state key).holder ≡ None
  pub unwanted : (record_in shape state key).want ≡ false
  pub waits : IsTrue (waits_for shape vcpu (record_in shape state key))

-- an interrupt that waits for the vCPU is due: the vCPU was told of its last change
pub record IsDue (shape : GuestShape) (state : CoreState) (track : Track) (vcpu : ℕ) (key : Key) : Type 0 where
  pub waiting : IsWaiting shape state vcpu key
  pub told : IsExcused shape state track vcpu key → ⊥
