-- What a change of a single cause's bit in an interrupt's word does to its record: the atomic steps of devices and registers rest on it
-- (own choice of the bits; IHI 0069, "Interrupt handling state machine", for the causes).
use Rattle.std.specs.Prelude.{ℕ, ◌≡◌, true, false, bit_and, bit_or}
use Rattle.std.specs.Int.{w64, bit_not}
use Rattle.gic_word.specs.declared.record.Irq.{Irq}
use Rattle.gic_word.specs.declared.places.TheConstants.{SOFT, LINE, RISE, RAISE, WIRE_UP, WIRE_DOWN}
use Rattle.gic_word.specs.Causes.{raised, wire_up, wire_down}
use Rattle.gic_word.specs.Word.{IsWord, irq_of}

-- a word became another by this change of its record
pub record IsChange (change : Irq → Irq) (before after : ℕ) : Type 0 where
  pub word : IsWord after
  pub irq : irq_of after ≡ change (irq_of before)

-- a fetch-or of these bits changes each word's record so
abbrev pub OrChanges : ℕ → (Irq → Irq) → Type 0
OrChanges bits change = (word : ℕ) → IsWord word → IsChange change word (bit_or word bits)

-- a fetch-and of these bits changes each word's record so
abbrev pub AndChanges : ℕ → (Irq → Irq) → Type 0
AndChanges bits change = (word : ℕ) → IsWord word → IsChange change word (bit_and word bits)

-- the bit of each cause, set and cleared
pub record CauseBits : Type 0 where
  pub set_soft : OrChanges SOFT (λ irq. record irq { soft = true })
  pub clear_soft : AndChanges (bit_not w64 SOFT) (λ irq. record irq { soft = false })
  pub set_line : OrChanges LINE (λ irq. record irq { line = true })
  pub clear_line : AndChanges (bit_not w64 LINE) (λ irq. record irq { line = false })
  pub set_rise : OrChanges RISE (λ irq. record irq { rise = true })
  pub clear_rise : AndChanges (bit_not w64 RISE) (λ irq. record irq { rise = false })

-- what devices do, one step each: a raise and a wire up are a fetch-or, a wire down is a fetch-and
pub record DeviceBits : Type 0 where
  pub raise : OrChanges RAISE raised
  pub wire_up : OrChanges WIRE_UP wire_up
  pub wire_down : AndChanges WIRE_DOWN wire_down
