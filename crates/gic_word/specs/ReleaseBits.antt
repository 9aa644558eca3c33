-- What a vCPU does to an interrupt's word as it gives the interrupt back and releases it, one atomic step each (own choice of the bits).
use Rattle.std.specs.Prelude.{ℕ, ◌≡◌, ◌<◌, ◌+◌, ◌*◌, ◌^◌, ◌||◌, Bool, Some, None, bit_or}
use Rattle.gic_base.specs.Shape.{max_vcpus}
use Rattle.gic_bits.specs.Bits.{bit_of}
use Rattle.gic_word.specs.declared.places.TheConstants.{HELD_BY_NONE, ACTIVE_BY_NONE}
use Rattle.gic_word.specs.Word.{IsWord, irq_of}
use Rattle.gic_word.specs.CauseBits.{IsChange, OrChanges, AndChanges}

-- the bits of the latched causes that come back
abbrev pub cause_bits_of : Bool → Bool → ℕ
cause_bits_of rise soft = bit_of soft + bit_of rise * 2 ^ 2

-- the bits of a vCPU's number where an interrupt that is active by none is made active by it
abbrev pub active_bits_of : ℕ → ℕ
active_bits_of vcpu = (vcpu + 1) * 2 ^ 14

-- a fetch-or gives causes back and makes active, a fetch-and releases and makes inactive
pub record ReleaseBits : Type 0 where
  pub give_back : (rise soft : Bool) → OrChanges (cause_bits_of rise soft) (λ irq. record irq { rise = irq.rise || rise; soft = irq.soft || soft })
  pub activate : (vcpu word : ℕ) → vcpu < max_vcpus → IsWord word → (irq_of word).act_by ≡ None → IsChange (λ irq. record irq { act_by = Some vcpu }) word (bit_or word (active_bits_of vcpu))
  pub deactivate : AndChanges ACTIVE_BY_NONE (λ irq. record irq { act_by = None })
  pub release : AndChanges HELD_BY_NONE (λ irq. record irq { holder = None })
