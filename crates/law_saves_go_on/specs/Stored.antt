-- The plain words of a guest in the states that the ideal controller reaches (the form is an own choice).
use Rattle.std.specs.Prelude.{◌≡◌, ℕ, List, map, false, IsTrue, All}
use Rattle.law_runs_split.specs.GicIdeal.ScnBase.declared.step.Step.{Step}
use Rattle.law_runs_split.specs.GicIdeal.IdealGuests.Words.{bit_of}
use Rattle.law_runs_split.specs.GicIdeal.IdealGuests.Registers.{has_lpis, enabled_in, cbaser_bits, queue_offset, baser_bits, propbaser_bits, pendbaser_bits}
use Rattle.law_runs_split.specs.GicIdeal.IdealGuests.Calls.{GuestSpec, PlainWord, Ram, Propbaser, Pendbaser, ItsCtlr, Cbaser, Cwriter, Baser0, Baser1, Fault, has_plain}
use Rattle.law_runs_split.specs.GicIdeal.IdealGuests.declared.guest.IdealGuest.{IdealGuest}
use Rattle.law_runs_split.specs.GicIdeal.IdealGuests.Ideal.{word_at}
use Rattle.law_runs_split.specs.GicIdeal.IdealGuests.Opening.{opening}
use Rattle.law_runs_split.specs.GicIdeal.Eager.{after_steps}
use Rattle.saved_take.specs.Back.{IsWithoutIts}

-- the bits of a value that a plain word stores: those of its register (IHI 0069, GICR_PROPBASER, GICR_PENDBASER, GITS_CTLR, GITS_CBASER, GITS_CWRITER
-- and GITS_BASER<n>), and of memory and of the number of a fault all
abbrev pub stored_bits : PlainWord → ℕ → ℕ
stored_bits (Ram index) value = value
stored_bits (Propbaser vcpu) value = propbaser_bits value
stored_bits (Pendbaser vcpu) value = pendbaser_bits value
stored_bits ItsCtlr value = bit_of (enabled_in value)
stored_bits Cbaser value = cbaser_bits value
stored_bits Cwriter value = queue_offset value
stored_bits Baser0 value = baser_bits value
stored_bits Baser1 value = baser_bits value
stored_bits Fault value = value

-- the value has no bit that the word does not store
abbrev pub IsHeld : PlainWord → ℕ → Type 0
IsHeld word value = value ≡ stored_bits word value

-- each plain word of a guest holds only bits that it stores, and in a guest without LPIs nothing is stored of an ITS
pub record HoldsOwnBits (state : IdealGuest) : Type 0 where
  pub each : (word : PlainWord) → IsTrue (has_plain state.shape word) → IsHeld word (word_at state word)
  pub none : has_lpis state.shape ≡ false → IsWithoutIts state

-- law: so it is in each state that guests reach from their openings, whatever the steps
abbrev pub StatesHoldOwnBits : Type 0
StatesHoldOwnBits = (guests : List GuestSpec) (steps : List Step) → All HoldsOwnBits (after_steps steps (map opening guests))
