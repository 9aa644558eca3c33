-- The one atomic operation on a word that makes a step.
use Rattle.std.specs.Prelude.{◌≡◌, ℕ, ◌+◌, ◌-◌, ◌*◌, ◌^◌, ◌==◌, Bool, true, false, IsTrue, if◌then◌else◌, bit_and, bit_or}
use Rattle.core_words.specs.Words.{GuestShape, Back, cause_bits_of, active_bits_of}
use Rattle.core_words.specs.Registers.{is_queue_word}
use Rattle.port_core.specs.declared.atomic.Atomic.{Atomic}
use Rattle.port_core.specs.declared.atomic.Atomic.TheVariants.{Load, And, Or, Swap, Exchange}
use Rattle.port_core.specs.declared.local.Local.{Local}
use Rattle.port_core.specs.declared.step.CoreStep.{CoreStep}
use Rattle.port_core.specs.declared.step.CoreStep.TheVariants.{Claim, Touch, CtlrTake, TurnTake, LineEnter}
use Rattle.port_core.specs.Effect.{word_after}
use Rattle.core_words.specs.Forms.{is_ctlr_word}
use Rattle.port_core.specs.Step.{word_of}
use Rattle.port_core.specs.Valid.{IsIrqWord, IsLineWord, CanFind}

-- the word after an operation that found it so
abbrev pub applied : Atomic → ℕ → ℕ
applied Load found = found
applied (And mask) found = bit_and found mask
applied (Or mask) found = bit_or found mask
applied (Swap value) found = value
applied (Exchange seen value) found = if found == seen then value else found

-- the word that a step expects is a valid one of its interrupt, of GICD_CTLR, of the queue or of a line, as each is that a step of the actor found or left
abbrev pub IsSeen : GuestShape → CoreStep → Type 0
IsSeen shape (Claim key seen) = IsIrqWord shape key seen
IsSeen shape (Touch key seen kind) = IsIrqWord shape key seen
IsSeen shape (CtlrTake seen value) = IsTrue (is_ctlr_word seen)
IsSeen shape (TurnTake seen) = IsTrue (is_queue_word seen)
IsSeen shape (LineEnter line seen) = IsLineWord shape seen
IsSeen shape step = Unit {0}

-- the bits that give back what an interface has of an interrupt
abbrev pub back_bits : Back → ℕ → ℕ
back_bits back vcpu = cause_bits_of back.rise back.soft + (if back.active then active_bits_of vcpu else 0)

-- the bits that a release keeps: all but the holder's [25:20], and of an inactive interrupt all but active-by's [19:14] too
abbrev pub release_bits : Bool → ℕ
release_bits active = if active then 2 ^ 64 - 1 - 63 * 2 ^ 20 else 2 ^ 64 - 1 - 4095 * 2 ^ 14

-- a compare-exchange of a word that was seen, or a load where the step would not do what it is for
abbrev pub exchange_by : Bool → ℕ → ℕ → Atomic
exchange_by true seen value = Exchange seen value
exchange_by false seen value = Load

-- an operation makes a step: of whatever the step can find it leaves what the step does
abbrev pub Makes : GuestShape → ℕ → Local → CoreStep → Atomic → Type 0
Makes shape actor local step operation = (found : ℕ) → CanFind shape actor local (word_of shape actor step) found → applied operation found ≡ word_after shape actor local step found
