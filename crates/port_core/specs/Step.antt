-- What a step names: its word, and what of the guest has to be there.
use Rattle.std.specs.Prelude.{◌≡◌, ℕ, ◌/◌, ◌^◌, ◌<◌, ◌&&◌, not, Bool, false, IsTrue, List, nat_lt, Option, Some, None, is_none, length}
use Rattle.core_words.specs.Words.{GuestShape, IccReg, Lpi, has_interrupt, is_of_vcpu}
use Rattle.core_words.specs.Calls.{plain_count, CanTouch, IsOffset, has_wire, is_usable}
use Rattle.core_words.specs.declared.word_id.WordId.{WordId}
use Rattle.core_words.specs.declared.word_id.WordId.TheVariants.{Irq, Vcpu, Index, Queue, Ctlr, Plain, Line}
use Rattle.port_core.specs.declared.step.CoreStep.{CoreStep}
use Rattle.port_core.specs.declared.step.CoreStep.TheVariants.{Look, Raise, Claim, GiveBack, Release, Poll, Kick, Touch, Want, WireUp, WireDown, EnableLpis, RamLook, RamPut, CtlrTake, CtlrEnd, TurnTake, CommandDone, TurnRelease, Mark, TakeIndex, LineEnter, LineLeave, LineFill, LineClose}
use Rattle.core_words.specs.Place.{has_word, index_bit, index_words}
use Rattle.port_core.specs.Local.{is_vcpu}

-- the word that a step of an actor is on
abbrev pub word_of : GuestShape → ℕ → CoreStep → WordId
word_of shape actor (Look word) = word
word_of shape actor (Raise key) = Irq key
word_of shape actor (Claim key seen) = Irq key
word_of shape actor (GiveBack key back) = Irq key
word_of shape actor (Release key) = Irq key
word_of shape actor (Poll reg write) = Vcpu actor
word_of shape actor (Kick vcpu) = Vcpu vcpu
word_of shape actor (Touch key seen kind) = Irq key
word_of shape actor (Want key) = Irq key
word_of shape actor (WireUp key) = Irq key
word_of shape actor (WireDown key) = Irq key
word_of shape actor (EnableLpis vcpu) = Vcpu vcpu
word_of shape actor (RamLook index) = Plain index
word_of shape actor (RamPut index seen value) = Plain index
word_of shape actor (CtlrTake seen value) = Ctlr
word_of shape actor CtlrEnd = Ctlr
word_of shape actor (TurnTake seen) = Queue
word_of shape actor (CommandDone offset stalled ending) = Queue
word_of shape actor TurnRelease = Queue
word_of shape actor (Mark key vcpu) = Index vcpu (index_bit shape key / 64)
word_of shape actor (TakeIndex word) = Index actor word
word_of shape actor (LineEnter line seen) = Line line
word_of shape actor (LineLeave line) = Line line
word_of shape actor (LineFill line device event lpi) = Line line
word_of shape actor (LineClose line) = Line line

-- a vCPU's access of a register of its CPU interface, or a look without one
abbrev pub is_poll : Option IccReg → Option ℕ → Bool
is_poll None write = is_none write
is_poll (Some reg) write = is_usable reg write

-- what a command's end says: the command's doublewords, where it was a good one, or that it stalls the queue, and not both
abbrev pub IsEnd : Bool → Option (List ℕ) → Type 0
IsEnd stalled None = Unit {0}
IsEnd stalled (Some words) = (length words ≡ 4) × (stalled ≡ false)

-- a line is filled with a message whose DeviceID and EventID fit it, and with an LPI of the guest
pub record CanFill (shape : GuestShape) (line device event lpi : ℕ) : Type 0 where
  pub there : IsTrue (has_word shape (Line line))
  pub device_fits : device < 65536
  pub event_fits : event < 65536
  pub lpi_there : IsTrue (has_interrupt shape (Lpi lpi))

-- what a step names is there, and its values are in range
abbrev pub CanStep : GuestShape → ℕ → CoreStep → Type 0
CanStep shape actor (Look word) = IsTrue (has_word shape word)
CanStep shape actor (Raise key) = IsTrue (has_interrupt shape key)
CanStep shape actor (Claim key seen) = IsTrue (is_vcpu shape actor && is_of_vcpu actor key && has_interrupt shape key)
CanStep shape actor (GiveBack key back) = IsTrue (is_vcpu shape actor && has_interrupt shape key)
CanStep shape actor (Release key) = IsTrue (is_vcpu shape actor && has_interrupt shape key)
CanStep shape actor (Poll reg write) = IsTrue (is_vcpu shape actor && is_poll reg write)
CanStep shape actor (Kick vcpu) = vcpu < shape.vcpus
CanStep shape actor (Touch key seen kind) = CanTouch shape key kind
CanStep shape actor (Want key) = IsTrue (has_interrupt shape key)
CanStep shape actor (WireUp key) = IsTrue (has_wire key && has_interrupt shape key)
CanStep shape actor (WireDown key) = IsTrue (has_wire key && has_interrupt shape key)
CanStep shape actor (EnableLpis vcpu) = vcpu < shape.vcpus
CanStep shape actor (RamLook index) = index < plain_count shape
CanStep shape actor (RamPut index seen value) = (index < plain_count shape) × (value < 2 ^ 64)
CanStep shape actor (CtlrTake seen value) = value < 4
CanStep shape actor CtlrEnd = Unit {0}
CanStep shape actor (TurnTake seen) = Unit {0}
CanStep shape actor (CommandDone offset stalled ending) = IsOffset offset × IsEnd stalled ending
CanStep shape actor TurnRelease = Unit {0}
CanStep shape actor (Mark key vcpu) = IsTrue (nat_lt vcpu shape.vcpus && is_of_vcpu vcpu key && has_interrupt shape key)
CanStep shape actor (TakeIndex word) = IsTrue (is_vcpu shape actor && nat_lt word (index_words shape))
CanStep shape actor (LineEnter line seen) = IsTrue (not (is_vcpu shape actor) && has_word shape (Line line))
CanStep shape actor (LineLeave line) = IsTrue (not (is_vcpu shape actor) && has_word shape (Line line))
CanStep shape actor (LineFill line device event lpi) = CanFill shape line device event lpi
CanStep shape actor (LineClose line) = IsTrue (has_word shape (Line line))
