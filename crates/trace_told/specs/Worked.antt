-- Worked traces, of the guest of worked histories.
use Rattle.std.specs.Prelude.{ℕ, List, [], ◌∷◌, ◌++◌, take, Some, None}
use Rattle.trace_read.specs.declared.trace.Act.{Act}
use Rattle.trace_read.specs.declared.trace.Act.TheVariants.{Begin, End, Reach, Raise, Cpu}
use Rattle.trace_read.specs.declared.trace.TraceCall.TheVariants.{Vcpu as VcpuCall, Device as DeviceCall, Enter}
use Rattle.trace_read.specs.declared.trace.TraceEvent.{TraceEvent}
use Rattle.trace_read.specs.ScnRead.ScnBase.Words.{Vcpu, Device}
use Rattle.legal_play.specs.Words.{IccReg, Iar1, Rpr, Spi, Message, Icc}
use Rattle.legal_play.specs.Histories.{worked_guest}
use Rattle.trace_told.specs.declared.verdict.Verdict.TheVariants.{Yes, No}
use Rattle.trace_told.specs.Verdict.{CanBe, IsVerdict}

-- vCPU 0, and the device
abbrev pub v0 : Act → TraceEvent
v0 act = record { by = Vcpu 0 0; act = act }

abbrev pub d0 : Act → TraceEvent
d0 act = record { by = Device 0 0; act = act }

-- a message of SPI 40, and a read of IAR1 that has begun
abbrev pub messages : List TraceEvent
messages = d0 (Begin (DeviceCall (Message 40))) ∷ d0 (Raise (Spi 40)) ∷ d0 (End None) ∷ []

abbrev pub asks : IccReg → List TraceEvent
asks reg = v0 (Begin (VcpuCall (Icc reg None))) ∷ []

abbrev pub finds : IccReg → ℕ → List TraceEvent
finds reg value = v0 (Cpu reg None (Some value)) ∷ []

abbrev pub ends : ℕ → List TraceEvent
ends value = v0 (End (Some value)) ∷ []

-- the message is acknowledged; by another INTID; and with another answer
abbrev pub served : List TraceEvent
served = messages ++ asks Iar1 ++ v0 (Reach (Spi 40)) ∷ finds Iar1 40 ++ ends 40

abbrev pub mistaken : List TraceEvent
mistaken = messages ++ asks Iar1 ++ v0 (Reach (Spi 40)) ∷ finds Iar1 41 ++ ends 41

abbrev pub answered : List TraceEvent
answered = messages ++ asks Iar1 ++ v0 (Reach (Spi 40)) ∷ finds Iar1 40 ++ ends 41

-- it is overlooked; while it is in flight, and after that
abbrev pub overlooked : List TraceEvent
overlooked = messages ++ asks Iar1 ++ finds Iar1 1023

abbrev pub read_twice : List TraceEvent
read_twice = d0 (Begin (DeviceCall (Message 40))) ∷ d0 (Raise (Spi 40)) ∷ asks Iar1 ++ finds Iar1 1023 ++ d0 (End None) ∷ ends 1023 ++ asks Iar1 ++ finds Iar1 1023

-- it raises another SPI, or ends without having raised its own
abbrev pub raises_another : List TraceEvent
raises_another = d0 (Begin (DeviceCall (Message 40))) ∷ d0 (Raise (Spi 41)) ∷ []

abbrev pub raises_nothing : List TraceEvent
raises_nothing = d0 (Begin (DeviceCall (Message 40))) ∷ d0 (End None) ∷ []

-- an interrupt at the interface changed, in a call that ended before an access
abbrev pub outdated : List TraceEvent
outdated = messages ++ v0 (Begin Enter) ∷ v0 (Reach (Spi 40)) ∷ v0 (End None) ∷ messages ++ asks Rpr ++ finds Rpr 0xff

-- an event outside of a call
abbrev pub outside : List TraceEvent
outside = v0 (Reach (Spi 40)) ∷ []

-- the rows of these
pub record WorkedTraces : Type 0 where
  pub empty : IsVerdict worked_guest [] Yes
  pub served : (count : ℕ) → CanBe worked_guest (take count served)
  pub overlooked : IsVerdict worked_guest overlooked (No 5)
  pub read_twice : IsVerdict worked_guest read_twice (No 8)
  pub raises_another : IsVerdict worked_guest raises_another (No 2)
  pub raises_nothing : IsVerdict worked_guest raises_nothing (No 2)
  pub mistaken : IsVerdict worked_guest mistaken (No 6)
  pub answered : IsVerdict worked_guest answered (No 7)
  pub outdated : IsVerdict worked_guest outdated (No 11)
  pub outside : IsVerdict worked_guest outside (No 1)
