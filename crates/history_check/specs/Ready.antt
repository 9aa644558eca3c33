-- What holds of each state that a history reaches: its shape is one that a guest can have; there is a valid record for each interrupt, one for each vCPU, a value
-- for each plain word, and a list of what stands at each vCPU's interface, of interrupts that the guest has, as they can stand there.
use Rattle.std.specs.Prelude.{◌≡◌, ◌&&◌, ◌||◌, not, Bool, true, false, IsTrue, All, length}
use Rattle.std.specs.List.{list_all}
use Rattle.floor_histories.specs.Words.{Key, GuestShape, has_interrupt, interrupt_count, IsShape, has_active_state, IsRecordOf}
use Rattle.floor_histories.specs.Registers.{HasBinaryPoints}
use Rattle.floor_histories.specs.Calls.{plain_count, Event, CtlrBegin, CtlrEnd, ItsBegin}
use Rattle.floor_histories.specs.GicCall.declared.event.Event.TheVariants.{ItsEnd}
use Rattle.floor_histories.specs.Histories.{irq_at, Ideal, Standing}

-- an interrupt as it can stand at an interface: the guest has it, an LPI is never active, and what is not pending there has no causes there
abbrev pub fits : GuestShape → Standing → Bool
fits shape standing =
    has_interrupt shape standing.key
    && (not standing.entry.active || has_active_state standing.key)
    && (standing.entry.pending || not (standing.entry.rise || standing.entry.soft))

pub record IsReady (state : Ideal) : Type 0 where
  pub shape : IsShape state.guest.shape
  pub irqs : length state.guest.irqs ≡ interrupt_count state.guest.shape
  pub cpus : length state.guest.cpus ≡ state.guest.shape.vcpus
  pub words : length state.guest.words ≡ plain_count state.guest.shape
  pub points : All HasBinaryPoints state.guest.cpus
  pub records : (key : Key) → IsTrue (has_interrupt state.guest.shape key) → IsRecordOf state.guest.shape key (irq_at state.guest key)
  pub at : length state.at ≡ state.guest.shape.vcpus
  pub standing : IsTrue (list_all (list_all (fits state.guest.shape)) state.at)

-- an event of a mark
abbrev pub is_mark : Event → Bool
is_mark (CtlrBegin enables) = true
is_mark CtlrEnd = true
is_mark ItsBegin = true
is_mark ItsEnd = true
is_mark event = false
