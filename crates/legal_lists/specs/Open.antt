-- Worked lists that break off while calls are open, each refused at its last moment.
use Rattle.std.specs.Prelude.{true, false, List, [], ◌∷◌, ◌++◌, Some, None}
use Rattle.law_histories.specs.Words.{Iar1, Spi, Lpi, Message, Msi, Redist, Icc, Mem, SetPending}
use Rattle.law_histories.specs.Calls.{Cpu, Touch, Enable, ItsBegin, Record, Register, MapLpi, Moment, Begin, Happens, Access, Device, GuestSpec, opening_irq}
use Rattle.law_histories.specs.GicCall.declared.event.Event.TheVariants.{Raise, ItsEnd}
use Rattle.law_histories.specs.GicCall.declared.event.Found.TheVariants.{Nothing, Answer, Lpis as FoundLpis}
use Rattle.law_histories.specs.GicCall.declared.event.Moment.TheVariants.{End}
use Rattle.law_histories.specs.Histories.{IdealGuest, after_events, opening_guest, worked_guest, begins_message, ends_message, reads}
use Rattle.legal_lists.specs.Worked.{IsRefusedAfter}

-- a read of IAR1 by vCPU 0 that finds nothing, and is not answered yet
abbrev pub begins_read : List Moment
begins_read = Begin 0 (Access (Icc Iar1 None)) ∷ Happens 0 (Cpu 0 Iar1 None) (Answer (Some 1023)) ∷ []

abbrev pub ends_read : List Moment
ends_read = End 0 (Some 1023) ∷ []

-- one finds nothing while the message is in flight, and another one after that has ended
abbrev pub read_twice : List Moment
read_twice = begins_message ++ begins_read ++ ends_message ++ ends_read ++ reads 0 Iar1 1023

-- a message of SPI 40 raises SPI 41; and one ends before it raised its own
abbrev pub raises_another : List Moment
raises_another = Begin 2 (Device (Message 40)) ∷ Happens 2 (Raise (Spi 41)) Nothing ∷ []

abbrev pub raises_nothing : List Moment
raises_nothing = Begin 2 (Device (Message 40)) ∷ End 2 None ∷ []

-- two vCPUs, a device and three LPIs; 8193 is vCPU 0's, and pending, as nobody changed it in a list from here on
abbrev pub waiting_spec : GuestSpec
waiting_spec = record { shape = record { vcpus = 2; spis = 0; espis = 0; devices = 1; lpis = 3; ram = 0 }; on = true; presets = [] }

abbrev pub waiting_guest : IdealGuest
waiting_guest = after_events (Enable 0 ∷ Touch (Lpi 8193) (MapLpi 0 true 0) ∷ Raise (Lpi 8193) ∷ []) (opening_guest waiting_spec)

-- vCPU 1 is in a write that sets its EnableLPIs, so vCPU 0 may find nothing while that may still come to 8193; and then it passes that by
abbrev pub passes_by : List Moment
passes_by =
    Begin 1 (Access (Mem (Redist 1) 0 4 (Some 1)))
    ∷ Happens 1 (Enable 1) (FoundLpis false)
    ∷ begins_read
    ++ Happens 1 (Touch (Lpi 8194) (Register SetPending 1)) (Record (opening_irq true (Lpi 8194)))
    ∷ []

-- a message-signalled interrupt is open, whichever LPI it is for; and then it gives the ITS back, and was for none
abbrev pub signals_none : List Moment
signals_none = Begin 2 (Device (Msi 0 0)) ∷ Happens 2 ItsBegin Nothing ∷ begins_read ++ Happens 2 ItsEnd Nothing ∷ []

-- what is refused in these
pub record OpenCallsAreRefused : Type 0 where
  pub read_twice : IsRefusedAfter worked_guest read_twice 7
  pub raises_another : IsRefusedAfter worked_guest raises_another 1
  pub raises_nothing : IsRefusedAfter worked_guest raises_nothing 1
  pub passes_by : IsRefusedAfter waiting_guest passes_by 4
  pub signals_none : IsRefusedAfter waiting_guest signals_none 4
