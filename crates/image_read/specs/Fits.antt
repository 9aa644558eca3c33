-- Numbers that fit the fields that keep them, of rows of which no range is said elsewhere (own choice).
use Rattle.std.specs.Prelude.{◌<◌, ◌^◌, ⊤, Bool, true, false, IfSome, Option}
use Rattle.saved_check.specs.SavedGuest.IdealGuests.Words.{GuestShape, IsShape, Key, Private, Spi, Lpi}
use Rattle.saved_check.specs.SavedGuest.IdealGuests.Calls.{DevEnd, EvtEnd, ColEnd}
use Rattle.saved_check.specs.SavedGuest.ScnSaved.ScnBase.declared.pes.VcpuName.{VcpuName}
use Rattle.saved_check.specs.SavedGuest.ScnSaved.declared.state.RedistState.{RedistState}
use Rattle.saved_check.specs.SavedGuest.ScnSaved.declared.state.ItsState.{ItsState}
use Rattle.saved_check.specs.SavedGuest.Valid.{IsValidIts}
use Rattle.serde_json.specs.Data.{Data}
use Rattle.gic_resume.specs.GicSave.Image.{data_or_null, its_data}

abbrev pub IsShortName : VcpuName → Type 0
IsShortName name = (name.guest < 2 ^ 32) × (name.vcpu < 2 ^ 32)

abbrev pub IsShortResident : GuestShape → Option VcpuName → Type 0
IsShortResident shape resident = IfSome resident IsShortName

abbrev pub IsShortDev : GuestShape → DevEnd → Type 0
IsShortDev shape dev = (dev.device < 2 ^ 32) × (dev.bits < 2 ^ 32)

abbrev pub IsShortEvt : GuestShape → EvtEnd → Type 0
IsShortEvt shape evt = (evt.device < 2 ^ 32) × (evt.event < 2 ^ 32) × (evt.id < 2 ^ 32) × (evt.icid < 2 ^ 16)

abbrev pub IsShortCol : GuestShape → ColEnd → Type 0
IsShortCol shape col = (col.icid < 2 ^ 16) × (col.vcpu < 2 ^ 32)

-- a redistributor's registers have 64 bits, as each number of an image
abbrev pub IsAnyRedist : GuestShape → RedistState → Type 0
IsAnyRedist shape redist = ⊤

-- how an ITS is written, where there is one
abbrev pub its_or_null : Option ItsState → Data
its_or_null its = data_or_null its_data its

abbrev pub IsValidItsOrNone : GuestShape → Option ItsState → Type 0
IsValidItsOrNone shape its = IfSome its IsValidIts

abbrev pub IsOwnShape : GuestShape → GuestShape → Type 0
IsOwnShape shape own = IsShape own

-- the interrupt is no vCPU's own
abbrev pub is_shared : Key → Bool
is_shared (Private vcpu id) = false
is_shared (Spi id) = true
is_shared (Lpi id) = true
