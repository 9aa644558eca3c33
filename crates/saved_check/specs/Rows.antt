-- By what the records and the words of a saved state are in order, and what is right of it but for its records' copies and its maps.
use Rattle.std.specs.Prelude.{◌≡◌, ℕ, ◌<◌, ◌≤◌, [], length, map, All, IfSome, None, is_some}
use Rattle.std.specs.Ordering.{nat_cmp}
use Rattle.std.specs.List.Sorted.{IsStrictlySortedBy}
use Rattle.saved_guest.specs.IdealGuests.Words.{GuestShape, place_of}
use Rattle.saved_guest.specs.IdealGuests.Registers.{has_lpis}
use Rattle.saved_guest.specs.IdealGuests.Calls.{EvtEnd, ColEnd}
use Rattle.saved_guest.specs.ScnSaved.declared.state.GuestState.{GuestState}
use Rattle.saved_guest.specs.ScnSaved.declared.state.RecState.{RecState}
use Rattle.saved_guest.specs.ScnSaved.declared.state.RamState.{RamState}
use Rattle.saved_guest.specs.Valid.{IsValidCpu, IsValidRec, IsValidRedist, IsValidIts, IsValidWord}

abbrev pub rec_place : GuestShape → RecState → ℕ
rec_place shape rec = place_of shape rec.key

abbrev pub ram_index : RamState → ℕ
ram_index ram = ram.index

-- the registers
pub record HasValidRegisters (shape : GuestShape) (state : GuestState) : Type 0 where
  pub gicd : state.gicd ≤ 3
  pub cpus : length state.cpu ≡ shape.vcpus
  pub each_cpu : All (IsValidCpu shape) state.cpu
  pub redists : length state.redist ≡ shape.vcpus
  pub each_redist : All IsValidRedist state.redist

-- the ITS, and what is mapped without one
pub record HasValidIts (shape : GuestShape) (state : GuestState) : Type 0 where
  pub its : is_some state.its ≡ has_lpis shape
  pub its_valid : IfSome state.its IsValidIts
  pub no_dev : state.its ≡ None → state.dev ≡ []
  pub no_col : state.its ≡ None → state.col ≡ []
  pub event_collections : All (λ (evt : EvtEnd). evt.icid < 65536) state.evt
  pub collections : All (λ (col : ColEnd). col.icid < 65536) state.col

-- the interrupts and the memory
pub record HasValidRows (shape : GuestShape) (state : GuestState) : Type 0 where
  pub rec_order : IsStrictlySortedBy nat_cmp (map (rec_place shape) state.rec)
  pub each_rec : All (IsValidRec shape) state.rec
  pub ram_order : IsStrictlySortedBy nat_cmp (map ram_index state.ram)
  pub each_word : All (IsValidWord shape) state.ram
