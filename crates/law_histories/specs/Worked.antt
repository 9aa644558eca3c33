-- Worked histories of a guest with one vCPU, which meet what the laws ask and say what a reader expects.
use Rattle.std.specs.Prelude.{◌≡◌, ℕ, true, false, List, [], ◌∷◌, ◌++◌, map, Some, None}
use Rattle.std.specs.List.{range_with_len}
use Rattle.floor_histories.specs.Words.{Private, Spi, Dist, Mem, key_at, Iar1}
use Rattle.floor_histories.specs.Registers.{Enables}
use Rattle.floor_histories.specs.Calls.{opening_irq, CtlrBegin, CtlrEnd, Record, Moment, Begin, Happens, Access, copy_at, GuestSpec}
use Rattle.floor_histories.specs.GicCall.declared.event.Found.TheVariants.{Nothing}
use Rattle.floor_histories.specs.GicCall.declared.event.Moment.TheVariants.{End}
use Rattle.floor_histories.specs.Histories.{irq_at, IsHistory, IsWhole, last_of, worked_guest, message, reach, leave, reads, IdealGuest, CanOpen, opening_guest, copy_in}
use Rattle.floor_histories.specs.GicHistory.State.{opening}
use Rattle.law_histories.specs.Latches.{StaysEdge, latch_of, has_cause}

-- A write of GICD_CTLR.

-- a vCPU with its private interrupts and nothing else; both group enables are 1 as it opens
abbrev pub small_spec : GuestSpec
small_spec = record { shape = record { vcpus = 1; spis = 0; espis = 0; devices = 0; lpis = 0; ram = 0 }; on = true; presets = [] }

-- as it opens
abbrev pub small_guest : IdealGuest
small_guest = opening_guest small_spec

-- EnableGrp0 is 0 after the write
abbrev pub new_enables : Enables
new_enables = record { group0 = false; group1 = true }

abbrev pub copied : ℕ → Moment
copied place = Happens 0 (copy_at small_guest.shape new_enables place) (Record (opening_irq true (key_at small_guest.shape place)))

-- its first moments, in which the interrupts 0 to 9 get a copy, and the others
abbrev pub half_written : List Moment
half_written = Begin 0 (Access (Mem Dist 0 4 (Some 2))) ∷ Happens 0 (CtlrBegin new_enables) Nothing ∷ map copied (range_with_len 0 10)

abbrev pub other_half : List Moment
other_half = map copied (range_with_len 10 22) ++ Happens 0 CtlrEnd Nothing ∷ End 0 None ∷ []

-- the write is a whole history; in the middle of it SGI 3 has a copy of the new enables, and interrupt 20 one of the old ones
pub record WriteIsHalfDone : Type 0 where
  pub good : CanOpen small_guest
  pub history : IsHistory small_guest (half_written ++ other_half)
  pub whole : IsWhole small_guest (half_written ++ other_half)
  pub taken : (last_of small_guest half_written).spreads ≡ Some 0
  pub passed : copy_in (irq_at (last_of small_guest half_written).guest (Private 0 3)) ≡ new_enables
  pub ahead : copy_in (irq_at (last_of small_guest half_written).guest (Private 0 20)) ≡ record { group0 = true; group1 = true }

-- Two messages for an SPI of the guest with two vCPUs: the second while vCPU 0 is offered the SPI for the first.

-- vCPU 0 leaves, is offered it again, and reads IAR
abbrev pub merged : List Moment
merged = message 40 ++ reach 0 40 ++ message 40 ++ leave 0 40 ++ reach 0 40 ++ reads 0 Iar1 40

-- it reads IAR first
abbrev pub apart : List Moment
apart = message 40 ++ reach 0 40 ++ message 40 ++ reads 0 Iar1 40

-- then both have become one interrupt; or one cause is left
pub record MessagesMerge : Type 0 where
  pub merged_history : IsHistory worked_guest merged
  pub merged_edge : StaysEdge (Spi 40) (opening worked_guest) merged
  pub merged_latch : latch_of worked_guest (Spi 40) merged ≡ record { now = 6; cause = 3; offer = 5; spent = 5 }
  pub none : has_cause (last_of worked_guest merged) (Spi 40) ≡ false
  pub apart_history : IsHistory worked_guest apart
  pub apart_edge : StaysEdge (Spi 40) (opening worked_guest) apart
  pub apart_latch : latch_of worked_guest (Spi 40) apart ≡ record { now = 4; cause = 3; offer = 2; spent = 2 }
  pub one : has_cause (last_of worked_guest apart) (Spi 40) ≡ true
