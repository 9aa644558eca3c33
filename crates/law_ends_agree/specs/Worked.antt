-- Ends of the worked run and of its beginning.
use Rattle.std.specs.Prelude.{◌≡◌, List, [], ◌∷◌, take, true, false, Some, None}
use Rattle.law_core_is_history.specs.Histories.{opening_course, CanOpen}
use Rattle.guest_end.specs.GicIdeal.Ends.{end_of}
use Rattle.port_ops.specs.GicGuest.declared.outcome.End.{End}
use Rattle.law_core_is_history.specs.Core.{opening, CoreMoment, IsPartedRun, worked_guest, worked_run, spi}
use Rattle.law_core_is_history.specs.Laws.{AreCalls}
use Rattle.law_ends_agree.specs.End.{AreEmpty, state_after, told_in, EndsAtHome}

-- a run of the worked guest meets what the law asks, and ends with these lines
pub record EndsWith (moments : List CoreMoment) (told : End) : Type 0 where
  pub good : CanOpen worked_guest
  pub parted : IsPartedRun worked_guest 0 moments
  pub calls : AreCalls worked_guest.shape (opening worked_guest 0) (opening_course worked_guest) moments
  pub empty : AreEmpty worked_guest.shape (state_after worked_guest 0 moments)
  pub ends : EndsAtHome worked_guest 0 moments
  pub lines : end_of worked_guest (told_in worked_guest (state_after worked_guest 0 moments)) ≡ told

-- a guest that ends as it opened
abbrev pub as_opened : End
as_opened = record { gicd = None; cpus = []; irqs = []; its = None; devs = []; evts = []; cols = [] }

-- SPI 40 is pending
abbrev pub spi_pending : End
spi_pending =
    record as_opened {
      irqs = (record { key = spi; enabled = true; group = 1; prio = 0xa0; edge = true; line = false; rise = false; soft = true; act_by = None; to = Some 0 }) ∷ [];
    }

-- the beginning of the worked run: the vCPU is on a PE with nothing at its interface, and a device's message came
abbrev pub begun_run : List CoreMoment
begun_run = take 9 worked_run

-- the beginning ends with the SPI pending; and the whole, where the SPI was acknowledged and ended and the vCPU has left its PE, as it opened
pub record WorkedRunsEnd : Type 0 where
  pub pending : EndsWith begun_run spi_pending
  pub served : EndsWith worked_run as_opened
