-- The worked run and its beginning meet what the law asks.
use Rattle.std.proofs.Common.{zero, suc, drop, arith, refl}
use Rattle.port_ops.specs.Registers.{least_in, with_level, without_level}
use Rattle.law_core_is_history.specs.Histories.{opening_course}
use Rattle.law_core_is_history.specs.Lists.{in_places}
use Rattle.law_core_is_history.specs.Core.{opening, IsPartedRun, worked_guest, worked_run}
use Rattle.law_core_is_history.specs.Laws.{AreCalls}
use Rattle.law_core_is_history.proofs.PrefixLemmas.{parted_before, calls_before}
use Rattle.law_core_is_history.proofs.WorkedSteps.{worked_history_is}
use Rattle.law_ends_agree.specs.End.{AreEmpty, state_after}
use Rattle.law_ends_agree.specs.Worked.{begun_run, spi_pending, as_opened, EndsWith, WorkedRunsEnd}
use Rattle.law_ends_agree.proofs.EndRuns.{runs_end}

begun_parted : IsPartedRun worked_guest 0 begun_run
begun_parted = parted_before worked_guest 0 begun_run (drop 9 worked_run) worked_history_is.parted

begun_calls : AreCalls worked_guest.shape (opening worked_guest 0) (opening_course worked_guest) begun_run
begun_calls = calls_before worked_guest.shape (opening worked_guest 0) (opening_course worked_guest) begun_run (drop 9 worked_run) worked_history_is.calls

begun_empty : AreEmpty worked_guest.shape (state_after worked_guest 0 begun_run)
unfolding least_in with_level without_level in_places
begun_empty zero there = refl
begun_empty (suc vcpu) there = absurd (omega (arith, there))

worked_empty : AreEmpty worked_guest.shape (state_after worked_guest 0 worked_run)
unfolding least_in with_level without_level in_places
worked_empty zero there = refl
worked_empty (suc vcpu) there = absurd (omega (arith, there))

begun_ends : EndsWith begun_run spi_pending
unfolding least_in with_level without_level in_places
begun_ends = record { good = worked_history_is.good; parted = begun_parted; calls = begun_calls; empty = begun_empty; ends = runs_end worked_guest 0 begun_run worked_history_is.good begun_parted begun_calls begun_empty; lines = refl }

worked_ends : EndsWith worked_run as_opened
unfolding least_in with_level without_level in_places
worked_ends =
    record {
      good = worked_history_is.good;
      parted = worked_history_is.parted;
      calls = worked_history_is.calls;
      empty = worked_empty;
      ends = runs_end worked_guest 0 worked_run worked_history_is.good worked_history_is.parted worked_history_is.calls worked_empty;
      lines = refl;
    }

pub worked_end : WorkedRunsEnd
worked_end = record { pending = begun_ends; served = worked_ends }
