-- The worked run meets what the laws ask.
use Rattle.law_lines_translate.specs.Histories.{opening_course, CanOpen}
use Rattle.law_lines_translate.specs.GicHistory.State.{opening as opening_ideal}
use Rattle.law_histories.specs.Latches.{StaysEdge}
use Rattle.law_lines_translate.specs.Core.{opening, ideal_of, IsPartedRun, worked_guest, worked_run, spi}
use Rattle.law_core_is_history.specs.Laws.{AreCalls, IsHistoryOf}
use Rattle.law_core_is_history.specs.Whole.{AreEnded}

-- the worked run is one of a good guest whose parts are calls and have all ended, and its interrupt is edge-triggered all along: so no law is one of nothing
pub record WorkedRunIsHistory : Type 0 where
  pub good : CanOpen worked_guest
  pub parted : IsPartedRun worked_guest 0 worked_run
  pub calls : AreCalls worked_guest.shape (opening worked_guest 0) (opening_course worked_guest) worked_run
  pub ended : AreEnded worked_guest.shape worked_run
  pub edge : StaysEdge spi (opening_ideal worked_guest) (ideal_of worked_guest.shape (opening worked_guest 0) worked_run)
  pub history : IsHistoryOf worked_guest 0 worked_run
