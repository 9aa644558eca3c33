-- A worked history that is up to date.
use Rattle.std.specs.Prelude.{◌++◌, None}
use Rattle.law_home_commutes.specs.Words.{Iar1}
use Rattle.law_home_commutes.specs.Histories.{IsHistory, worked_guest, message, reach}
use Rattle.law_accesses_show_home.specs.UpToDate.{IsUpToDate, FindsAll}
use Rattle.law_scans_miss_none.specs.LawRegistersStand.Followed.{followed_by}

-- an interrupt that a message made pending got to the interface of vCPU 0, which reads IAR
pub record AVcpuFindsAll : Type 0 where
  pub history : IsHistory worked_guest (message 40 ++ reach 0 40)
  pub up_to_date : IsUpToDate worked_guest.shape (followed_by worked_guest (message 40 ++ reach 0 40))
  pub all : FindsAll worked_guest.shape (followed_by worked_guest (message 40 ++ reach 0 40)).ideal 0 Iar1 None
