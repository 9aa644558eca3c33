-- The worked run as far as the begin of its first acknowledge: all is at ease before it, and the vCPU is alone and ready after it.
use Rattle.std.specs.Prelude.{List, take, None}
use Rattle.law_late_ones_leave.specs.Words.{Iar1}
use Rattle.law_late_ones_leave.specs.Histories.{CanOpen}
use Rattle.law_late_ones_leave.specs.Core.{CoreMoment, IsProperRun, worked_guest, worked_run}
use Rattle.law_late_ones_leave.specs.Late.{AccessesComeFirst}
use Rattle.law_lone_accesses_find_all.specs.Lone.{AreAtEase, IsAlone, IsReadyFor}

-- a device made SPI 40 pending, and the vCPU entered with it
abbrev pub entered_run : List CoreMoment
entered_run = take 16 worked_run

-- and its read of ICC_IAR1 begins
abbrev pub lone_run : List CoreMoment
lone_run = take 17 worked_run

pub record AVcpuIsAlone : Type 0 where
  pub good : CanOpen worked_guest
  pub proper : IsProperRun worked_guest 0 lone_run
  pub first : AccessesComeFirst worked_guest 0 entered_run
  pub ease : AreAtEase worked_guest 0 entered_run
  pub alone : IsAlone worked_guest 0 lone_run 0
  pub ready : IsReadyFor worked_guest 0 lone_run 0 Iar1 None
