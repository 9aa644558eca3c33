-- A vCPU that enters with an SPI that a device made pending: what the law asks of it holds, and what its registers are.
use Rattle.std.specs.Prelude.{◌≡◌, ◌^◌, List, [], ◌∷◌, ◌++◌, take, None}
use Rattle.law_serial_is_eager.specs.Calls.{Residence}
use Rattle.law_serial_is_eager.specs.Histories.{last_of, opening_course, home, CanOpen}
use Rattle.law_serial_is_eager.specs.GicIdeal.Shown.{registers_of}
use Rattle.law_serial_is_eager.specs.Core.{Claim, Look, Poll, TakeIndex, Irq, Vcpu, opening, end_of_moments, ideal_of, CoreMoment, progress_in, IsProperRun, worked_guest, worked_run, spi, pending_word, held_word}
use Rattle.law_serial_is_eager.specs.LawCoreIsHistory.Laws.{AreCalls}
use Rattle.law_serial_is_eager.specs.LawLateOnesLeave.Late.{AccessesComeFirst}
use Rattle.law_serial_is_eager.specs.LawLoneAccessesFindAll.Lone.{AreAtEase}
use Rattle.law_serial_is_eager.specs.LawLoneAccessesFindAll.Worked.{entered_run}
use Rattle.law_serial_is_eager.specs.Serial.{WholePart, moments_in}
use Rattle.law_serial_is_eager.specs.Worked.{by_vcpu, step}
use Rattle.law_entries_are_plans.specs.Entry.{HasEntered, IsEntry, ShowsRegisters}

-- the vCPU entered with nothing, and a device made SPI 40 pending
abbrev pub raised_run : List CoreMoment
raised_run = take 9 worked_run

-- it looks at its kick and enters again, with the SPI
abbrev pub entering_part : WholePart
entering_part =
    by_vcpu Residence
    (step (Look (Vcpu 0)) 2 2 ∷ step (Poll None None) 2 0 ∷ step (TakeIndex 0) (2 ^ 40) 0 ∷ step (Look (Irq spi)) pending_word pending_word ∷ step (Claim spi pending_word) pending_word held_word ∷ [])
    None

abbrev pub entry_run : List CoreMoment
entry_run = raised_run ++ moments_in entering_part

pub record WorkedEntryShowsHome : Type 0 where
  pub good : CanOpen worked_guest
  pub same : entry_run ≡ entered_run
  pub proper : IsProperRun worked_guest 0 entry_run
  pub calls : AreCalls worked_guest.shape (opening worked_guest 0) (opening_course worked_guest) entry_run
  pub first : AccessesComeFirst worked_guest 0 raised_run
  pub ease : AreAtEase worked_guest 0 raised_run
  pub entry : IsEntry entering_part
  pub entered : HasEntered worked_guest.shape (end_of_moments worked_guest.shape (opening worked_guest 0) entry_run) 0 (progress_in worked_guest 0 entry_run 0)
  pub shows : ShowsRegisters (home (last_of worked_guest (ideal_of worked_guest.shape (opening worked_guest 0) entry_run))) 0 4 (progress_in worked_guest 0 entry_run 0).regs
  -- ICH_HCR with En and a maintenance interrupt of a change of each group's enable; and SPI 40, pending, of group 1 and priority 0xA0, in list register 0
  pub registers : registers_of 4 (home (last_of worked_guest (ideal_of worked_guest.shape (opening worked_guest 0) entry_run))) 0 ≡ 0x91 ∷ 0x50a0000000000028 ∷ 0 ∷ 0 ∷ 0 ∷ []
