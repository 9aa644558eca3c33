-- A worked run: a wire stays up while its level-triggered SPI is acknowledged and ended, and the SPI leaves before the call of its end is over.
use Rattle.std.specs.Prelude.{ℕ, ◌≡◌, ◌^◌, false, List, [], ◌∷◌, ◌++◌, Some, None}
use Rattle.law_scans_miss_none.specs.Words.{Eoir1, Iar1, Message}
use Rattle.law_scans_miss_none.specs.Calls.{Device, Residence}
use Rattle.law_scans_miss_none.specs.Histories.{is_kept, of_end, CanOpen}
use Rattle.law_scans_miss_none.specs.Core.{Claim, GiveBack, Kick, Look, Mark, Poll, Raise, Release, TakeIndex, Irq, opening, ideal_of, begins, ends, CoreMoment, IsProperRun, worked_guest, spi, opened_word, pending_word, held_word, vcpu_does, device_does, made, reads_iar, writes_eoir}
use Rattle.law_scans_miss_none.specs.LawRegistersStand.Worked.{level_guest, level_run, held_high_word}
use Rattle.law_scans_miss_none.specs.Excuse.{followed_in}
use Rattle.law_late_ones_leave.specs.Late.{AccessesComeFirst}

-- its word once it is released: the wire is up still
abbrev pub free_high_word : ℕ
free_high_word = 0x40028f2

-- the vCPU ends the SPI, which is active at its interface and pending in its record
abbrev pub ended_run : List CoreMoment
ended_run = level_run ++ vcpu_does (begins writes_eoir 4) ∷ vcpu_does (made (Poll (Some Eoir1) (Some 40)) 0 0) ∷ []

-- and gives it back in the same call
abbrev pub left_run : List CoreMoment
left_run =
    ended_run
    ++ vcpu_does (made (GiveBack spi (record { rise = false; soft = false; active = false })) held_high_word held_high_word)
    ∷ vcpu_does (made (Release spi) held_high_word free_high_word)
    ∷ vcpu_does (made (Mark spi 0) 0 (2 ^ 40))
    ∷ vcpu_does (ends None)
    ∷ []

-- the run meets what the laws ask, and the SPI is to leave after its end, and has left
pub record LateRunLeaves : Type 0 where
  pub good : CanOpen level_guest
  pub proper : IsProperRun level_guest 0 left_run
  pub first : AccessesComeFirst level_guest 0 left_run
  pub late : (followed_in level_guest 0 ended_run).track.leaving ≡ (0, spi) ∷ []
  pub left : (followed_in level_guest 0 left_run).track.leaving ≡ []

-- a run in which the access does not come first: a vCPU makes an SPI pending that is active at its interface, and ends it before it kicks itself
abbrev pub raised_word : ℕ
raised_word = 0x41028f9

abbrev pub raised_run : List CoreMoment
raised_run =
    device_does (begins (Device (Message 40)) 0)
    ∷ device_does (made (Raise spi) opened_word pending_word)
    ∷ device_does (made (Mark spi 0) 0 (2 ^ 40))
    ∷ device_does (made (Kick 0) 0 2)
    ∷ device_does (ends None)
    ∷ vcpu_does (begins Residence 4)
    ∷ vcpu_does (made (Poll None None) 2 0)
    ∷ vcpu_does (made (TakeIndex 0) (2 ^ 40) 0)
    ∷ vcpu_does (made (Look (Irq spi)) pending_word pending_word)
    ∷ vcpu_does (made (Claim spi pending_word) pending_word held_word)
    ∷ vcpu_does (ends None)
    ∷ vcpu_does (begins reads_iar 4)
    ∷ vcpu_does (made (Poll (Some Iar1) None) 0 0)
    ∷ vcpu_does (ends (Some 40))
    ∷ vcpu_does (begins writes_eoir 4)
    ∷ vcpu_does (made (Raise spi) held_word raised_word)
    ∷ vcpu_does (made (Poll (Some Eoir1) (Some 40)) 0 0)
    ∷ vcpu_does (made (Mark spi 0) 0 (2 ^ 40))
    ∷ vcpu_does (made (Kick 0) 0 2)
    ∷ vcpu_does (ends None)
    ∷ []

-- it is proper, and the call ends while the SPI is still to leave
pub record RaisedRunStays : Type 0 where
  pub good : CanOpen worked_guest
  pub proper : IsProperRun worked_guest 0 raised_run
  pub late : is_kept of_end worked_guest (ideal_of worked_guest.shape (opening worked_guest 0) raised_run) ≡ false
