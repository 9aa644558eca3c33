-- A worked run: vCPU 1 waits for an SPI at vCPU 0's interface; vCPU 0 gives it back, enters again, and acknowledges nothing while the SPI, which is pending and was changed last
-- by itself, is still to be cleared. And the read of the worked run in which nobody else is in a part.
use Rattle.std.specs.Prelude.{◌≡◌, ◌^◌, true, false, List, [], ◌∷◌, ◌++◌, take, drop, Some, None}
use Rattle.law_serial_is_eager.specs.Words.{Iar1, Message, Dist, Mem}
use Rattle.law_serial_is_eager.specs.Calls.{Reach, Leave, Cpu, Touch as TouchEvent, Record, Moment, Begin, Happens, Operation, Access, Device, Residence}
use Rattle.law_serial_is_eager.specs.GicCall.declared.event.Event.TheVariants.{Raise as RaiseEvent}
use Rattle.law_serial_is_eager.specs.GicCall.declared.event.Found.TheVariants.{Nothing, Answer}
use Rattle.law_serial_is_eager.specs.GicCall.declared.event.Moment.TheVariants.{End}
use Rattle.law_serial_is_eager.specs.Histories.{IsFresh, comes_first, is_awaited, is_last_open, opening_course, CanOpen}
use Rattle.law_serial_is_eager.specs.Core.{Made, Look, Raise, Claim, GiveBack, Release, Poll, Kick, Touch, Want, Mark, TakeIndex, Irq, opening, ideal_of, begins, makes, ends, CoreMoment, IsProperRun, worked_guest, worked_run, spi, opened_word, pending_word, held_word, vcpu_does, made, reads_iar, clear_guest, clears, found_pending, wanted_word, given_wanted_word, free_wanted_word, other_does, third_does}
use Rattle.law_serial_is_eager.specs.LawCoreIsHistory.Laws.{AreCalls}
use Rattle.law_serial_is_eager.specs.LawCoreIsHistory.Whole.{AreEnded}
use Rattle.law_serial_is_eager.specs.LawScansMissNone.Excuse.{followed_in}
use Rattle.law_runs_are_fresh.specs.First.{AsksAlone}

-- CLRSPI_NSR is written
abbrev pub clears_spi : Operation
clears_spi = Access (Mem Dist 0x48 4 (Some 40))

-- as far as the begin of vCPU 0's read
abbrev pub early_awaiting : List CoreMoment
early_awaiting =
    third_does (begins (Device (Message 40)) 0)
    ∷ third_does (made (Raise spi) opened_word pending_word)
    ∷ third_does (made (Mark spi 0) 0 (2 ^ 40))
    ∷ third_does (made (Kick 0) 0 2)
    ∷ third_does (ends None)
    ∷ vcpu_does (begins Residence 4)
    ∷ vcpu_does (made (Poll None None) 2 0)
    ∷ vcpu_does (made (TakeIndex 0) (2 ^ 40) 0)
    ∷ vcpu_does (made (Look (Irq spi)) pending_word pending_word)
    ∷ vcpu_does (made (Claim spi pending_word) pending_word held_word)
    ∷ vcpu_does (ends None)
    -- vCPU 1 finds the SPI held, asks for it and kicks its holder
    ∷ other_does (begins clears_spi 4)
    ∷ other_does (made (Look (Irq spi)) held_word held_word)
    ∷ other_does (made (Want spi) held_word wanted_word)
    ∷ other_does (made (Kick 0) 0 2)
    -- vCPU 0 leaves and gives it back
    ∷ vcpu_does (begins Residence 4)
    ∷ vcpu_does (made (GiveBack spi (record { rise = false; soft = true; active = false })) wanted_word given_wanted_word)
    ∷ vcpu_does (made (Release spi) given_wanted_word free_wanted_word)
    ∷ vcpu_does (made (Mark spi 0) 0 (2 ^ 40))
    ∷ vcpu_does (ends None)
    -- it enters again, finds the SPI wanted, and marks it for its next scan
    ∷ vcpu_does (begins Residence 4)
    ∷ vcpu_does (made (Poll None None) 2 0)
    ∷ vcpu_does (made (TakeIndex 0) (2 ^ 40) 0)
    ∷ vcpu_does (made (Look (Irq spi)) free_wanted_word free_wanted_word)
    ∷ vcpu_does (made (Mark spi 0) 0 (2 ^ 40))
    ∷ vcpu_does (ends None)
    ∷ vcpu_does (begins reads_iar 4)
    ∷ []

-- it reads no INTID, and then vCPU 1 finds the SPI free and clears it
abbrev pub late_awaiting : List CoreMoment
late_awaiting =
    vcpu_does (ends (Some 1023))
    ∷ other_does (made (Look (Irq spi)) free_wanted_word free_wanted_word)
    ∷ other_does (made (Touch spi free_wanted_word clears) free_wanted_word opened_word)
    ∷ other_does (made (Mark spi 0) (2 ^ 40) (2 ^ 40))
    ∷ other_does (made (Kick 0) 0 2)
    ∷ other_does (ends None)
    ∷ []

abbrev pub awaiting_run : List CoreMoment
awaiting_run = early_awaiting ++ vcpu_does (made (Poll (Some Iar1) None) 0 0) ∷ late_awaiting

-- what it stands for
abbrev pub early_history : List Moment
early_history =
    Begin 2 (Device (Message 40))
    ∷ Happens 2 (RaiseEvent spi) Nothing
    ∷ End 2 None
    ∷ Begin 0 Residence
    ∷ Happens 0 (Reach spi 0) Nothing
    ∷ End 0 None
    ∷ Begin 1 clears_spi
    ∷ Begin 0 Residence
    ∷ Happens 0 (Leave spi 0) Nothing
    ∷ End 0 None
    ∷ Begin 0 Residence
    ∷ End 0 None
    ∷ Begin 0 reads_iar
    ∷ []

abbrev pub late_history : List Moment
late_history = End 0 (Some 1023) ∷ Happens 1 (TouchEvent spi clears) (Record found_pending) ∷ End 1 None ∷ []

abbrev pub awaiting_history : List Moment
awaiting_history = early_history ++ Happens 0 (Cpu 0 Iar1 None) (Answer (Some 1023)) ∷ late_history

-- it meets what the law asks, and as vCPU 0 reads, the SPI comes first, was not changed last in a call that is open, and is awaited
pub record ATouchIsAwaited : Type 0 where
  pub good : CanOpen clear_guest
  pub proper : IsProperRun clear_guest 0 awaiting_run
  pub calls : AreCalls clear_guest.shape (opening clear_guest 0) (opening_course clear_guest) awaiting_run
  pub ended : AreEnded clear_guest.shape awaiting_run
  pub history : ideal_of clear_guest.shape (opening clear_guest 0) awaiting_run ≡ awaiting_history
  pub first : comes_first (followed_in clear_guest 0 early_awaiting).ideal 0 spi ≡ true
  pub closed : is_last_open clear_guest.shape (followed_in clear_guest 0 early_awaiting).track 0 spi ≡ false
  pub awaited : is_awaited clear_guest.shape late_history (followed_in clear_guest 0 early_awaiting).track 0 spi ≡ true
  pub fresh : IsFresh clear_guest awaiting_history

-- the read of the worked run
abbrev pub read_made : Made
read_made = record { step = Poll (Some Iar1) None; found = 0; left = 0; tables = None }

pub record AReadIsAlone : Type 0 where
  pub good : CanOpen worked_guest
  pub same : take 17 worked_run ++ (record { actor = 0; act = makes read_made }) ∷ drop 18 worked_run ≡ worked_run
  pub proper : IsProperRun worked_guest 0 worked_run
  pub calls : AreCalls worked_guest.shape (opening worked_guest 0) (opening_course worked_guest) worked_run
  pub ended : AreEnded worked_guest.shape worked_run
  pub alone : AsksAlone worked_guest 0 (take 17 worked_run) 0 read_made
