-- A worked run: a vCPU has an SPI pending at its interface on one PE, leaves it unread, enters another PE and reads its INTID there.
use Rattle.std.specs.Prelude.{ℕ, ◌^◌, true, false, List, [], ◌∷◌, Some, None}
use Rattle.floor_histories.specs.Words.{Iar1, Message}
use Rattle.floor_histories.specs.Calls.{Reach, Leave, Cpu, Moment, Begin, Happens, Device, Residence}
use Rattle.floor_histories.specs.GicCall.declared.event.Event.TheVariants.{Raise as RaiseEvent}
use Rattle.floor_histories.specs.GicCall.declared.event.Found.TheVariants.{Nothing, Answer}
use Rattle.floor_histories.specs.GicCall.declared.event.Moment.TheVariants.{End}
use Rattle.port_core.specs.declared.step.CoreStep.TheVariants.{Look, Raise, Claim, GiveBack, Release, Poll, Kick, Mark, TakeIndex}
use Rattle.port_core.specs.CoreWords.declared.word_id.WordId.TheVariants.{Irq}
use Rattle.core_proper.specs.Parts.{begins, ends, CoreMoment}
use Rattle.core_proper.specs.Worked.{spi, opened_word, pending_word, held_word, vcpu_does, device_does, made, reads_iar}

-- the SPI's word once it is given back, and not yet released
abbrev pub given_word : ℕ
given_word = 0x41028f9

-- the run
abbrev pub exit_run : List CoreMoment
exit_run =
    -- a message: the SPI is pending, and its target is marked and kicked
    device_does (begins (Device (Message 40)) 0)
    ∷ device_does (made (Raise spi) opened_word pending_word)
    ∷ device_does (made (Mark spi 0) 0 (2 ^ 40))
    ∷ device_does (made (Kick 0) 0 2)
    ∷ device_does (ends None)
    -- the vCPU enters the first PE: it takes its kick and its index, and then the SPI
    ∷ vcpu_does (begins Residence 4)
    ∷ vcpu_does (made (Poll None None) 2 0)
    ∷ vcpu_does (made (TakeIndex 0) (2 ^ 40) 0)
    ∷ vcpu_does (made (Look (Irq spi)) pending_word pending_word)
    ∷ vcpu_does (made (Claim spi pending_word) pending_word held_word)
    ∷ vcpu_does (ends None)
    -- it leaves: what is pending goes back to the word, nobody holds that, and the vCPU marks it for its own next scan and kicks nobody
    ∷ vcpu_does (begins Residence 4)
    ∷ vcpu_does (made (GiveBack spi (record { rise = false; soft = true; active = false })) held_word given_word)
    ∷ vcpu_does (made (Release spi) given_word pending_word)
    ∷ vcpu_does (made (Mark spi 0) 0 (2 ^ 40))
    ∷ vcpu_does (ends None)
    -- it enters the second PE, with no kick, and takes the SPI again
    ∷ vcpu_does (begins Residence 4)
    ∷ vcpu_does (made (Poll None None) 0 0)
    ∷ vcpu_does (made (TakeIndex 0) (2 ^ 40) 0)
    ∷ vcpu_does (made (Look (Irq spi)) pending_word pending_word)
    ∷ vcpu_does (made (Claim spi pending_word) pending_word held_word)
    ∷ vcpu_does (ends None)
    -- it reads the INTID
    ∷ vcpu_does (begins reads_iar 4)
    ∷ vcpu_does (made (Poll (Some Iar1) None) 0 0)
    ∷ vcpu_does (ends (Some 40))
    ∷ []

-- what it stands for
abbrev pub exit_history : List Moment
exit_history =
    Begin 1 (Device (Message 40))
    ∷ Happens 1 (RaiseEvent spi) Nothing
    ∷ End 1 None
    ∷ Begin 0 Residence
    ∷ Happens 0 (Reach spi 0) Nothing
    ∷ End 0 None
    ∷ Begin 0 Residence
    ∷ Happens 0 (Leave spi 0) Nothing
    ∷ End 0 None
    ∷ Begin 0 Residence
    ∷ Happens 0 (Reach spi 0) Nothing
    ∷ End 0 None
    ∷ Begin 0 reads_iar
    ∷ Happens 0 (Cpu 0 Iar1 None) (Answer (Some 40))
    ∷ End 0 (Some 40)
    ∷ []
