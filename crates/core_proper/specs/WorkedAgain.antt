-- A worked run: an SPI that a vCPU has read is made pending again. On a PE with one list register the vCPU then has it there active and pending, reads
-- no INTID before it ends the first one, and the same INTID after that.
use Rattle.std.specs.Prelude.{ℕ, ◌^◌, true, false, List, [], ◌∷◌, ◌++◌, Some, None}
use Rattle.floor_histories.specs.Words.{Iar1, Eoir1, Message}
use Rattle.floor_histories.specs.Calls.{Reach, Take, Leave, Cpu, Moment, Begin, Happens, Device, Residence}
use Rattle.floor_histories.specs.GicCall.declared.event.Event.TheVariants.{Raise as RaiseEvent}
use Rattle.floor_histories.specs.GicCall.declared.event.Found.TheVariants.{Nothing, Answer}
use Rattle.floor_histories.specs.GicCall.declared.event.Moment.TheVariants.{End}
use Rattle.port_core.specs.declared.step.CoreStep.TheVariants.{Look, Raise, Claim, GiveBack, Release, Poll, Kick, Mark, TakeIndex}
use Rattle.port_core.specs.CoreWords.declared.word_id.WordId.TheVariants.{Irq}
use Rattle.core_proper.specs.Parts.{begins, ends, CoreMoment}
use Rattle.core_proper.specs.Worked.{spi, opened_word, pending_word, held_word, vcpu_does, device_does, made, reads_iar, writes_eoir}

-- the SPI's word while it is held and was made pending again, once it is given back as active too, once that is released, and while it is held again
abbrev pub raised_word : ℕ
raised_word = 0x41028f9

abbrev pub given_active_word : ℕ
given_active_word = 0x41068f9

abbrev pub active_word : ℕ
active_word = 0x40068f9

abbrev pub held_active_word : ℕ
held_active_word = 0x41068f9

abbrev pub taken_word : ℕ
taken_word = 0x41068f8

-- the run up to where the list register has both states
abbrev pub again_start : List CoreMoment
again_start =
    -- a message: the SPI is pending, and its target is marked and kicked
    device_does (begins (Device (Message 40)) 0)
    ∷ device_does (made (Raise spi) opened_word pending_word)
    ∷ device_does (made (Mark spi 0) 0 (2 ^ 40))
    ∷ device_does (made (Kick 0) 0 2)
    ∷ device_does (ends None)
    -- the vCPU enters, takes the SPI and reads its INTID: it is active at the interface
    ∷ vcpu_does (begins Residence 1)
    ∷ vcpu_does (made (Poll None None) 2 0)
    ∷ vcpu_does (made (TakeIndex 0) (2 ^ 40) 0)
    ∷ vcpu_does (made (Look (Irq spi)) pending_word pending_word)
    ∷ vcpu_does (made (Claim spi pending_word) pending_word held_word)
    ∷ vcpu_does (ends None)
    ∷ vcpu_does (begins reads_iar 1)
    ∷ vcpu_does (made (Poll (Some Iar1) None) 0 0)
    ∷ vcpu_does (ends (Some 40))
    -- another message: target and holder are the same vCPU, which is marked and kicked once
    ∷ device_does (begins (Device (Message 40)) 0)
    ∷ device_does (made (Raise spi) held_word raised_word)
    ∷ device_does (made (Mark spi 0) 0 (2 ^ 40))
    ∷ device_does (made (Kick 0) 0 2)
    ∷ device_does (ends None)
    -- the vCPU leaves and gives back that the SPI is active, which is marked for itself; the bit is set already
    ∷ vcpu_does (begins Residence 1)
    ∷ vcpu_does (made (GiveBack spi (record { rise = false; soft = false; active = true })) raised_word given_active_word)
    ∷ vcpu_does (made (Release spi) given_active_word active_word)
    ∷ vcpu_does (made (Mark spi 0) (2 ^ 40) (2 ^ 40))
    -- it enters again: it takes its kick and its index, then the SPI as active, and then what is pending of it
    ∷ vcpu_does (made (Poll None None) 2 0)
    ∷ vcpu_does (made (TakeIndex 0) (2 ^ 40) 0)
    ∷ vcpu_does (made (Look (Irq spi)) active_word active_word)
    ∷ vcpu_does (made (Claim spi active_word) active_word held_active_word)
    ∷ vcpu_does (made (Claim spi held_active_word) held_active_word taken_word)
    ∷ vcpu_does (ends None)
    ∷ []

-- and from there on: it reads no INTID, ends the first one, and reads the same again
abbrev pub again_rest : List CoreMoment
again_rest =
    vcpu_does (begins reads_iar 1)
    ∷ vcpu_does (made (Poll (Some Iar1) None) 0 0)
    ∷ vcpu_does (ends (Some 1023))
    ∷ vcpu_does (begins writes_eoir 1)
    ∷ vcpu_does (made (Poll (Some Eoir1) (Some 40)) 0 0)
    ∷ vcpu_does (ends None)
    ∷ vcpu_does (begins reads_iar 1)
    ∷ vcpu_does (made (Poll (Some Iar1) None) 0 0)
    ∷ vcpu_does (ends (Some 40))
    ∷ []

abbrev pub again_run : List CoreMoment
again_run = again_start ++ again_rest

-- what it stands for
abbrev pub again_history : List Moment
again_history =
    Begin 1 (Device (Message 40))
    ∷ Happens 1 (RaiseEvent spi) Nothing
    ∷ End 1 None
    ∷ Begin 0 Residence
    ∷ Happens 0 (Reach spi 0) Nothing
    ∷ End 0 None
    ∷ Begin 0 reads_iar
    ∷ Happens 0 (Cpu 0 Iar1 None) (Answer (Some 40))
    ∷ End 0 (Some 40)
    ∷ Begin 1 (Device (Message 40))
    ∷ Happens 1 (RaiseEvent spi) Nothing
    ∷ End 1 None
    ∷ Begin 0 Residence
    ∷ Happens 0 (Leave spi 0) Nothing
    ∷ Happens 0 (Reach spi 0) Nothing
    ∷ Happens 0 (Take spi 0) Nothing
    ∷ End 0 None
    ∷ Begin 0 reads_iar
    ∷ Happens 0 (Cpu 0 Iar1 None) (Answer (Some 1023))
    ∷ End 0 (Some 1023)
    ∷ Begin 0 writes_eoir
    ∷ Happens 0 (Cpu 0 Eoir1 (Some 40)) (Answer None)
    ∷ End 0 None
    ∷ Begin 0 reads_iar
    ∷ Happens 0 (Cpu 0 Iar1 None) (Answer (Some 40))
    ∷ End 0 (Some 40)
    ∷ []
