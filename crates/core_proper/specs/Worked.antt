-- A worked run: a message makes an SPI pending at a vCPU on a PE with four list registers, which reads its INTID, ends it, finds no other one and leaves.
use Rattle.std.specs.Prelude.{ℕ, ◌^◌, true, false, List, [], ◌∷◌, Some, None}
use Rattle.floor_histories.specs.Words.{Iar1, Eoir1, Key, Spi, Message, Icc}
use Rattle.floor_histories.specs.Calls.{Reach, Leave, Cpu, Moment, Begin, Happens, Operation, Access, Device, Residence, GuestSpec}
use Rattle.floor_histories.specs.Histories.{IdealGuest, opening_guest}
use Rattle.floor_histories.specs.GicCall.declared.event.Event.TheVariants.{Raise as RaiseEvent, Read}
use Rattle.floor_histories.specs.GicCall.declared.event.Found.TheVariants.{Nothing, Answer, Lpis as FoundLpis}
use Rattle.floor_histories.specs.GicCall.declared.event.Moment.TheVariants.{End}
use Rattle.floor_histories.specs.GicCall.declared.event.Place.TheVariants.{Lpis}
use Rattle.port_core.specs.declared.step.CoreStep.{CoreStep}
use Rattle.port_core.specs.declared.step.CoreStep.TheVariants.{Look, Raise, Claim, GiveBack, Release, Poll, Kick, Mark, TakeIndex}
use Rattle.port_core.specs.CoreWords.declared.word_id.WordId.TheVariants.{Irq, Vcpu}
use Rattle.core_proper.specs.Parts.{Act, begins, makes, ends, CoreMoment}

-- a vCPU and a device, and SPI 40, which is enabled, of group 1 and of priority 0xa0
abbrev pub worked_spec : GuestSpec
worked_spec =
    record {
      shape = record { vcpus = 1; spis = 32; espis = 0; devices = 1; lpis = 0; ram = 0 };
      on = true;
      presets = (record { id = 40; prio = 0xa0; edge = true; group = 1; to = Some 0; vcpu = None }) ∷ [];
    }

-- as it opens
abbrev pub worked_guest : IdealGuest
worked_guest = opening_guest worked_spec

abbrev pub spi : Key
spi = Spi 40

-- its word as the guest opens, once it is pending, and while the vCPU holds it
abbrev pub opened_word : ℕ
opened_word = 0x40028f8

abbrev pub pending_word : ℕ
pending_word = 0x40028f9

abbrev pub held_word : ℕ
held_word = 0x41028f8

-- the moments of the vCPU and of the device
abbrev pub vcpu_does : Act → CoreMoment
vcpu_does act = record { actor = 0; act = act }

abbrev pub device_does : Act → CoreMoment
device_does act = record { actor = 1; act = act }

-- a step that found a word and left another
abbrev pub made : CoreStep → ℕ → ℕ → Act
made step found left = makes (record { step = step; found = found; left = left; tables = None })

abbrev pub reads_iar : Operation
reads_iar = Access (Icc Iar1 None)

abbrev pub writes_eoir : Operation
writes_eoir = Access (Icc Eoir1 (Some 40))

-- the run: in the words of the vCPUs, 2 is a kick
abbrev pub worked_run : List CoreMoment
worked_run =
    vcpu_does (begins Residence 4)
    ∷ vcpu_does (made (Poll None None) 0 0)
    ∷ vcpu_does (made (TakeIndex 0) 0 0)
    ∷ vcpu_does (ends None)
    ∷ device_does (begins (Device (Message 40)) 0)
    ∷ device_does (made (Raise spi) opened_word pending_word)
    ∷ device_does (made (Mark spi 0) 0 (2 ^ 40))
    ∷ device_does (made (Kick 0) 0 2)
    ∷ device_does (ends None)
    ∷ vcpu_does (begins Residence 4)
    ∷ vcpu_does (made (Look (Vcpu 0)) 2 2)
    ∷ vcpu_does (made (Poll None None) 2 0)
    ∷ vcpu_does (made (TakeIndex 0) (2 ^ 40) 0)
    ∷ vcpu_does (made (Look (Irq spi)) pending_word pending_word)
    ∷ vcpu_does (made (Claim spi pending_word) pending_word held_word)
    ∷ vcpu_does (ends None)
    ∷ vcpu_does (begins reads_iar 4)
    ∷ vcpu_does (made (Poll (Some Iar1) None) 0 0)
    ∷ vcpu_does (ends (Some 40))
    ∷ vcpu_does (begins writes_eoir 4)
    ∷ vcpu_does (made (Poll (Some Eoir1) (Some 40)) 0 0)
    ∷ vcpu_does (ends None)
    ∷ vcpu_does (begins reads_iar 4)
    ∷ vcpu_does (made (Poll (Some Iar1) None) 0 0)
    ∷ vcpu_does (ends (Some 1023))
    ∷ vcpu_does (begins Residence 4)
    ∷ vcpu_does (made (GiveBack spi (record { rise = false; soft = false; active = false })) held_word held_word)
    ∷ vcpu_does (made (Release spi) held_word opened_word)
    ∷ vcpu_does (made (Mark spi 0) 0 (2 ^ 40))
    ∷ vcpu_does (ends None)
    ∷ []

-- what it stands for
abbrev pub worked_history : List Moment
worked_history =
    Begin 0 Residence
    ∷ End 0 None
    ∷ Begin 1 (Device (Message 40))
    ∷ Happens 1 (RaiseEvent spi) Nothing
    ∷ End 1 None
    ∷ Begin 0 Residence
    ∷ Happens 0 (Read (Lpis 0)) (FoundLpis false)
    ∷ Happens 0 (Reach spi 0) Nothing
    ∷ End 0 None
    ∷ Begin 0 reads_iar
    ∷ Happens 0 (Cpu 0 Iar1 None) (Answer (Some 40))
    ∷ End 0 (Some 40)
    ∷ Begin 0 writes_eoir
    ∷ Happens 0 (Cpu 0 Eoir1 (Some 40)) (Answer None)
    ∷ End 0 None
    ∷ Begin 0 reads_iar
    ∷ Happens 0 (Cpu 0 Iar1 None) (Answer (Some 1023))
    ∷ End 0 (Some 1023)
    ∷ Begin 0 Residence
    ∷ Happens 0 (Leave spi 0) Nothing
    ∷ End 0 None
    ∷ []
