-- A worked run: an SPI is pending at the interface of a vCPU, and another vCPU clears that by ICPENDR. It waits for the SPI and kicks the vCPU, which
-- gives the SPI back; the first one finds no INTID to read after that.
use Rattle.std.specs.Prelude.{ℕ, ◌^◌, true, false, List, [], ◌∷◌, Some, None}
use Rattle.floor_histories.specs.Words.{Iar1, Message, Dist, Mem, ClearPending, G1, Irq as IrqRecord, Affinity}
use Rattle.floor_histories.specs.Calls.{Reach, Leave, Cpu, Touch as TouchEvent, Record, Moment, Begin, Happens, Operation, Access, Device, Residence, Touching, Register, GuestSpec}
use Rattle.floor_histories.specs.Histories.{IdealGuest, opening_guest}
use Rattle.floor_histories.specs.GicCall.declared.event.Event.TheVariants.{Raise as RaiseEvent}
use Rattle.floor_histories.specs.GicCall.declared.event.Found.TheVariants.{Nothing, Answer}
use Rattle.floor_histories.specs.GicCall.declared.event.Moment.TheVariants.{End}
use Rattle.port_core.specs.declared.step.CoreStep.TheVariants.{Look, Raise, Claim, GiveBack, Release, Poll, Kick, Touch, Want, Mark, TakeIndex}
use Rattle.port_core.specs.CoreWords.declared.word_id.WordId.TheVariants.{Irq}
use Rattle.core_proper.specs.Parts.{Act, begins, ends, CoreMoment}
use Rattle.core_proper.specs.Worked.{spi, opened_word, pending_word, held_word, vcpu_does, made, reads_iar}

-- two vCPUs and a device, and SPI 40, which is enabled, of group 1, of priority 0xa0 and for vCPU 0
abbrev pub clear_spec : GuestSpec
clear_spec =
    record {
      shape = record { vcpus = 2; spis = 32; espis = 0; devices = 1; lpis = 0; ram = 0 };
      on = true;
      presets = (record { id = 40; prio = 0xa0; edge = true; group = 1; to = Some 0; vcpu = None }) ∷ [];
    }

-- as it opens
abbrev pub clear_guest : IdealGuest
clear_guest = opening_guest clear_spec

-- the SPI's word while it is held and vCPU 1 waits for it, once it is given back too, and once it is released
abbrev pub wanted_word : ℕ
wanted_word = 0x41029f8

abbrev pub given_wanted_word : ℕ
given_wanted_word = 0x41029f9

abbrev pub free_wanted_word : ℕ
free_wanted_word = 0x40029f9

-- the moments of the other vCPU, and of the device behind it
abbrev pub other_does : Act → CoreMoment
other_does act = record { actor = 1; act = act }

abbrev pub third_does : Act → CoreMoment
third_does act = record { actor = 2; act = act }

-- bit 8 of ICPENDR1 is written
abbrev pub writes_icpendr : Operation
writes_icpendr = Access (Mem Dist 0x284 4 (Some 0x100))

abbrev pub clears : Touching
clears = Register ClearPending 1

-- the run
abbrev pub clear_run : List CoreMoment
clear_run =
    -- a message: the SPI is pending, and its target is marked and kicked
    third_does (begins (Device (Message 40)) 0)
    ∷ third_does (made (Raise spi) opened_word pending_word)
    ∷ third_does (made (Mark spi 0) 0 (2 ^ 40))
    ∷ third_does (made (Kick 0) 0 2)
    ∷ third_does (ends None)
    -- vCPU 0 enters, takes its kick and its index, and then the SPI
    ∷ vcpu_does (begins Residence 4)
    ∷ vcpu_does (made (Poll None None) 2 0)
    ∷ vcpu_does (made (TakeIndex 0) (2 ^ 40) 0)
    ∷ vcpu_does (made (Look (Irq spi)) pending_word pending_word)
    ∷ vcpu_does (made (Claim spi pending_word) pending_word held_word)
    ∷ vcpu_does (ends None)
    -- vCPU 1 writes ICPENDR1: it finds the SPI held, asks for it and kicks its holder
    ∷ other_does (begins writes_icpendr 4)
    ∷ other_does (made (Look (Irq spi)) held_word held_word)
    ∷ other_does (made (Want spi) held_word wanted_word)
    ∷ other_does (made (Kick 0) 0 2)
    -- vCPU 0 leaves, gives back what is pending, and marks the SPI for its own next scan
    ∷ vcpu_does (begins Residence 4)
    ∷ vcpu_does (made (GiveBack spi (record { rise = false; soft = true; active = false })) wanted_word given_wanted_word)
    ∷ vcpu_does (made (Release spi) given_wanted_word free_wanted_word)
    ∷ vcpu_does (made (Mark spi 0) 0 (2 ^ 40))
    ∷ vcpu_does (ends None)
    -- vCPU 1 finds it free and clears it; it owes the target a mark and a kick, though both are there already
    ∷ other_does (made (Look (Irq spi)) free_wanted_word free_wanted_word)
    ∷ other_does (made (Touch spi free_wanted_word clears) free_wanted_word opened_word)
    ∷ other_does (made (Mark spi 0) (2 ^ 40) (2 ^ 40))
    ∷ other_does (made (Kick 0) 2 2)
    ∷ other_does (ends None)
    -- vCPU 0 enters again, scans, and finds the SPI not pending
    ∷ vcpu_does (begins Residence 4)
    ∷ vcpu_does (made (Poll None None) 2 0)
    ∷ vcpu_does (made (TakeIndex 0) (2 ^ 40) 0)
    ∷ vcpu_does (made (Look (Irq spi)) opened_word opened_word)
    ∷ vcpu_does (ends None)
    -- and reads no INTID
    ∷ vcpu_does (begins reads_iar 4)
    ∷ vcpu_does (made (Poll (Some Iar1) None) 0 0)
    ∷ vcpu_does (ends (Some 1023))
    ∷ []

-- the SPI's record as vCPU 1 finds it
abbrev pub found_pending : IrqRecord
found_pending =
    record {
      prio = 0xa0;
      enabled = true;
      group = G1;
      edge = true;
      line = false;
      rise = false;
      soft = true;
      act_by = None;
      holder = None;
      want = false;
      en0 = true;
      en1 = true;
      route = Affinity 0;
    }

-- what it stands for
abbrev pub clear_history : List Moment
clear_history =
    Begin 2 (Device (Message 40))
    ∷ Happens 2 (RaiseEvent spi) Nothing
    ∷ End 2 None
    ∷ Begin 0 Residence
    ∷ Happens 0 (Reach spi 0) Nothing
    ∷ End 0 None
    ∷ Begin 1 writes_icpendr
    ∷ Begin 0 Residence
    ∷ Happens 0 (Leave spi 0) Nothing
    ∷ End 0 None
    ∷ Happens 1 (TouchEvent spi clears) (Record found_pending)
    ∷ End 1 None
    ∷ Begin 0 Residence
    ∷ End 0 None
    ∷ Begin 0 reads_iar
    ∷ Happens 0 (Cpu 0 Iar1 None) (Answer (Some 1023))
    ∷ End 0 (Some 1023)
    ∷ []
