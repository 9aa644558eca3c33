-- A worked run: a wire goes up at a level-triggered SPI, and the vCPU on its PE takes it and reads its INTID. The wire is still up: the SPI is active there, and
-- pending in its record.
use Rattle.std.specs.Prelude.{ℕ, ◌≡◌, ◌^◌, true, false, List, [], ◌∷◌, replicate, Some, None}
use Rattle.law_core_is_history.specs.Words.{Iar1, Wire}
use Rattle.law_core_is_history.specs.Calls.{Device, Residence, GuestSpec}
use Rattle.law_core_is_history.specs.Histories.{IdealGuest, CanOpen, opening_guest}
use Rattle.law_core_is_history.specs.Core.{Look, WireUp, Claim, Poll, Kick, Mark, TakeIndex, Irq, opening, end_of_moments, ideal_of, begins, ends, CoreMoment, progress_in, IsProperRun, spi, vcpu_does, device_does, made, reads_iar}
use Rattle.law_registers_stand.specs.Asks.{HasAll, IsFilled}
use Rattle.law_registers_stand.specs.Ends.{IsBehind}
use Rattle.law_registers_stand.specs.Followed.{followed_by}

-- a vCPU and a device, and SPI 40, which is level-triggered, enabled, of group 1 and of priority 0xa0
abbrev pub level_spec : GuestSpec
level_spec =
    record {
      shape = record { vcpus = 1; spis = 32; espis = 0; devices = 1; lpis = 0; ram = 0 };
      on = true;
      presets = (record { id = 40; prio = 0xa0; edge = false; group = 1; to = Some 0; vcpu = None }) ∷ [];
    }

-- as it opens
abbrev pub level_guest : IdealGuest
level_guest = opening_guest level_spec

-- its word as the guest opens, once the wire is up, and while the vCPU holds it
abbrev pub low_word : ℕ
low_word = 0x40028f0

abbrev pub high_word : ℕ
high_word = 0x40028f6

abbrev pub held_high_word : ℕ
held_high_word = 0x41028f2

abbrev pub level_run : List CoreMoment
level_run =
    device_does (begins (Device (Wire spi true)) 0)
    ∷ device_does (made (WireUp spi) low_word high_word)
    ∷ device_does (made (Mark spi 0) 0 (2 ^ 40))
    ∷ device_does (made (Kick 0) 0 2)
    ∷ device_does (ends None)
    ∷ vcpu_does (begins Residence 4)
    ∷ vcpu_does (made (Poll None None) 2 0)
    ∷ vcpu_does (made (TakeIndex 0) (2 ^ 40) 0)
    ∷ vcpu_does (made (Look (Irq spi)) high_word high_word)
    ∷ vcpu_does (made (Claim spi high_word) high_word held_high_word)
    ∷ vcpu_does (ends None)
    ∷ vcpu_does (begins reads_iar 4)
    ∷ vcpu_does (made (Poll (Some Iar1) None) 0 0)
    ∷ vcpu_does (ends (Some 40))
    ∷ []

-- the run meets what the laws ask, and the one list register has State 2, group 1, priority 0xa0, EOI and INTID 40
pub record LevelRunIsBehind : Type 0 where
  pub good : CanOpen level_guest
  pub proper : IsProperRun level_guest 0 level_run
  pub filled : IsFilled (progress_in level_guest 0 level_run 0)
  pub all : HasAll level_guest.shape (end_of_moments level_guest.shape (opening level_guest 0) level_run) 0 (progress_in level_guest 0 level_run 0)
  pub behind : IsBehind level_guest.shape (end_of_moments level_guest.shape (opening level_guest 0) level_run) (followed_by level_guest (ideal_of level_guest.shape (opening level_guest 0) level_run)) (progress_in level_guest 0 level_run 0) spi
  pub list : (progress_in level_guest 0 level_run 0).regs.lr ≡ 0x90a0020000000028 ∷ replicate 15 0
