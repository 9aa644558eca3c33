-- The image of a machine: one JSON value, with the image of its guest and the registers that tell where the guest has its queue and tables (own choice).
use Rattle.std.specs.Prelude.{◌≡◌, ℕ, List, [], ◌∷◌, ◌++◌, length, replicate, None, codes, IsUtf8, Some}
use Rattle.serde_json.specs.Data.{Data}
use Rattle.serde_json.specs.Read.{read}
use Rattle.serde_json.specs.Written.{compact_text}
use Rattle.gic_vm.specs.GuestMemory.declared.base.Bases.{Bases}
use Rattle.gic_vm.specs.State.{MachineState, after_reset}
use Rattle.image_read.specs.GicResume.GicSave.Cell.{Member, number_data, list_data, object_data}
use Rattle.image_read.specs.GicResume.GicSave.Step.{member}
use Rattle.image_read.specs.GicResume.GicSave.Image.{image_of}
use Rattle.saved_take.specs.SavedGuest.IdealGuests.Words.{interrupt_count}
use Rattle.saved_take.specs.SavedGuest.IdealGuests.declared.guest.IdealGuest.{IdealGuest}
use Rattle.saved_take.specs.SavedGuest.ScnSaved.declared.saved.Saved.{Saved}
use Rattle.saved_take.specs.SavedGuest.ScnSaved.declared.state.GuestState.{GuestState}
use Rattle.saved_take.specs.SavedGuest.Whole.{IsValidRun}
use Rattle.saved_take.specs.Taken.{taken_of}
use Rattle.saved_take.specs.Back.{IsStored}

-- what is saved of a machine's guest: no device of a scenario has moved its wires
abbrev pub state_saved : IdealGuest → GuestState
state_saved guest = taken_of (after_reset guest.shape) (replicate (interrupt_count guest.shape) None) guest

-- a run that has this guest alone, off its PE, and of which no step was done and none is left
abbrev pub run_of : IdealGuest → Saved
run_of guest =
    record {
      scenario = record { pes = 1; lrs = 1; guests = after_reset guest.shape ∷ []; steps = [] };
      done = 0;
      reads = 0;
      on_pe = None ∷ [];
      state = state_saved guest ∷ [];
    }

-- what the registers keep that tell where the guest has its queue and tables: GITS_CBASER, then GICR_PROPBASER and then GICR_PENDBASER of 32 vCPUs
abbrev pub numbers_of : Bases → List ℕ
numbers_of bases = bases.queue ∷ bases.properties ++ bases.pending

-- the members of an image
abbrev pub members_of : IdealGuest → Bases → List Member
members_of guest bases =
    member (codes "bases") (list_data number_data (numbers_of bases))
    ∷ member (codes "image") (image_of (run_of guest))
    ∷ []

-- the image of a machine
abbrev pub machine_image : MachineState → Data
machine_image machine = object_data (members_of machine.guest machine.bases)

-- there is a register for each of 32 vCPUs
pub record AreWhole (bases : Bases) : Type 0 where
  pub properties : length bases.properties ≡ 32
  pub pending : length bases.pending ≡ 32

-- the state of the machine is one that can have been saved, and the registers of its ITS hold what writes store
pub record CanBeSaved (machine : MachineState) : Type 0 where
  pub valid : IsValidRun 0 (run_of machine.guest)
  pub stored : IsStored machine.guest
  pub whole : AreWhole machine.bases

-- the bytes are UTF-8, and JSON that reads as this value
pub record Spells (bytes : List ℕ) (value : Data) : Type 0 where
  pub utf8 : IsUtf8 bytes
  pub reads : read bytes ≡ Some value

-- the bytes are those of the machine's image, which read again
pub record IsSaved (machine : MachineState) (bytes : List ℕ) : Type 0 where
  pub can : CanBeSaved machine
  pub text : bytes ≡ compact_text (machine_image machine)
  pub spells : Spells bytes (machine_image machine)
