-- The state of a machine that a JSON value is the image of, or why it is none (own choice).
use Rattle.std.specs.Prelude.{◌≡◌, ◌⊎◌, ℕ, ◌==◌, List, [], ◌∷◌, length, take, drop, Option, Some, None, option_map, option_and_then, if◌then◌else◌, codes}
use Rattle.std.specs.List.{slice_index_or}
use Rattle.serde_json.specs.Data.{Data}
use Rattle.serde_json.specs.Find.{get}
use Rattle.gic_vm.specs.GuestMemory.declared.base.Bases.{Bases}
use Rattle.gic_vm.specs.State.{after_reset}
use Rattle.image_read.specs.GicResume.ScnRead.JsonField.Field.{has_only, number_of, list_at}
use Rattle.image_read.specs.GicResume.ScnRead.ScnBase.declared.fault.Fault.{Fault}
use Rattle.image_read.specs.GicResume.Reading.{IsImage, IsNoImage}
use Rattle.saved_take.specs.SavedGuest.IdealGuests.Words.{GuestShape}
use Rattle.saved_take.specs.SavedGuest.IdealGuests.declared.guest.IdealGuest.{IdealGuest}
use Rattle.saved_take.specs.SavedGuest.ScnSaved.declared.saved.Saved.{Saved}
use Rattle.saved_take.specs.SavedGuest.ScnSaved.declared.state.GuestState.{GuestState}
use Rattle.saved_take.specs.SavedGuest.State.{state_of}

-- the fields of an image
abbrev pub field_names : List (List ℕ)
field_names = codes "bases" ∷ codes "image" ∷ []

-- the numbers of a list, if each element is one
abbrev pub numbers_in : List Data → Option (List ℕ)
numbers_in [] = Some []
numbers_in (d ∷ ds) = option_and_then (λ n. option_map (λ ns. n ∷ ns) (numbers_in ds)) (number_of d)

-- the registers that these numbers are, if they are as many
abbrev pub bases_of : List ℕ → Option Bases
bases_of numbers =
    if length numbers == 65 then Some (record { queue = slice_index_or numbers 0 0; properties = take 32 (drop 1 numbers); pending = take 32 (drop 33 numbers) }) else None

-- the registers and the image of the guest that a value has
abbrev pub bases_at : Data → Option Bases
bases_at d = option_and_then bases_of (option_and_then numbers_in (list_at (codes "bases") d))

abbrev pub image_at : Data → Option Data
image_at d = if has_only field_names d then get (codes "image") d else None

-- the run has a guest of this shape alone, which opened with nothing enabled, off its PE, and none of its steps is left
pub record IsAlone (shape : GuestShape) (saved : Saved) : Type 0 where
  pub guests : saved.scenario.guests ≡ after_reset shape ∷ []
  pub away : saved.on_pe ≡ None ∷ []
  pub over : saved.scenario.steps ≡ []

-- the image is that of a run which has this guest alone
pub record TellsGuest (image : Data) (shape : GuestShape) (guest : IdealGuest) : Type 0 where
  pub saved : Saved
  pub is_image : IsImage image saved
  pub alone : IsAlone shape saved
  pub state : GuestState
  pub one : saved.state ≡ state ∷ []
  pub guest_is : guest ≡ state_of (after_reset shape) state

-- the value is the image of a machine with a guest of this shape in this state, and with these registers
pub record Tells (d : Data) (shape : GuestShape) (guest : IdealGuest) (bases : Bases) : Type 0 where
  pub image : Data
  pub image_is : image_at d ≡ Some image
  pub tells : TellsGuest image shape guest
  pub bases_are : bases_at d ≡ Some bases

-- why it is none: a field is missing, unknown or of the wrong kind, which is code 1 with step 0; or the image of the guest has a fault
pub data IsNoMachine (d : Data) : Fault → Type 0 where
  of_no_shape : (image_at d ≡ None) ⊎ (bases_at d ≡ None) → IsNoMachine d (record { code = 1; step = 0 })
  of_image : (image : Data) (fault : Fault) → image_at d ≡ Some image → IsNoImage image fault → IsNoMachine d fault

-- the value is the image of something else: the guest has another shape, or is not alone, or a step is left
pub record IsOfAnother (d : Data) (shape : GuestShape) : Type 0 where
  pub image : Data
  pub image_is : image_at d ≡ Some image
  pub saved : Saved
  pub is_image : IsImage image saved
  pub other : IsAlone shape saved → ⊥
