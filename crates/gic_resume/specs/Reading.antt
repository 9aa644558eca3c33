-- The saved run that a JSON value is the image of, or its fault (own choice): reading is the inverse of writing, but for how the steps are written.
use Rattle.std.specs.Prelude.{◌≡◌, ℕ, ◌+◌, List, [], ◌∷◌, length, map, true, false, is_some, Option, Some, option_map, Ok, Err, codes}
use Rattle.serde_json.specs.Data.{Data}
use Rattle.serde_json.specs.Find.{get}
use Rattle.scn_read.specs.JsonField.Field.{list_at, elements_at}
use Rattle.scn_read.specs.Reading.{steps_of}
use Rattle.gic_save.specs.ScnSaved.ScnBase.declared.fault.Fault.{Fault}
use Rattle.gic_save.specs.ScnSaved.ScnBase.declared.step.Mode.TheVariants.{Schedule}
use Rattle.gic_save.specs.ScnSaved.declared.saved.Saved.{Saved}
use Rattle.gic_save.specs.Image.{guests_data, image_of}
use Rattle.saved_guest.specs.Standing.{standing_of}
use Rattle.saved_guest.specs.Whole.{IsValidRun, IsValidSaved}
use Rattle.gic_resume.specs.Kind.{guest_fields, is_image}

-- the members of an image, but for its guests and its steps
abbrev pub head_fields : List (List ℕ)
head_fields = codes "version" ∷ codes "pes" ∷ codes "lrs" ∷ codes "done" ∷ codes "reads" ∷ codes "on_pe" ∷ []

abbrev pub head_of : Data → List (Option Data)
head_of d = map (λ name. get name d) head_fields

-- the members of a guest
abbrev pub guest_head : Data → List (Option Data)
guest_head d = map (λ name. get name d) guest_fields

abbrev pub guest_heads : List Data → List (List (Option Data))
guest_heads ds = map guest_head ds

-- the steps of an image, which may be written in each form of scenarios
abbrev pub steps_at : Data → List Data
steps_at d = elements_at (codes "steps") d

-- the value is the image of this saved run, whatever its steps are and however they are written: each number is as it is written, and each list has its length
pub record IsHeadOf (d : Data) (saved : Saved) : Type 0 where
  pub members : head_of d ≡ head_of (image_of saved)
  pub guests : option_map guest_heads (list_at (codes "guests") d) ≡ Some (guest_heads (guests_data saved.scenario.guests saved.state))
  -- there is a list of steps, and no null
  pub listed : is_some (list_at (codes "steps") d) ≡ true

-- the value is an image of this run: it has the shape of one, the run is one that can have been saved, and its steps are read from the standing that it tells,
-- with numbers after those that were done
pub record IsImage (d : Data) (saved : Saved) : Type 0 where
  pub shape : is_image d ≡ true
  pub head : IsHeadOf d saved
  pub valid : IsValidSaved saved
  pub steps : steps_of Schedule (standing_of saved) (saved.done + 1) (steps_at d) ≡ Ok saved.scenario.steps

-- why a value is none: first by the kinds of what stands in it, then by what it tells, then by its steps
pub data IsNoImage (d : Data) : Fault → Type 0 where
  of_no_shape : is_image d ≡ false → IsNoImage d (record { code = 1; step = 0 })
  not_valid : is_image d ≡ true → ((saved : Saved) → IsHeadOf d saved → IsValidRun (length (steps_at d)) saved → ⊥) → IsNoImage d (record { code = 12; step = 0 })
  of_steps : (saved : Saved) (fault : Fault) → is_image d ≡ true → IsHeadOf d saved → IsValidRun (length (steps_at d)) saved
      → steps_of Schedule (standing_of saved) (saved.done + 1) (steps_at d) ≡ Err fault → IsNoImage d fault
