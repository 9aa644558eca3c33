-- What is written of a saved run reads again (own choice).
use Rattle.std.specs.Prelude.{◌≡◌, ℕ, List, length, map, All, true, IsTrue, Ok}
use Rattle.gic_save.specs.ScnSaved.ScnBase.declared.step.Step.{Step}
use Rattle.gic_save.specs.ScnSaved.ScnBase.declared.step.Step.TheVariants.{Vcpu, Device, Pe}
use Rattle.gic_save.specs.ScnSaved.ScnBase.declared.step.Mode.TheVariants.{Schedule}
use Rattle.gic_save.specs.ScnSaved.ScnBase.declared.standing.Standing.{Standing}
use Rattle.gic_save.specs.ScnSaved.ScnBase.Good.{is_formed, stand_in_turn}
use Rattle.gic_save.specs.ScnSaved.Words.{Message, Wire, Msi}
use Rattle.gic_save.specs.ScnSaved.declared.saved.Saved.{Saved}
use Rattle.gic_save.specs.Step.{step_data}
use Rattle.gic_save.specs.Image.{image_of}
use Rattle.scn_read.specs.Step.{are_msi_numbers}
use Rattle.scn_read.specs.Reading.{steps_of}
use Rattle.saved_guest.specs.Whole.{IsValidSaved}
use Rattle.gic_resume.specs.Kind.{is_image}
use Rattle.gic_resume.specs.Reading.{IsImage}

-- law: the image of each saved run has the shape of images
abbrev pub ImagesHaveShape : Type 0
ImagesHaveShape = (saved : Saved) → is_image (image_of saved) ≡ true

-- the numbers of an MSI have 32 bits (IHI 0069, GITS_TRANSLATER)
abbrev pub IsShort : Step → Type 0
IsShort (Vcpu guest vcpu op) = Unit {0}
IsShort (Device guest device (Message spi)) = Unit {0}
IsShort (Device guest device (Wire key up)) = Unit {0}
IsShort (Device guest device (Msi number event)) = are_msi_numbers (number, event) ≡ true
IsShort (Pe pe op) = Unit {0}

-- law: steps that can be done, each after those before it, read again from where they were written
abbrev pub StepsReadBack : Type 0
StepsReadBack =
    (standing : Standing) (number : ℕ) (steps : List Step) → All (λ step. IsTrue (is_formed Schedule (length standing.pes) standing.shapes step)) steps → IsTrue (stand_in_turn Schedule standing steps) → All IsShort steps
    → steps_of Schedule standing number (map step_data steps) ≡ Ok steps

-- law: what is written of a run that can have been saved is its image, and reads again as that run
abbrev pub ImagesReadBack : Type 0
ImagesReadBack = (saved : Saved) → IsValidSaved saved → All IsShort saved.scenario.steps → IsImage (image_of saved) saved
