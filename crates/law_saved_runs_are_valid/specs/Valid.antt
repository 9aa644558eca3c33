-- What is saved of a run can have been saved (own choice).
use Rattle.std.specs.Prelude.{◌≡◌, ℕ, ◌≤◌, ◌++◌, length, drop, All}
use Rattle.eager_rest.specs.LawSavesGoOn.RunsSplit.GicIdeal.ScnBase.declared.scenario.Scenario.{Scenario}
use Rattle.eager_rest.specs.LawSavesGoOn.RunsSplit.GicIdeal.ScnBase.declared.step.Mode.TheVariants.{Schedule}
use Rattle.eager_rest.specs.LawSavesGoOn.RunsSplit.GicIdeal.ScnBase.Good.{IsGood}
use Rattle.eager_rest.specs.LawSavesGoOn.RunsSplit.GicIdeal.Eager.{eager}
use Rattle.eager_rest.specs.LawSavesGoOn.GicReport.Text.{text}
use Rattle.eager_rest.specs.LawSavesGoOn.GicReport.Rest.{text_saved}
use Rattle.eager_rest.specs.LawSavesGoOn.SavedTake.Taken.{saved_of}
use Rattle.eager_rest.specs.LawSavesGoOn.GoOn.{first_lines}
use Rattle.eager_rest.specs.LawSavesGoOn.Resume.{reached, resumed}
use Rattle.eager_rest.specs.SavedCheck.SavedGuest.ScnSaved.declared.saved.Saved.{Saved}
use Rattle.eager_rest.specs.SavedCheck.SavedGuest.Whole.{IsValidSaved}
use Rattle.gic_resume.specs.GicSave.Image.{image_of}
use Rattle.gic_resume.specs.Reading.{IsImage}
use Rattle.gic_resume.specs.Back.{IsShort}

-- law: what is saved of a scenario without a fault, after so many of its steps, can have been saved
abbrev pub SavedRunsAreValid : Type 0
SavedRunsAreValid = (scenario : Scenario) (done : ℕ) → IsGood Schedule scenario → done ≤ length scenario.steps → IsValidSaved (saved_of scenario done (reached scenario done))

-- a saved run reads as itself where its image is read, and the lines of the first steps and the text of what is left of it are the text of the whole run
pub record IsResumed (scenario : Scenario) (done : ℕ) (saved : Saved) : Type 0 where
  pub read : IsImage (image_of saved) saved
  pub goes_on : text scenario (eager scenario) ≡ first_lines scenario done ++ text_saved saved (resumed saved)

-- law: so it is with what is saved of a scenario without a fault, the numbers of whose messages to the ITS have 32 bits
abbrev pub SavedRunsAreResumed : Type 0
SavedRunsAreResumed =
    (scenario : Scenario) (done : ℕ) → IsGood Schedule scenario → done ≤ length scenario.steps → All IsShort (drop done scenario.steps) → IsResumed scenario done (saved_of scenario done (reached scenario done))
