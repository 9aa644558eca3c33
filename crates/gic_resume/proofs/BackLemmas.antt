-- What is written of a run reads again.
use Rattle.std.proofs.Common.{◌≡◌, ℕ, ◌+◌, List, [], ◌∷◌, length, map, All, IsTrue, Some, refl, sym, ap, subst, ◌∙◌}
use Rattle.serde_json.specs.Data.{Data}
use Rattle.serde_json.specs.View.{items_of}
use Rattle.serde_json.proofs.OnLiterals.{serde_json_on_literals}
use Rattle.scn_read.specs.JsonField.Field.{elements}
use Rattle.scn_read.specs.Reading.{steps_of}
use Rattle.gic_save.specs.ScnSaved.ScnBase.declared.step.Mode.TheVariants.{Schedule}
use Rattle.gic_save.specs.ScnSaved.ScnBase.Good.{is_formed}
use Rattle.gic_save.specs.ScnSaved.declared.saved.Saved.{Saved}
use Rattle.gic_save.specs.Step.{step_data}
use Rattle.gic_save.specs.Image.{guests_data, image_of}
use Rattle.saved_guest.specs.Standing.{standing_of}
use Rattle.gic_resume.specs.Reading.{guest_heads, steps_at}
use Rattle.gic_resume.specs.Back.{ImagesReadBack}
use Rattle.gic_resume.proofs.KindLemmas.{images_have_shape}
use Rattle.gic_resume.proofs.StepLemmas.{steps_read_back}

pub elements_back : (ds : List Data) → elements (items_of ds) ≡ ds
elements_back [] = refl
elements_back (d ∷ ds) = ap (λ rest. d ∷ rest) (elements_back ds)

steps_back : (saved : Saved) → steps_at (image_of saved) ≡ map step_data saved.scenario.steps
unfolding serde_json_on_literals
steps_back saved = elements_back (map step_data saved.scenario.steps)

pub images_read_back : ImagesReadBack
unfolding serde_json_on_literals
images_read_back saved valid short =
    let Formed : ℕ → Type 0 = λ pes. All (λ step. IsTrue (is_formed Schedule pes (standing_of saved).shapes step)) saved.scenario.steps in
    let formed : Formed (length saved.on_pe) = subst Formed (sym valid.run.each_pe) valid.each_step in
    record {
      shape = images_have_shape saved;
      head = record { members = refl; guests = ap (λ ds. Some (guest_heads ds)) (elements_back (guests_data saved.scenario.guests saved.state)); listed = refl };
      valid = valid;
      steps =
          ap (steps_of Schedule (standing_of saved) (saved.done + 1)) (steps_back saved)
          ∙ steps_read_back (standing_of saved) (saved.done + 1) saved.scenario.steps formed valid.in_turn short;
    }
