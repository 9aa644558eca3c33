-- An image is read, or refused.
use Rattle.std.proofs.Common.{◌≡◌, ℕ, ◌+◌, Bool, true, false, List, length, Result, Ok, Err, refl, sym, ap, subst, ◌∙◌}
use Rattle.std.proofs.lemmas.Option.{none-some}
use Rattle.std.specs.Result.{result_ok}
use Rattle.serde_json.specs.Data.{Data}
use Rattle.scn_read.specs.Reading.{steps_of, Refuses as RefusesSteps}
use Rattle.scn_read.specs.ScnBase.declared.fault.Fault.{Fault}
use Rattle.scn_read.specs.ScnBase.declared.standing.Standing.{Standing}
use Rattle.scn_read.specs.ScnBase.declared.step.Step.{Step}
use Rattle.scn_read.specs.ScnBase.declared.step.Mode.TheVariants.{Schedule}
use Rattle.scn_read.specs.declared.refusal.ReadRefusal.{ReadRefusal}
use Rattle.scn_read.specs.declared.refusal.ReadRefusal.TheVariants.{Bad, NoMemory}
use Rattle.scn_base.proofs.StepLemmas.{no_fault_good}
use Rattle.saved_check.specs.SavedGuest.ScnSaved.declared.saved.Saved.{Saved}
use Rattle.saved_check.specs.SavedGuest.Standing.{standing_of}
use Rattle.saved_check.specs.SavedGuest.Whole.{IsValidRun}
use Rattle.gic_resume.specs.Reading.{IsImage, IsNoImage, of_no_shape, not_valid, of_steps, steps_at}
use Rattle.image_read.specs.Tells.{TellsHead, without_steps}
use Rattle.image_read.specs.Read.{Refuses, IsTold}
use Rattle.image_read.proofs.HeadLemmas.{told_head_of, head_told, valid_without}
use Rattle.image_read.proofs.TurnLemmas.{are_read, same_Ok}

-- a run that was found is as valid as the one that it is
pub valid_found : (n m : ℕ) (found saved : Saved) → m ≡ n → found ≡ without_steps saved → IsValidRun n saved → IsValidRun m found
valid_found n m found saved many same valid = subst (λ k. IsValidRun k found) (sym many) (subst (IsValidRun n) (sym same) (valid_without n saved valid))

-- an image tells its run
pub told_of : (d : Data) (saved : Saved) → IsImage d saved → IsTold d saved
told_of d saved image =
    let read = are_read (standing_of saved) (saved.done + 1) (steps_at d) saved.scenario.steps image.steps in
    record { shape = image.shape; head = image.head; valid = subst (λ n. IsValidRun n saved) read.many image.valid.run }

abbrev pub with_steps : Saved → List Step → Saved
with_steps saved steps = record saved { scenario = record saved.scenario { steps = steps } }

head_with : (d : Data) (saved : Saved) (steps : List Step) → TellsHead d saved → TellsHead d (with_steps saved steps)
head_with d saved steps tells = record { form = tells.form; counts = record { pes = tells.counts.pes; lrs = tells.counts.lrs; done = tells.counts.done; reads = tells.counts.reads }; on_pe = tells.on_pe; guests = tells.guests }

run_with : (n : ℕ) (saved : Saved) (steps : List Step) → IsValidRun n saved → IsValidRun n (with_steps saved steps)
run_with n saved steps valid =
    record {
      some_pe = valid.some_pe;
      pes = valid.pes;
      some_list_register = valid.some_list_register;
      list_registers = valid.list_registers;
      some_guest = valid.some_guest;
      guests = valid.guests;
      each_guest = valid.each_guest;
      each_pe = valid.each_pe;
      residents = valid.residents;
      once = valid.once;
      states = valid.states;
      reads = valid.reads;
      steps = valid.steps;
    }

-- its steps, where they have no fault
pub image_is : (d : Data) (saved : Saved) (standing : Standing) (ds : List Data) (steps : List Step) → IsTold d saved → standing ≡ standing_of saved → ds ≡ steps_at d → steps_of Schedule standing (saved.done + 1) ds ≡ Ok steps → IsImage d (with_steps saved steps)
image_is d saved standing ds steps told stands are e =
    let read : steps_of Schedule (standing_of saved) (saved.done + 1) (steps_at d) ≡ Ok steps = subst (λ xs. steps_of Schedule (standing_of saved) (saved.done + 1) xs ≡ Ok steps) are (subst (λ s. steps_of Schedule s (saved.done + 1) ds ≡ Ok steps) stands e) in
    let all = are_read (standing_of saved) (saved.done + 1) (steps_at d) steps read in
    let good = no_fault_good Schedule (standing_of saved) saved.scenario.pes steps told.valid.each_pe all.clean in
    record {
      shape = told.shape;
      head = head_told d (with_steps saved steps) (head_with d saved steps (told_head_of d saved told.head));
      valid = record { run = subst (λ n. IsValidRun n (with_steps saved steps)) (sym all.many) (run_with (length (steps_at d)) saved steps told.valid); each_step = good.0; in_turn = good.1 };
      steps = read;
    }

-- or their fault
pub steps_refused : (d : Data) (saved : Saved) (standing : Standing) (ds : List Data) (refusal : ReadRefusal) → IsTold d saved → standing ≡ standing_of saved → ds ≡ steps_at d → RefusesSteps (steps_of Schedule standing (saved.done + 1) ds) refusal → Refuses d refusal
steps_refused d saved standing ds (Bad fault) told stands are e =
    of_steps saved fault told.shape told.head told.valid (subst (λ xs. steps_of Schedule (standing_of saved) (saved.done + 1) xs ≡ Err fault) are (subst (λ s. steps_of Schedule s (saved.done + 1) ds ≡ Err fault) stands e))
steps_refused d saved standing ds NoMemory told stands are e = tt

-- ---- of an image nothing else is read

-- its steps are read where it tells them
steps_are : (d : Data) (saved found : Saved) (standing : Standing) (ds : List Data) → IsImage d saved → found ≡ without_steps saved → standing ≡ standing_of found → ds ≡ steps_at d → steps_of Schedule standing (found.done + 1) ds ≡ Ok saved.scenario.steps
steps_are d saved found standing ds image same stands are =
    ap (λ s. steps_of Schedule s (found.done + 1) ds) (stands ∙ ap standing_of same) ∙ ap (λ (r : Saved). steps_of Schedule (standing_of saved) (r.done + 1) ds) same ∙ ap (λ xs. steps_of Schedule (standing_of saved) (saved.done + 1) xs) are ∙ image.steps

not_ok : (steps : List Step) (fault : Fault) (r : Result (List Step) Fault) → r ≡ Ok steps → r ≡ Err fault → ⊥
not_ok steps fault r e f = none-some steps (sym (ap result_ok f) ∙ ap result_ok e)

pub only_memory : (d : Data) (saved found : Saved) (standing : Standing) (ds : List Data) (refusal : ReadRefusal) → IsImage d saved → found ≡ without_steps saved → standing ≡ standing_of found → ds ≡ steps_at d → RefusesSteps (steps_of Schedule standing (found.done + 1) ds) refusal
    → refusal ≡ NoMemory
only_memory d saved found standing ds (Bad fault) image same stands are e = absurd (not_ok saved.scenario.steps fault (steps_of Schedule standing (found.done + 1) ds) (steps_are d saved found standing ds image same stands are) e)
only_memory d saved found standing ds NoMemory image same stands are e = refl

pub only_run : (d : Data) (saved found : Saved) (standing : Standing) (ds : List Data) (steps : List Step) → IsImage d saved → found ≡ without_steps saved → standing ≡ standing_of found → ds ≡ steps_at d → steps_of Schedule standing (found.done + 1) ds ≡ Ok steps → with_steps found steps ≡ saved
only_run d saved found standing ds steps image same stands are e =
    ap (λ r. with_steps r steps) same ∙ ap (with_steps saved) (same_Ok steps saved.scenario.steps (steps_of Schedule standing (found.done + 1) ds) e (steps_are d saved found standing ds image same stands are))

-- ---- an image has no fault

pub no_fault : (d : Data) (found : Saved) (standing : Standing) (ds : List Data) (steps : List Step) (fault : Fault) → IsTold d found → ((saved : Saved) → IsTold d saved → found ≡ without_steps saved) → standing ≡ standing_of found → ds ≡ steps_at d
    → steps_of Schedule standing (found.done + 1) ds ≡ Ok steps → IsNoImage d fault → ⊥
no_fault d found standing ds steps fault told only stands are e (of_no_shape none) = none-shaped told.shape none
  where
    none-shaped : {b : Bool} → b ≡ true → b ≡ false → ⊥
    none-shaped is is-not = absurd (cc)
no_fault d found standing ds steps fault told only stands are e (not_valid shape none) = none found told.head told.valid
no_fault d found standing ds steps fault told only stands are e (of_steps saved wrong shape head valid refused) =
    let same = only saved (record { shape = shape; head = head; valid = valid }) in
    let read : steps_of Schedule (standing_of saved) (saved.done + 1) (steps_at d) ≡ Ok steps = sym (ap (λ s. steps_of Schedule s (found.done + 1) ds) (stands ∙ ap standing_of same) ∙ ap (λ (r : Saved). steps_of Schedule (standing_of saved) (r.done + 1) ds) same ∙ ap (λ xs. steps_of Schedule (standing_of saved) (saved.done + 1) xs) are) ∙ e in
    not_ok steps wrong (steps_of Schedule (standing_of saved) (saved.done + 1) (steps_at d)) read refused
