-- Steps that were read have no fault, and are as many as there stood.
use Rattle.std.proofs.Common.{◌≡◌, ℕ, suc, ◌+◌, ◌&&◌, Bool, true, false, is_none, Option, Some, None, List, [], ◌∷◌, length, Result, Ok, Err, refl, sym, ap, subst, ◌∙◌}
use Rattle.serde_json.specs.Data.{Data}
use Rattle.std.proofs.lemmas.Option.{same_Some}
use Rattle.std.specs.Result.{result_ok}
use Rattle.scn_read.specs.Step.{step_said, judged, step_of}
use Rattle.scn_read.specs.Reading.{before_steps, step_and_rest, steps_of}
use Rattle.scn_read.specs.ScnBase.Codes.{ok_unless}
use Rattle.scn_read.specs.ScnBase.StepFault.{step_fault}
use Rattle.scn_read.specs.ScnBase.Standing.{standing_after}
use Rattle.scn_read.specs.ScnBase.declared.fault.Fault.{Fault}
use Rattle.scn_read.specs.ScnBase.declared.standing.Standing.{Standing}
use Rattle.scn_read.specs.ScnBase.declared.step.Step.{Step}
use Rattle.scn_read.specs.ScnBase.declared.step.Mode.TheVariants.{Schedule}
use Rattle.scn_base.proofs.StepLemmas.{have_no_fault}

pub same_Ok : {X E : Type 0} (x y : X) (r : Result X E) → r ≡ Ok x → r ≡ Ok y → x ≡ y
same_Ok x y r e f = same_Some x y (sym (ap result_ok e) ∙ ap result_ok f)

both : (a b : Bool) → a ≡ true → b ≡ true → (a && b) ≡ true
both true true e f = refl
both true false e f = absurd (cc)
both false b e f = absurd (cc)

clean_unless : (standing : Standing) (said step : Step) (fault : Option ℕ) → step_fault Schedule standing said ≡ fault → ok_unless fault said ≡ Ok step → is_none (step_fault Schedule standing step) ≡ true
clean_unless standing said step None none e = subst (λ s. is_none (step_fault Schedule standing s) ≡ true) (same_Ok said step (ok_unless None said) refl e) (ap is_none none)
clean_unless standing said step (Some code) is e = absurd (cc)

clean_of : (standing : Standing) (said : Result Step ℕ) (step : Step) → judged Schedule standing said ≡ Ok step → is_none (step_fault Schedule standing step) ≡ true
clean_of standing (Ok said) step e = clean_unless standing said step (step_fault Schedule standing said) refl e
clean_of standing (Err code) step e = absurd (cc)

pub record AreRead (standing : Standing) (ds : List Data) (read : List Step) : Type 0 where
  pub clean : have_no_fault Schedule standing read ≡ true
  pub many : length read ≡ length ds

after_step : (standing : Standing) (d : Data) (ds : List Data) (step : Step) (after : Result (List Step) Fault) (read : List Step) → is_none (step_fault Schedule standing step) ≡ true → ((more : List Step) → after ≡ Ok more → AreRead (standing_after step standing) ds more)
    → before_steps step after ≡ Ok read → AreRead standing (d ∷ ds) read
after_step standing d ds step (Ok more) read clean rest e =
    let further = rest more refl in
    let whole : AreRead standing (d ∷ ds) (step ∷ more) = record { clean = both (is_none (step_fault Schedule standing step)) (have_no_fault Schedule (standing_after step standing) more) clean further.clean; many = ap suc further.many } in
    subst (AreRead standing (d ∷ ds)) (same_Ok (step ∷ more) read (before_steps step (Ok more)) refl e) whole
after_step standing d ds step (Err fault) read clean rest e = absurd (cc)

one_step : (standing : Standing) (number : ℕ) (d : Data) (ds : List Data) (first : Result Step ℕ) (read : List Step) → step_of Schedule standing d ≡ first
    → ((step : Step) (more : List Step) → steps_of Schedule (standing_after step standing) (number + 1) ds ≡ Ok more → AreRead (standing_after step standing) ds more)
    → step_and_rest number first (λ step. steps_of Schedule (standing_after step standing) (number + 1) ds) ≡ Ok read → AreRead standing (d ∷ ds) read
one_step standing number d ds (Ok step) read is rest e =
    after_step standing d ds step (steps_of Schedule (standing_after step standing) (number + 1) ds) read (clean_of standing (step_said d) step is) (rest step) e
one_step standing number d ds (Err code) read is rest e = absurd (cc)

pub are_read : (standing : Standing) (number : ℕ) (ds : List Data) (read : List Step) → steps_of Schedule standing number ds ≡ Ok read → AreRead standing ds read
are_read standing number [] read e = subst (AreRead standing []) (same_Ok [] read (steps_of Schedule standing number []) refl e) (record { clean = refl; many = refl })
are_read standing number (d ∷ ds) read e =
    one_step standing number d ds (step_of Schedule standing d) read refl (λ step more f. are_read (standing_after step standing) (number + 1) ds more f) e
