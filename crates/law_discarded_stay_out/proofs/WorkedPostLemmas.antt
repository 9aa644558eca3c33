-- The worked post: its raise is the only one of its steps, so it is known what the device had then.
use Rattle.std.proofs.Common.{◌≡◌, ℕ, List, [], ◌∷◌, ◌++◌, take, drop, Some, None, slice_index_or, refl, sym, ap, subst, ◌∙◌, arith}
use Rattle.std.proofs.lemmas.Option.{none-some, same_Some}
use Rattle.law_lines_translate.specs.Words.{Lpi, Msi}
use Rattle.law_lines_translate.specs.Calls.{Device}
use Rattle.law_lines_translate.specs.Core.{CoreStep, Entered, Made, MakesPost, Raise, seen_after}
use Rattle.law_discarded_stay_out.specs.Worked.{post}
use Rattle.law_discarded_stay_out.specs.WorkedPost.{WorkedPost, left_early, seen_before, steps_of}

makes_it : MakesPost seen_before (steps_of post) (Device (Msi 8 3)) None
makes_it = record {
  entered = record { line = 59; pair = (8, 3); lpi = 8195 };
  early = take 2 (steps_of post);
  raise = slice_index_or (steps_of post) 2 (record { step = Raise (Lpi 8195); found = 0; left = 0; tables = None });
  late = drop 3 (steps_of post);
  split = refl;
  inside = refl;
  raises = refl;
  message = refl;
  before = refl;
  after = refl;
  answers = refl;
}

step_at : ℕ → Made → List Made → CoreStep
step_at k d list = (slice_index_or list k d).step

-- what comes before the raise
module _ (raise : Made) (late : List Made) (id : ℕ) (raises : raise.step ≡ Raise (Lpi id)) where
  before_post : (early : List Made) → steps_of post ≡ early ++ raise ∷ late → early ≡ take 2 (steps_of post)
  unfolding step_at
  before_post [] split = let e = ap (step_at 0 raise) split ∙ raises in absurd (cc)
  before_post (a ∷ []) split = let e = ap (step_at 1 raise) split ∙ raises in absurd (cc)
  before_post (a ∷ b ∷ []) split = sym (ap (take 2) split)
  before_post (a ∷ b ∷ c ∷ []) split = let e = ap (step_at 3 raise) split ∙ raises in absurd (cc)
  before_post (a ∷ b ∷ c ∷ d ∷ []) split = let e = ap (step_at 4 raise) split ∙ raises in absurd (cc)
  before_post (a ∷ b ∷ c ∷ d ∷ f ∷ []) split = let e = ap (step_at 5 raise) split ∙ raises in absurd (cc)
  before_post (a ∷ b ∷ c ∷ d ∷ f ∷ g ∷ early) split = absurd (too_long early (ap (drop 6) split))
    where
      too_long : (early : List Made) → [] ≡ early ++ raise ∷ late → ⊥
      too_long [] e = cc
      too_long (x ∷ early) e = cc

  before_early : (early : List Made) → steps_of left_early ≡ early ++ raise ∷ late → early ≡ take 3 (steps_of left_early)
  unfolding step_at
  before_early [] split = let e = ap (step_at 0 raise) split ∙ raises in absurd (cc)
  before_early (a ∷ []) split = let e = ap (step_at 1 raise) split ∙ raises in absurd (cc)
  before_early (a ∷ b ∷ []) split = let e = ap (step_at 2 raise) split ∙ raises in absurd (cc)
  before_early (a ∷ b ∷ c ∷ []) split = sym (ap (take 3) split)
  before_early (a ∷ b ∷ c ∷ d ∷ []) split = let e = ap (step_at 4 raise) split ∙ raises in absurd (cc)
  before_early (a ∷ b ∷ c ∷ d ∷ f ∷ []) split = let e = ap (step_at 5 raise) split ∙ raises in absurd (cc)
  before_early (a ∷ b ∷ c ∷ d ∷ f ∷ g ∷ early) split = absurd (too_long early (ap (drop 6) split))
    where
      too_long : (early : List Made) → [] ≡ early ++ raise ∷ late → ⊥
      too_long [] e = cc
      too_long (x ∷ early) e = cc

-- the EventID of a message's operation
event_is : (device event d e : ℕ) → Device (Msi device event) ≡ Device (Msi d e) → event ≡ e
event_is device event d e same = cc

not_other : MakesPost seen_before (steps_of post) (Device (Msi 8 67)) None → ⊥
not_other it =
    let inside : (seen_after seen_before (take 2 (steps_of post))).local.line ≡ Some it.entered = subst (λ early. (seen_after seen_before early).local.line ≡ Some it.entered) (before_post it.raise it.late it.entered.lpi it.raises it.early it.split) it.inside in
    let same : 3 ≡ it.entered.pair.1 = ap (λ (entered : Entered). entered.pair.1) (same_Some (record { line = 59; pair = (8, 3); lpi = 8195 }) it.entered inside) in
    let event : 67 ≡ it.entered.pair.1 = event_is 8 67 it.entered.pair.0 it.entered.pair.1 it.message in
    omega (arith, same, event)

not_early : MakesPost seen_before (steps_of left_early) (Device (Msi 8 3)) None → ⊥
not_early it = none-some it.entered (subst (λ early. (seen_after seen_before early).local.line ≡ Some it.entered) (before_early it.raise it.late it.entered.lpi it.raises it.early it.split) it.inside)

pub worked_post : WorkedPost
worked_post = record { makes = makes_it; other = not_other; early = not_early }
