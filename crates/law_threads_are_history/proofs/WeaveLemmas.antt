-- The acts of an actor, with its steps among them, and those of its parts.
use Rattle.std.proofs.Common.{◌≡◌, ℕ, true, false, IsTrue, All, List, [], ◌∷◌, ◌++◌, map, Option, None, refl, sym, ap, ◌∙◌}
use Rattle.std.specs.List.{filter_map}
use Rattle.std.proofs.lemmas.Bool.{and_from}
use Rattle.std.proofs.lemmas.List.Elements.{All-head, All-tail, filter_map-append}
use Rattle.law_ends_agree.specs.Words.{GuestShape}
use Rattle.law_ends_agree.specs.Core.{Made, Act, begins, makes, ends, are_parts, has_registers, step_of}
use Rattle.pe_place.specs.Parts.{Part, acts_in, acts_of, steps_in}

-- The steps among acts.

abbrev pub steps_of : List Act → List Made
steps_of acts = filter_map step_of acts

-- the acts before the first step, and those after it
abbrev pub early_of : List Act → List Act
early_of [] = []
early_of (begins operation lrs ∷ acts) = begins operation lrs ∷ early_of acts
early_of (makes made ∷ acts) = []
early_of (ends answer ∷ acts) = ends answer ∷ early_of acts

abbrev pub late_of : List Act → List Act
late_of [] = []
late_of (begins operation lrs ∷ acts) = late_of acts
late_of (makes made ∷ acts) = acts
late_of (ends answer ∷ acts) = late_of acts

-- the first step of some acts, and what is before and after it
pub record IsSplit (acts : List Act) (made : Made) (later : List Made) : Type 0 where
  pub whole : acts ≡ early_of acts ++ makes made ∷ late_of acts
  pub early : steps_of (early_of acts ++ makes made ∷ []) ≡ made ∷ []
  pub late : steps_of (late_of acts) ≡ later

same_head : (one two : Made) (first next : List Made) → one ∷ first ≡ two ∷ next → one ≡ two
same_head one two first next e = cc

same_tail : (one two : Made) (first next : List Made) → one ∷ first ≡ two ∷ next → first ≡ next
same_tail one two first next e = cc

split_more : (act : Act) (acts : List Act) (made : Made) (later : List Made) → step_of act ≡ None → early_of (act ∷ acts) ≡ act ∷ early_of acts → late_of (act ∷ acts) ≡ late_of acts → IsSplit acts made later → IsSplit (act ∷ acts) made later
split_more act acts made later none early late is = record {
  whole = ap (λ xs. act ∷ xs) is.whole ∙ sym (ap (λ xs. xs ++ makes made ∷ late_of (act ∷ acts)) early ∙ ap (λ xs. act ∷ (early_of acts ++ makes made ∷ xs)) late);
  early = ap (λ xs. steps_of (xs ++ makes made ∷ [])) early ∙ passed none ∙ is.early;
  late = ap steps_of late ∙ is.late;
}
  where
    passed : step_of act ≡ None → steps_of (act ∷ (early_of acts ++ makes made ∷ [])) ≡ steps_of (early_of acts ++ makes made ∷ [])
    passed e = rw e refl

pub split_at : (acts : List Act) (made : Made) (later : List Made) → steps_of acts ≡ made ∷ later → IsSplit acts made later
split_at [] made later e = absurd (cc)
split_at (begins operation lrs ∷ acts) made later e = split_more (begins operation lrs) acts made later refl refl refl (split_at acts made later e)
split_at (makes first ∷ acts) made later e = record {
  whole = ap (λ one. makes one ∷ acts) (same_head first made (steps_of acts) later e);
  early = refl;
  late = same_tail first made (steps_of acts) later e;
}
split_at (ends answer ∷ acts) made later e = split_more (ends answer) acts made later refl refl refl (split_at acts made later e)

-- The acts of parts.

steps_both : (one two : List Act) → steps_of (one ++ two) ≡ steps_of one ++ steps_of two
steps_both one two = filter_map-append step_of one two

made_steps : (steps : List Made) (answer : Option ℕ) → steps_of (map makes steps ++ ends answer ∷ []) ≡ steps
made_steps [] answer = refl
made_steps (made ∷ steps) answer = ap (λ xs. made ∷ xs) (made_steps steps answer)

-- the steps among them are those of the parts
pub steps_are : (parts : List Part) → steps_of (acts_in parts) ≡ steps_in parts
steps_are [] = refl
steps_are (part ∷ parts) =
    steps_both (acts_of part) (acts_in parts) ∙ ap (λ xs. xs ++ steps_of (acts_in parts)) (made_steps part.steps part.answer) ∙ ap (λ xs. part.steps ++ xs) (steps_are parts)

module _ (shape : GuestShape) (actor : ℕ) where
  within : (steps : List Made) (answer : Option ℕ) (rest : List Act) → are_parts shape actor true ((map makes steps ++ ends answer ∷ []) ++ rest) ≡ are_parts shape actor false rest
  within [] answer rest = refl
  within (made ∷ steps) answer rest = within steps answer rest

  -- they stand one after the other
  pub are_parts_in : (parts : List Part) → All (λ (part : Part). IsTrue (has_registers shape actor part.lrs)) parts → IsTrue (are_parts shape actor false (acts_in parts))
  are_parts_in [] all = refl
  are_parts_in (part ∷ parts) all =
      and_from (has_registers shape actor part.lrs) (are_parts shape actor true ((map makes part.steps ++ ends part.answer ∷ []) ++ acts_in parts))
      (All-head (λ (part : Part). IsTrue (has_registers shape actor part.lrs)) part parts all)
      (within part.steps part.answer (acts_in parts) ∙ are_parts_in parts (All-tail (λ (part : Part). IsTrue (has_registers shape actor part.lrs)) part parts all))
