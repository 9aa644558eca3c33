-- The lists that list registers are shown in: a run has all of them before its first step (own choice).
use Rattle.std.specs.Prelude.{◌≡◌, ℕ, ◌+◌, Bool, true, false, if◌then◌else◌, IsTrue, All, List, [], ◌∷◌, length, Option, Some, None}
use Rattle.std.specs.declared.vec.Vec.{Vec}
use Rattle.law_ends_agree.specs.Words.{Lrs}
use Rattle.law_ends_agree.specs.ScnBase.declared.step.Step.{Step}
use Rattle.law_ends_agree.specs.ScnBase.declared.step.Step.TheVariants.{Pe}
use Rattle.law_one_thread_is_eager.specs.PePlace.Place.{IsRoom}

-- the step shows the list registers of a PE
abbrev pub is_shown : Step → Bool
is_shown (Pe pe Lrs) = true
is_shown step = false

-- how many steps do
abbrev pub shown_among : List Step → ℕ
shown_among [] = 0
shown_among (step ∷ steps) = (if is_shown step then 1 else 0) + shown_among steps

-- there is a list for what a step shows
abbrev pub IsSomeRoom : {Z : Type 0} → Option (Vec ℕ Z) → Type 0
IsSomeRoom None = ⊥
IsSomeRoom (Some list) = IsRoom list

abbrev pub HasRoomFor : {Z : Type 0} → Step → Option (Vec ℕ Z) → Type 0
HasRoomFor step room = IsTrue (is_shown step) → IsSomeRoom room

-- there are lists for what some steps show
pub record RoomsFor {Z : Type 0} (steps : List Step) (rooms : List (Vec ℕ Z)) : Type 0 where
  pub each : All IsRoom rooms
  pub count : length rooms ≡ shown_among steps
