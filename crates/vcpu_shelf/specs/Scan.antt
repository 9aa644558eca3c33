-- One scan of the owner words: what it found at each place, in rising order, which steps that are, and what it comes to.
use Rattle.std.specs.Prelude.{◌≡◌, ◌≢◌, ℕ, ◌+◌, zero, suc, Bool, true, false, IsTrue, All, List, [], ◌∷◌, ◌++◌, if◌then◌else◌, Option, Some, None}
use Rattle.vcpu_shelf.specs.declared.view.Deed.{Deed}
use Rattle.vcpu_shelf.specs.declared.view.Deed.TheVariants.{Looked, Tried}
use Rattle.vcpu_shelf.specs.Word.{is_free, is_taken, is_finished}

-- what was found at one place: its word says finished; it says taken; it says free, but the try found another word; or the try found it too
pub data Finding : Type 0 where
  FoundFinished : (word : ℕ) → Finding
  FoundTaken : (word : ℕ) → Finding
  Lost : (word : ℕ) (found : ℕ) → Finding
  Won : (word : ℕ) → Finding

-- a finding is what its words say
abbrev pub IsFinding : Finding → Type 0
IsFinding (FoundFinished word) = IsTrue (is_finished word)
IsFinding (FoundTaken word) = IsTrue (is_taken word)
IsFinding (Lost word found) = IsTrue (is_free word) × (found ≢ word)
IsFinding (Won word) = IsTrue (is_free word)

-- the steps of a finding: one look, and one try against the word found where that says free
abbrev pub deeds_at : ℕ → Finding → List Deed
deeds_at place (FoundFinished word) = Looked place word ∷ []
deeds_at place (FoundTaken word) = Looked place word ∷ []
deeds_at place (Lost word found) = Looked place word ∷ Tried place word found ∷ []
deeds_at place (Won word) = Looked place word ∷ Tried place word word ∷ []

-- the steps of the findings from a place on
abbrev pub deeds_from : ℕ → List Finding → List Deed
deeds_from place [] = []
deeds_from place (finding ∷ findings) = deeds_at place finding ++ deeds_from (place + 1) findings

-- there is one for each of so many places, in rising order, or as far as the first that was won
abbrev pub is_whole : ℕ → List Finding → Bool
is_whole zero [] = true
is_whole zero (finding ∷ findings) = false
is_whole (suc places) [] = false
is_whole (suc places) (Won word ∷ []) = true
is_whole (suc places) (Won word ∷ finding ∷ findings) = false
is_whole (suc places) (FoundFinished word ∷ findings) = is_whole places findings
is_whole (suc places) (FoundTaken word ∷ findings) = is_whole places findings
is_whole (suc places) (Lost word found ∷ findings) = is_whole places findings

-- what a scan comes to: the place that was won, with the word found there; or none was, and not all were found finished, or all
pub data Outcome : Type 0 where
  Got : (place : ℕ) (word : ℕ) → Outcome
  SomeLeft : Outcome
  NoneLeft : Outcome

-- the outcome of the findings from a place on, where all before were found finished, or not all
abbrev pub outcome_from : ℕ → Bool → List Finding → Outcome
outcome_from place all [] = if all then NoneLeft else SomeLeft
outcome_from place all (Won word ∷ findings) = Got place word
outcome_from place all (FoundFinished word ∷ findings) = outcome_from (place + 1) all findings
outcome_from place all (FoundTaken word ∷ findings) = outcome_from (place + 1) false findings
outcome_from place all (Lost word found ∷ findings) = outcome_from (place + 1) false findings

-- the outcome of a scan from the first place on
abbrev pub outcome : List Finding → Outcome
outcome findings = outcome_from 0 true findings

-- the place whose traveller is out after a scan
abbrev pub out_after : Outcome → Option ℕ
out_after (Got place word) = Some place
out_after SomeLeft = None
out_after NoneLeft = None

-- the findings are those of one scan of so many places
pub record IsScan (places : ℕ) (findings : List Finding) : Type 0 where
  pub each : All IsFinding findings
  pub whole : is_whole places findings ≡ true
