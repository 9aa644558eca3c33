-- The steps of a vCPU that enters (own choice).
use Rattle.std.specs.Prelude.{◌≡◌, ℕ, ◌==◌, Bool, true, false, IsTrue, List, [], ◌∷◌, ◌++◌, if◌then◌else◌, None}
use Rattle.std.specs.List.{list_all}
use Rattle.port_call.specs.Core.{Made, CoreStep, Look, Claim, Poll, Kick, Mark, TakeIndex, Irq}
use Rattle.port_call.specs.Piece.{steps_of}

-- a step takes a word of the index, or looks at an interrupt
abbrev pub is_search : CoreStep → Bool
is_search (TakeIndex word) = true
is_search (Look (Irq key)) = true
is_search step = false

-- it claims an interrupt, or takes its causes
abbrev pub is_claim : CoreStep → Bool
is_claim (Claim key seen) = true
is_claim step = false

-- it marks one
abbrev pub is_mark : CoreStep → Bool
is_mark (Mark key vcpu) = true
is_mark step = false

-- each of some steps is such
abbrev pub all_are : (CoreStep → Bool) → List Made → Bool
all_are test part = list_all (λ made. test made.step) part

-- a claim found the word that it expects; each among some steps did
abbrev pub is_hit : CoreStep → ℕ → Bool
is_hit (Claim key seen) found = found == seen
is_hit step found = true

abbrev pub all_hit : List Made → Bool
all_hit part = list_all (λ made. is_hit made.step made.found) part

-- the steps of an entry: a look for a kick; words of the index and looks at interrupts; claims; marks of what is left; and a kick of the vCPU itself, exactly where
-- a claim found another word than it expects
pub record IsEntryPart (vcpu : ℕ) (part : List Made) : Type 0 where
  pub look : Made
  pub search : List Made
  pub claims : List Made
  pub marks : List Made
  pub kick : List Made
  pub part_is : part ≡ look ∷ search ++ claims ++ marks ++ kick
  pub look_is : look.step ≡ Poll None None
  pub search_is : IsTrue (all_are is_search search)
  pub claims_are : IsTrue (all_are is_claim claims)
  pub marks_are : IsTrue (all_are is_mark marks)
  pub kick_is : steps_of kick ≡ (if all_hit claims then [] else Kick vcpu ∷ [])
