-- A step that an actor makes of a valid word.
use Rattle.std.proofs.Common.{◌≡◌, ℕ, ◌<◌, ◌&&◌, Bool, true, false, cond, IsTrue, List, refl}
use Rattle.core_words.specs.Words.{GuestShape, IsShape}
use Rattle.port_core.specs.declared.local.Local.{Local}
use Rattle.port_core.specs.declared.run.Made.{Made}
use Rattle.port_core.specs.declared.step.CoreStep.{CoreStep}
use Rattle.port_core.specs.After.{local_done, local_after}
use Rattle.port_core.specs.Condition.{Meets}
use Rattle.port_core.specs.Effect.{succeeds, word_done, word_after}
use Rattle.port_core.specs.Actor.{actor_count}
use Rattle.port_core.specs.Step.{word_of, CanStep}
use Rattle.port_core.specs.Valid.{IsLocal, CanFind}
use Rattle.port_core.proofs.FrameLemmas.{Keeps}
use Rattle.port_core.proofs.StepTies.{keeps_all}

-- the actor can make the step, of a word that is valid and agrees with it
pub record IsMade (shape : GuestShape) (actor : ℕ) (local : Local) (own : List Made) (step : CoreStep) (found : ℕ) : Type 0 where
  pub good : IsShape shape
  pub there : actor < actor_count shape
  pub can : CanStep shape actor step
  pub meets : Meets shape actor local own step
  pub find : CanFind shape actor local (word_of shape actor step) found
  pub valid : IsLocal shape actor local

-- what the step keeps
abbrev pub StepKeeps : GuestShape → ℕ → Local → CoreStep → ℕ → Type 0
StepKeeps shape actor local step found = Keeps shape actor local (local_after shape actor local step found) (word_of shape actor step) found (word_after shape actor local step found)

-- a step that may fail keeps what it keeps where it does what it is for
pub keeps_tried :
    (shape : GuestShape) (actor : ℕ) (local : Local) (own : List Made) (step : CoreStep) (found : ℕ) → IsMade shape actor local own step found
    → (succeeds shape actor local step found ≡ true → Keeps shape actor local (local_done shape actor local step found) (word_of shape actor step) found (word_done shape actor local step found)) → StepKeeps shape actor local step found
keeps_tried shape actor local own step found made done = of (succeeds shape actor local step found) done
  where
    of : (b : Bool) → (b ≡ true → Keeps shape actor local (local_done shape actor local step found) (word_of shape actor step) found (word_done shape actor local step found))
        → Keeps shape actor local (cond b (local_done shape actor local step found) local) (word_of shape actor step) found (cond b (word_done shape actor local step found) found)
    of true done = done refl
    of false done = keeps_all shape actor local (word_of shape actor step) found made.find made.valid

pub all_three : (a b c : Bool) → IsTrue (a && b && c) → IsTrue a × IsTrue b × IsTrue c
all_three true true true h = (refl, refl, refl)
all_three true true false h = absurd (cc)
all_three true false c h = absurd (cc)
all_three false b c h = absurd (cc)
