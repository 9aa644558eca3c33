-- The steps that were read, and those that are left.
use Rattle.std.proofs.Common.{◌≡◌, ℕ, ◌+◌, ◌<◌, List, [], ◌∷◌, ◌++◌, length, get_or, drop, map, Result, Ok, Err, append_assoc, refl, subst, arith}
use Rattle.serde_json.specs.Data.{Data}
use Rattle.scn_base.specs.declared.step.Step.{Step}
use Rattle.scn_base.specs.declared.step.Mode.{Mode}
use Rattle.scn_base.specs.declared.fault.Fault.{Fault}
use Rattle.scn_base.specs.declared.standing.Standing.{Standing}
use Rattle.scn_base.specs.Standing.{standing_after}
pub use Rattle.scn_turn.proofs.TurnLemmas.{all_steps, all_steps-step}
use Rattle.scn_read.specs.Step.{step_of}
use Rattle.scn_read.specs.Reading.{before_steps, steps_of}
use Rattle.scn_read.proofs.ListLemmas.{drop_item}

-- of values vs, from the one at i on, which is v
module _ {V : Type 0} (data_of : V → Data) (mode : Mode) (standing : Standing) (vs : List V) (done : List Step) (first i : ℕ) (v : V) (within : i < length vs) (is : v ≡ get_or vs i v)
    (whole : Result (List Step) Fault) (so_far : all_steps done (steps_of mode standing (first + i) (map data_of (drop i vs))) ≡ whole) where
  -- it is a step
  pub steps_more : (step : Step) → step_of mode standing (data_of v) ≡ Ok step
      → all_steps (done ++ step ∷ []) (steps_of mode (standing_after step standing) (first + (i + 1)) (map data_of (drop (i + 1) vs))) ≡ whole
  steps_more step e =
      let at_it = rw (drop_item vs i v within is, e) at so_far in
      let number : first + i + 1 ≡ first + (i + 1) = omega arith in
      subst (λ n. all_steps (done ++ step ∷ []) (steps_of mode (standing_after step standing) n (map data_of (drop (i + 1) vs))) ≡ whole) number
      (rw (← all_steps-step done step (steps_of mode (standing_after step standing) (first + i + 1) (map data_of (drop (i + 1) vs)))) at_it)
