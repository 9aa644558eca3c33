-- The steps that were read, and those that are left.
use Rattle.std.proofs.Common.{◌≡◌, List, [], ◌∷◌, ◌++◌, Result, Ok, Err, append_assoc, refl}
use Rattle.scn_base.specs.declared.fault.Fault.{Fault}
use Rattle.scn_turn.specs.Turn.{before_steps}

-- the steps that were read and those that are left, or the first fault of these
abbrev pub all_steps : {X : Type 0} → List X → Result (List X) Fault → Result (List X) Fault
all_steps done (Ok rest) = Ok (done ++ rest)
all_steps done (Err fault) = Err fault

pub all_steps-step : {X : Type 0} (done : List X) (step : X) (rest : Result (List X) Fault) → all_steps done (before_steps step rest) ≡ all_steps (done ++ step ∷ []) rest
all_steps-step done step (Ok rest) = rw append_assoc
all_steps-step done step (Err fault) = refl
