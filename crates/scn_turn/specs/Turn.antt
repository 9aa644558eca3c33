-- Steps of any kind that are read one after the other (own choice: the first fault counts).
use Rattle.std.specs.Prelude.{ℕ, List, ◌∷◌, Result, Ok, Err}
use Rattle.scn_base.specs.declared.fault.Fault.{Fault}

-- a step before others, if none of them has a fault
abbrev pub before_steps : {X : Type 0} → X → Result (List X) Fault → Result (List X) Fault
before_steps step (Ok steps) = Ok (step ∷ steps)
before_steps step (Err fault) = Err fault

-- a step of this number and those that follow it, or the first fault of them
abbrev pub step_and_rest : {X : Type 0} → ℕ → Result X ℕ → (X → Result (List X) Fault) → Result (List X) Fault
step_and_rest number (Err code) rest = Err (record { code = code; step = number })
step_and_rest number (Ok step) rest = before_steps step (rest step)
