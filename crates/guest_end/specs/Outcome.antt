-- What a step answers (own choice).
use Rattle.std.specs.Prelude.{ℕ, Option, Some, None}
use Rattle.port_core.specs.GicGuest.declared.outcome.Answer.{Answer}
use Rattle.port_core.specs.Calls.{Value}
use Rattle.port_core.specs.GicGuest.declared.outcome.Answer.TheVariants.{Nothing}

-- what a step answers that read a value, or read nothing
abbrev pub answer_by : Option ℕ → Answer
answer_by (Some value) = Value value
answer_by None = Nothing
