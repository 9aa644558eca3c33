-- The line of a generated scenario's run (own choice).
use Rattle.std.specs.Prelude.{ℕ, ◌+◌, ◌*◌, ◌%◌, ◌^◌, ◌==◌, List, [], ◌∷◌, ◌++◌, length, count_by, Bool, true, false, codes, decimal}
use Rattle.gic_soak.specs.GicGuest.declared.outcome.Answer.{Answer}
use Rattle.gic_soak.specs.GicGuest.declared.outcome.Answer.TheVariants.{Nothing, Value, Regs}
use Rattle.gic_report.specs.Text.{hex, newline}

-- the step read a value
abbrev pub is_value : Answer → Bool
is_value Nothing = false
is_value (Value value) = true
is_value (Regs values) = false

-- the step read 1023, with which an acknowledge says that there is no interrupt (IHI 0069, "INTIDs")
abbrev pub is_spurious : Answer → Bool
is_spurious Nothing = false
is_spurious (Value value) = value == 1023
is_spurious (Regs values) = false

-- the number of a step times the value that it read
abbrev pub weight : ℕ → Answer → ℕ
weight step Nothing = 0
weight step (Value value) = step * value
weight step (Regs values) = 0

-- the sum of them, of steps the first of which has this number
abbrev pub weight_from : ℕ → List Answer → ℕ
weight_from step [] = 0
weight_from step (answer ∷ answers) = weight step answer + weight_from (step + 1) answers

-- the line of a generated scenario's run, of its number and its answers: how many steps there are, how many of them read, how many read 1023, and the sum modulo 2^64
abbrev pub soak_line : ℕ → List Answer → List ℕ
soak_line number answers =
    codes "soak " ++ decimal number ++ codes " " ++ decimal (length answers) ++ (codes " reads=" ++ decimal (count_by is_value answers))
    ++ (codes " spurious=" ++ decimal (count_by is_spurious answers)) ++ (codes " sum=0x" ++ hex 16 (weight_from 1 answers % 2 ^ 64)) ++ newline
