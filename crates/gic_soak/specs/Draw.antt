-- Numbers that look drawn by lot (own choice: a linear congruential generator, with the factor and the term of Knuth's for MMIX).
use Rattle.std.specs.Prelude.{ℕ, ◌+◌, ◌*◌, ◌/◌, ◌%◌, ◌^◌}

-- the state after a draw
abbrev pub state_after : ℕ → ℕ
state_after x = (x * 6364136223846793005 + 1442695040888963407) % 2 ^ 64

-- a number below m, drawn in the state x, and the state after it; the low bits of the state, which vary least, are left out
unfoldable pub draw : ℕ → ℕ → ℕ × ℕ
draw m x = ((state_after x / 2 ^ 33) % m, state_after x)
