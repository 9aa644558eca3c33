-- Sets of numbers as bits: bit n is 1 where n is in the set.
use Rattle.std.specs.Prelude.{ℕ, zero, suc, ◌+◌, ◌^◌, Bool, if◌then◌else◌}

-- the set of the numbers below a limit that are so
abbrev pub set_of : (ℕ → Bool) → ℕ → ℕ
set_of is_so zero = 0
set_of is_so (suc n) = set_of is_so n + (if is_so n then 2 ^ n else 0)
