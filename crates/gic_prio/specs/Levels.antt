-- Sets of the priority levels 0 to 31, as the active priorities registers have them: bit n is 1 where level n is active
-- (IHI 0069, ICC_AP0R<n>_EL1 and ICC_AP1R<n>_EL1).
use Rattle.std.specs.Prelude.{ℕ, ◌&&◌, ◌||◌, ◌==◌, not, unwrap_or, find}
use Rattle.std.specs.List.{range_with_len}
use Rattle.floor_words.specs.Words.{has_bit, set_of}

-- the least level of a set, or 32 where it has none
unfoldable pub least_in : ℕ → ℕ
least_in levels = unwrap_or (find (has_bit levels) (range_with_len 0 32)) 32

-- the set with one level more
unfoldable pub with_level : ℕ → ℕ → ℕ
with_level level levels = set_of (λ n. n == level || has_bit levels n) 32

-- the set without one level
unfoldable pub without_level : ℕ → ℕ → ℕ
without_level level levels = set_of (λ n. not (n == level) && has_bit levels n) 32
