-- The first of some bits (own choice of a search).
use Rattle.std.specs.Prelude.{◌≡◌, ℕ, ◌+◌, ◌*◌, ◌≤◌, ◌<◌, Bool, true, false, Option, Some, None}
use Rattle.port_call.specs.Core.{Cands, is_cand}

-- a bit is the first from another on that passes a test
pub record IsFirstFrom (test : ℕ → Bool) (from bit : ℕ) : Type 0 where
  pub above : from ≤ bit
  pub passes : test bit ≡ true
  pub before : (i : ℕ) → from ≤ i → i < bit → test i ≡ false

-- the first from one on and below another, if there is one
abbrev pub IsFirstBelow : (ℕ → Bool) → ℕ → ℕ → Option ℕ → Type 0
IsFirstBelow test from end (Some bit) = (bit < end) × IsFirstFrom test from bit
IsFirstBelow test from end None = (i : ℕ) → from ≤ i → i < end → test i ≡ false

-- there is no candidate from a bit on
abbrev pub EndsBefore : ℕ → Cands → Type 0
EndsBefore end cands = (i : ℕ) → end ≤ i → i < 6144 → is_cand cands i ≡ false

-- a search came to a bit of a word, and found none before
pub record NoneBefore (cands : Cands) (from word low : ℕ) : Type 0 where
  pub start : from ≤ 64 * word + low
  pub small : low < 64
  pub none : (i : ℕ) → from ≤ i → i < 64 * word + low → is_cand cands i ≡ false
