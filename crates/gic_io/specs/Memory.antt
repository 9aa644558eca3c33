use Rattle.std.specs.Prelude.{ℕ, List, Contains}
use Rattle.gic_io.specs.Faults.{one_more}

-- what a source or a sink in memory does at its calls
pub record Script : Type 0 where
  -- the numbers, from 1, of the calls that fail
  pub fails : List ℕ
  -- the most bytes of one call
  pub cut : ℕ
  -- how many calls there were; at the greatest `u64` it stands still
  pub calls : ℕ

-- the script once a call more has begun
abbrev pub after_call : Script → Script
after_call script = record script { calls = one_more script.calls }

-- the call that has begun last is one that fails
abbrev pub IsFailing : Script → Type 0
IsFailing script = Contains script.fails script.calls
