use Rattle.std.specs.Prelude.{◌≡◌, ℕ, ◌≤◌, List, ◌++◌, length, IfSome, IsSomeAnd}
use Rattle.std.specs.declared.option.Option.{Option}

-- where a source told the bytes that it had left, they were `part`, and then those that it now tells
pub record HasRead (old new : Option (List ℕ)) (part : List ℕ) : Type 0 where
  pub told : IfSome old (λ all. IsSomeAnd new (λ rest. all ≡ part ++ rest))

-- as `HasRead`, of `count` bytes
pub record HasReadCount (old new : Option (List ℕ)) (count : ℕ) : Type 0 where
  pub part : List ℕ
  pub counted : length part ≡ count
  pub read : HasRead old new part

-- as `HasRead`, of at most `most` bytes
pub record HasReadAtMost (old new : Option (List ℕ)) (most : ℕ) : Type 0 where
  pub part : List ℕ
  pub within : length part ≤ most
  pub read : HasRead old new part
