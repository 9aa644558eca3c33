use Rattle.std.specs.Prelude.{◌≡◌, ℕ, ◌≤◌, List, ◌++◌, length, take, IfSome, IsSomeAnd}
use Rattle.std.specs.declared.option.Option.{Option}

-- where a sink tells the bytes that it has taken, it told them before, and `part` was added at their end
pub record Grew (old new : Option (List ℕ)) (part : List ℕ) : Type 0 where
  pub told : IfSome new (λ after. IsSomeAnd old (λ before. after ≡ before ++ part))

-- as `Grew`, by some first bytes of `text`
pub record GrewByPrefix (old new : Option (List ℕ)) (text : List ℕ) : Type 0 where
  pub count : ℕ
  pub within : count ≤ length text
  pub grew : Grew old new (take count text)
