-- Where a key stands among pairs in the order of their keys.
use Rattle.std.specs.Prelude.{ℕ, suc, List, [], ◌∷◌, Result, Ok, Err}
use Rattle.std.specs.declared.cmp.Ordering.{Ordering}
use Rattle.std.specs.Ordering.{match_ordering}

-- one place further
abbrev pub further : Result ℕ ℕ → Result ℕ ℕ
further (Ok at) = Ok (suc at)
further (Err at) = Err (suc at)

-- where the first key is to which a query compares as equal, if it is greater than all before; else where the first is that it is less than
abbrev pub place_of : {K X : Type 0} → (K → Ordering) → List (K × X) → Result ℕ ℕ
place_of compare [] = Err 0
place_of compare (pair ∷ pairs) = match_ordering (compare pair.0) (Err 0) (Ok 0) (further (place_of compare pairs))
