-- What stands at each number of a range, and at one more.
use Rattle.std.proofs.Common.{◌≡◌, ℕ, ◌+◌, List, [], ◌∷◌, ◌++◌, arith, map}
use Rattle.std.specs.List.{range_with_len}
use Rattle.std.proofs.lemmas.List.FromFn.{map-range_with_len_more}

-- a list of what stands at each number so far, with what stands at the next one pushed
pub map_pushed : {X : Type 0} (f : ℕ → X) (n : ℕ) (old new : List X) (x : X) → old ≡ map f (range_with_len 0 n) → new ≡ old ++ x ∷ [] → x ≡ f n → new ≡ map f (range_with_len 0 (n + 1))
map_pushed f n old new x so_far pushed here = let more = map-range_with_len_more f 0 n n (omega arith) in cc
