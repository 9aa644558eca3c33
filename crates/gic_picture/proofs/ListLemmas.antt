-- Lists that grow by one.
use Rattle.std.proofs.Common.{◌≡◌, ℕ, ◌+◌, List, [], ◌∷◌, ◌++◌, map, sym, ap, ◌∙◌, append_assoc, arith}
use Rattle.std.specs.List.{range_with_len}
use Rattle.std.proofs.lemmas.List.FromFn.{map-range_with_len_more}

-- a list and a value for each number so far, with the value for the next one pushed
pub mapped_more : {X : Type 0} (f : ℕ → X) (n : ℕ) (before now next : List X) (x : X) → now ≡ before ++ map f (range_with_len 0 n) → next ≡ now ++ x ∷ [] → x ≡ f n
    → next ≡ before ++ map f (range_with_len 0 (n + 1))
mapped_more f n before now next x so_far pushed here =
    pushed
    ∙ ap (λ all. all ++ x ∷ []) so_far
    ∙ append_assoc before (map f (range_with_len 0 n)) (x ∷ [])
    ∙ ap (λ y. before ++ (map f (range_with_len 0 n) ++ y ∷ [])) here
    ∙ ap (λ all. before ++ all) (sym (map-range_with_len_more f 0 n n (omega arith)))
