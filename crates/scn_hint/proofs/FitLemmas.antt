-- Nothing is amiss so far, and with all.
use Rattle.std.proofs.Common.{◌≡◌, ℕ, ◌+◌, ◌<◌, ◌≤◌, All, List, [], ◌∷◌, ◌++◌, length, map, take, sym, ap, subst, ◌∙◌, arith}
use Rattle.std.proofs.lemmas.Grind.{take_at_read}
use Rattle.std.proofs.lemmas.List.{get_or-map, length-map, take_all}
use Rattle.std.proofs.lemmas.List.Elements.{All-nil, All-cons, All-append}
use Rattle.std.specs.Prelude.{slice_index_or}

-- one more of a list's, each seen in one way
pub so_far : {X Y : Type 0} (P : Y → Type 0) (f : X → Y) (xs : List X) (i : ℕ) (x : X) → i < length xs → x ≡ slice_index_or xs i x → All P (take i (map f xs)) → P (f x) → All P (take (i + 1) (map f xs))
so_far {Y = Y} P f xs i x few is all one =
    let within : i < length (map f xs) = omega (arith, few, length-map xs f) in
    let found : slice_index_or (map f xs) i (f x) ≡ f x = get_or-map f xs i x (f x) few ∙ ap f (sym is) in
    let longer : take (i + 1) (map f xs) ≡ take i (map f xs) ++ f x ∷ [] = (take_at_read (map f xs) i (f x) within).1 ∙ ap (λ (y : Y). take i (map f xs) ++ y ∷ []) found in
    subst (All P) (sym longer) (All-append P (take i (map f xs)) (f x ∷ []) all (All-cons P (f x) [] one (All-nil P)))

pub all_done : {X Y : Type 0} (P : Y → Type 0) (f : X → Y) (xs : List X) (i : ℕ) → length xs ≤ i → All P (take i (map f xs)) → All P (map f xs)
all_done P f xs i many all = subst (All P) (take_all i (map f xs) (omega (arith, many, length-map xs f))) all
