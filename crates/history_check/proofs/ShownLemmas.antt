-- What is found of the elements so far, and of one more.
use Rattle.std.proofs.Common.{◌≡◌, ℕ, ◌+◌, ◌<◌, List, [], ◌∷◌, ◌++◌, map, take, get_or, length, Option, Some, None, refl, sym, ap, ◌∙◌}
use Rattle.std.specs.List.{filter_map, cons_option}
use Rattle.std.proofs.lemmas.List.{take_more, append-nil}
use Rattle.std.proofs.lemmas.List.Elements.{filter_map-append}

one_more : {X Y : Type 0} (f : X → Option Y) (xs : List X) (i : ℕ) (x : X) (o : Option Y) → i < length xs → x ≡ get_or xs i x → f x ≡ o → filter_map f (take (i + 1) xs) ≡ filter_map f (take i xs) ++ cons_option o []
one_more f xs i x o h is e =
    ap (filter_map f) (take_more xs i x h ∙ ap (λ y. take i xs ++ y ∷ []) (sym is)) ∙ filter_map-append f (take i xs) (x ∷ []) ∙ ap (λ p. filter_map f (take i xs) ++ cons_option p []) e

pub found_more : {X Y : Type 0} (f : X → Option Y) (xs : List X) (i : ℕ) (x : X) (y : Y) → i < length xs → x ≡ get_or xs i x → f x ≡ Some y → filter_map f (take (i + 1) xs) ≡ filter_map f (take i xs) ++ y ∷ []
found_more f xs i x y h is e = one_more f xs i x (Some y) h is e

pub none_more : {X Y : Type 0} (f : X → Option Y) (xs : List X) (i : ℕ) (x : X) → i < length xs → x ≡ get_or xs i x → f x ≡ None → filter_map f (take (i + 1) xs) ≡ filter_map f (take i xs)
none_more f xs i x h is e = one_more f xs i x None h is e ∙ append-nil (filter_map f (take i xs))

-- of what is shown, by what it is shown of
pub found_shown : {X Y Z : Type 0} (f : Y → Option Z) (g : X → Y) (xs : List X) → filter_map f (map g xs) ≡ filter_map (λ x. f (g x)) xs
found_shown f g [] = refl
found_shown f g (x ∷ xs) = ap (cons_option (f (g x))) (found_shown f g xs)
