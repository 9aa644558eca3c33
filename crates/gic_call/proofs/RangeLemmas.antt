-- What is found at each number of a range, and at one more.
use Rattle.std.proofs.Common.{◌≡◌, ℕ, zero, suc, ◌+◌, List, [], ◌∷◌, ◌++◌, map, Option, Some, None, refl, sym, ap, ◌∙◌, arith, option_to_list, add-one, append-nil}
use Rattle.std.specs.List.{range_with_len, filter_map, cons_option}
use Rattle.std.proofs.lemmas.List.{map-append}
use Rattle.std.proofs.lemmas.List.Elements.{filter_map-append}

pub range_with_len_more : (a n j : ℕ) → a + n ≡ j → range_with_len a (suc n) ≡ range_with_len a n ++ j ∷ []
range_with_len_more a zero j e = ap (λ k. k ∷ []) (omega (arith, e))
range_with_len_more a (suc n) j e = ap (λ rest. a ∷ rest) (range_with_len_more (a + 1) n j (omega (arith, e)))

-- one more place adds what is found there
pub filter_map_more : {X : Type 0} (f : ℕ → Option X) (n : ℕ) → filter_map f (range_with_len 0 (n + 1)) ≡ filter_map f (range_with_len 0 n) ++ option_to_list (f n)
filter_map_more {X = X} f n =
    let more : range_with_len 0 (n + 1) ≡ range_with_len 0 n ++ n ∷ [] = rw add-one (range_with_len_more 0 n n (omega arith)) in
    rw more (filter_map-append f (range_with_len 0 n) (n ∷ []) ∙ ap (λ found. filter_map f (range_with_len 0 n) ++ found) (one (f n)))
  where
    one : (o : Option X) → cons_option o [] ≡ option_to_list o
    one None = refl
    one (Some x) = refl

-- the same where something is found at it, and where nothing is
pub filter_map_found : {X : Type 0} (f : ℕ → Option X) (n : ℕ) (x : X) → f n ≡ Some x → filter_map f (range_with_len 0 (n + 1)) ≡ filter_map f (range_with_len 0 n) ++ x ∷ []
filter_map_found f n x e = filter_map_more f n ∙ ap (λ o. filter_map f (range_with_len 0 n) ++ option_to_list o) e

pub filter_map_none : {X : Type 0} (f : ℕ → Option X) (n : ℕ) → f n ≡ None → filter_map f (range_with_len 0 (n + 1)) ≡ filter_map f (range_with_len 0 n)
filter_map_none f n e = filter_map_more f n ∙ ap (λ o. filter_map f (range_with_len 0 n) ++ option_to_list o) e ∙ append-nil (filter_map f (range_with_len 0 n))

-- a list of what is found at each number so far, with what is found at the next one pushed
pub filter_map_pushed : {X : Type 0} (f : ℕ → Option X) (n : ℕ) (old new : List X) (x : X) → old ≡ filter_map f (range_with_len 0 n) → new ≡ old ++ x ∷ [] → f n ≡ Some x → new ≡ filter_map f (range_with_len 0 (n + 1))
filter_map_pushed f n old new x so_far pushed here = let more = filter_map_found f n x here in cc

pub filter_map_kept : {X : Type 0} (f : ℕ → Option X) (n : ℕ) (old : List X) → old ≡ filter_map f (range_with_len 0 n) → f n ≡ None → old ≡ filter_map f (range_with_len 0 (n + 1))
filter_map_kept f n old so_far here = let more = filter_map_none f n here in cc

-- a list with a value for each number so far, and the value for the next one pushed
pub map_pushed : {X : Type 0} (f : ℕ → X) (n : ℕ) (old new : List X) (x : X) → old ≡ map f (range_with_len 0 n) → new ≡ old ++ x ∷ [] → f n ≡ x → new ≡ map f (range_with_len 0 (n + 1))
map_pushed f n old new x so_far pushed here =
    pushed
    ∙ ap (λ xs. xs ++ x ∷ []) so_far
    ∙ ap (λ y. map f (range_with_len 0 n) ++ y ∷ []) (sym here)
    ∙ sym (map-append f (range_with_len 0 n) (n ∷ []))
    ∙ ap (map f) (sym (rw add-one (range_with_len_more 0 n n (omega arith))))
