-- A list in which each place that was kept is written with what was kept of it.
use Rattle.std.proofs.Common.{◌≡◌, ℕ, zero, suc, ◌+◌, ◌<◌, ◌≤◌, List, [], ◌∷◌, ◌++◌, length, take, drop, set, get_or, fold, map, Option, Some, None, option_to_list, refl, sym, ap, subst, ◌∙◌, arith, append_assoc, append-nil}
use Rattle.std.specs.List.{range_with_len, filter_map}
use Rattle.std.proofs.lemmas.List.{length-take-le, take_more, drop_more, set_at, take_all, drop_all}
use Rattle.std.proofs.lemmas.List.Sums.{fold-append}
use Rattle.saved_guest.proofs.IdealGuests.GicCall.RangeLemmas.{filter_map_more}

-- what is kept of a list: where nothing is, it is as it began, and what is kept of a place is written there
pub record IsKeptOf {X Y : Type 0} (put : List Y → X → List Y) (at : ℕ → Option X) (start whole : List Y) (d : Y) : Type 0 where
  pub each : length start ≡ length whole
  pub same : (k : ℕ) → k < length start → at k ≡ None → get_or start k d ≡ get_or whole k d
  pub told : (k : ℕ) (x : X) (ys : List Y) → k < length start → at k ≡ Some x → put ys x ≡ set ys k (get_or whole k d)

put_if : {X Y : Type 0} → (List Y → X → List Y) → List Y → Option X → List Y
put_if put ys None = ys
put_if put ys (Some x) = put ys x

folded : {X Y : Type 0} (put : List Y → X → List Y) (start : List Y) (xs : List X) (o : Option X) → fold put start (xs ++ option_to_list o) ≡ put_if put (fold put start xs) o
unfolding put_if
folded put start xs None = fold-append put start xs []
folded put start xs (Some x) = fold-append put start xs (x ∷ [])

-- one more place
one_more : {X Y : Type 0} (put : List Y → X → List Y) (at : ℕ → Option X) (start whole : List Y) (d : Y) (n : ℕ) → IsKeptOf put at start whole d → n < length start
    → put_if put (take n whole ++ drop n start) (at n) ≡ take (n + 1) whole ++ drop (n + 1) start
unfolding put_if
one_more {X} {Y} put at start whole d n kept few = of (at n) refl
  where
    few_of : n < length whole
    few_of = omega (arith, kept.each)

    here : take n whole ++ drop n start ≡ take n whole ++ get_or start n d ∷ drop (n + 1) start
    here = ap (λ ys. take n whole ++ ys) (drop_more start n d few)

    there : take n whole ++ get_or whole n d ∷ drop (n + 1) start ≡ take (n + 1) whole ++ drop (n + 1) start
    there = sym (append_assoc (take n whole) (get_or whole n d ∷ []) (drop (n + 1) start)) ∙ ap (λ ys. ys ++ drop (n + 1) start) (sym (take_more whole n d few_of))

    of : (o : Option X) → at n ≡ o → put_if put (take n whole ++ drop n start) o ≡ take (n + 1) whole ++ drop (n + 1) start
    of None e = here ∙ ap (λ y. take n whole ++ y ∷ drop (n + 1) start) (kept.same n few e) ∙ there
    of (Some x) e =
        kept.told n x (take n whole ++ drop n start) few e
        ∙ ap (λ ys. set ys n (get_or whole n d)) here
        ∙ set_at (take n whole) (get_or start n d) (drop (n + 1) start) (get_or whole n d) n (length-take-le n whole (omega arith))
        ∙ there

filled_so_far : {X Y : Type 0} (put : List Y → X → List Y) (at : ℕ → Option X) (start whole : List Y) (d : Y) (n : ℕ) → IsKeptOf put at start whole d → n ≤ length start
    → fold put start (filter_map at (range_with_len 0 n)) ≡ take n whole ++ drop n start
filled_so_far put at start whole d zero kept few = refl
filled_so_far {X} {Y} put at start whole d (suc n) kept few =
    let P : ℕ → Type 0 = λ m. fold put start (filter_map at (range_with_len 0 m)) ≡ take m whole ++ drop m start in
    let next : n + 1 ≡ suc n = omega arith in
    let below : n < length start = omega arith in
    let within : n ≤ length start = omega arith in
    subst P next
    (ap (fold put start) (filter_map_more at n)
    ∙ folded put start (filter_map at (range_with_len 0 n)) (at n)
    ∙ ap (λ ys. put_if put ys (at n)) (filled_so_far put at start whole d n kept within)
    ∙ one_more put at start whole d n kept below)

-- the whole list
pub filled : {X Y : Type 0} (put : List Y → X → List Y) (at : ℕ → Option X) (start whole : List Y) (d : Y) (n : ℕ) → IsKeptOf put at start whole d → n ≡ length start → fold put start (filter_map at (range_with_len 0 n)) ≡ whole
filled put at start whole d n kept all =
    let full : take n whole ≡ whole = take_all n whole (omega (arith, kept.each)) in
    let none : drop n start ≡ [] = drop_all n start (omega arith) in
    filled_so_far put at start whole d n kept (omega arith) ∙ ap (λ ys. take n whole ++ ys) none ∙ append-nil (take n whole) ∙ full

-- what each element is turned into is turned back
pub mapped_back : {X Y : Type 0} (f : X → Y) (g : Y → X) → ((x : X) → g (f x) ≡ x) → (xs : List X) → map g (map f xs) ≡ xs
mapped_back f g back [] = refl
mapped_back f g back (x ∷ xs) = ap (λ y. y ∷ map g (map f xs)) (back x) ∙ ap (λ ys. x ∷ ys) (mapped_back f g back xs)
