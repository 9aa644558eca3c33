-- Loops that keep what passes a test.
use Rattle.std.proofs.Common.{◌≡◌, ℕ, ◌+◌, ◌<◌, Bool, true, false, cond, List, [], ◌∷◌, ◌++◌, filter, drop, length, get_or, Option, Some, None, sym, ap, ◌∙◌, append_assoc, append-nil, add-one, arith}
use Rattle.std.specs.Prelude.{filter_map}
use Rattle.std.specs.List.{range_with_len, cons_option}
use Rattle.std.proofs.lemmas.List.Elements.{filter-append}
use Rattle.std.proofs.lemmas.List.{drop_more}
use Rattle.legal_steps.proofs.GicCall.RangeLemmas.{range_with_len_more}

-- what a list leaves, with one more
left_more : {X Y : Type 0} (f : X → Option Y) (xs : List X) (i : ℕ) (d : X) → i < length xs → filter_map f (drop i xs) ≡ cons_option (f (get_or xs i d)) (filter_map f (drop (i + 1) xs))
left_more f xs i d h = ap (filter_map f) (drop_more xs i d h)

pub left_some : {X Y : Type 0} (f : X → Option Y) (xs : List X) (rest all : List Y) (i : ℕ) (d : X) (y : Y) → i < length xs → f (get_or xs i d) ≡ Some y → rest ++ filter_map f (drop i xs) ≡ all → (rest ++ y ∷ []) ++ filter_map f (drop (i + 1) xs) ≡ all
left_some f xs rest all i d y h is so =
    append_assoc rest (y ∷ []) (filter_map f (drop (i + 1) xs)) ∙ (ap (λ ys. rest ++ ys) (sym (left_more f xs i d h ∙ ap (λ o. cons_option o (filter_map f (drop (i + 1) xs))) is)) ∙ so)

pub left_none : {X Y : Type 0} (f : X → Option Y) (xs : List X) (rest all : List Y) (i : ℕ) (d : X) → i < length xs → f (get_or xs i d) ≡ None → rest ++ filter_map f (drop i xs) ≡ all → rest ++ filter_map f (drop (i + 1) xs) ≡ all
left_none f xs rest all i d h is so = ap (λ ys. rest ++ ys) (sym (left_more f xs i d h ∙ ap (λ o. cons_option o (filter_map f (drop (i + 1) xs))) is)) ∙ so

-- of numbers from 0 on
one_further : (n : ℕ) → range_with_len 0 (n + 1) ≡ range_with_len 0 n ++ n ∷ []
one_further n = rw add-one (range_with_len_more 0 n n (omega arith))

filter_one : {X : Type 0} (p : X → Bool) (xs : List X) (x : X) → filter p (xs ++ x ∷ []) ≡ filter p xs ++ cond (p x) (x ∷ []) []
filter_one p xs x = filter-append p xs (x ∷ [])

pub picked : (p : ℕ → Bool) (n : ℕ) → p n ≡ true → filter p (range_with_len 0 (n + 1)) ≡ filter p (range_with_len 0 n) ++ n ∷ []
picked p n h = ap (filter p) (one_further n) ∙ (filter_one p (range_with_len 0 n) n ∙ ap (λ b. filter p (range_with_len 0 n) ++ cond b (n ∷ []) []) h)

pub skipped : (p : ℕ → Bool) (n : ℕ) → p n ≡ false → filter p (range_with_len 0 (n + 1)) ≡ filter p (range_with_len 0 n)
skipped p n h = ap (filter p) (one_further n) ∙ (filter_one p (range_with_len 0 n) n ∙ (ap (λ b. filter p (range_with_len 0 n) ++ cond b (n ∷ []) []) h ∙ append-nil (filter p (range_with_len 0 n))))
