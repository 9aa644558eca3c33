-- Lists that are filled from the first place on.
use Rattle.std.proofs.Common.{◌≡◌, ℕ, ◌+◌, ◌<◌, List, length, map, replicate, get_or, slice_set, inl, inr, sym, ap, ◌∙◌, arith}
use Rattle.std.specs.List.{range_with_len}
use Rattle.std.proofs.lemmas.Bool.{cases_eq}
use Rattle.std.proofs.lemmas.List.{ext_get_or, get_or-set_same, get_or-set_other, get_or-replicate, length-replicate}
use Rattle.std.proofs.lemmas.List.FromFn.{get_or-map-range_with_len, length-map-range_with_len}

-- one more place has what it is to have
pub put_next : {X : Type 0} (xs : List X) (n : ℕ) (x d : X) (to_be : ℕ → X) → n < length xs → x ≡ to_be n → ((i : ℕ) → i < n → get_or xs i d ≡ to_be i) → (i : ℕ) → i < n + 1 → get_or (slice_set xs n x) i d ≡ to_be i
put_next xs n x d to_be room is below i h = elim (cases_eq i n) [
  | inl same ↦ ap (λ j. get_or (slice_set xs n x) j d) same ∙ get_or-set_same xs n x d room ∙ is ∙ ap to_be (sym same)
  | inr apart ↦ get_or-set_other xs n i x d apart ∙ below i (omega (arith, h, apart))
]

-- a list that has the same at each place is full of it
pub full_of : {X : Type 0} (xs : List X) (n : ℕ) (x : X) → length xs ≡ n → ((i : ℕ) → i < n → get_or xs i x ≡ x) → xs ≡ replicate n x
full_of xs n x long each =
    ext_get_or x xs (replicate n x) (long ∙ sym (length-replicate n x)) (λ i h. each i (omega (arith, h, long)) ∙ sym (get_or-replicate n i x x (omega (arith, h, long))))

-- a list that has at each place what a function gives there
pub all_of : {X : Type 0} (xs : List X) (n : ℕ) (d : X) (to_be : ℕ → X) → length xs ≡ n → ((i : ℕ) → i < n → get_or xs i d ≡ to_be i) → xs ≡ map to_be (range_with_len 0 n)
all_of xs n d to_be long each =
    ext_get_or d xs (map to_be (range_with_len 0 n)) (long ∙ sym (length-map-range_with_len to_be 0 n))
    (λ i h. each i (omega (arith, h, long)) ∙ sym (get_or-map-range_with_len to_be 0 n i i d (omega (arith, h, long)) (omega arith)))
