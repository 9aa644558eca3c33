-- Lists: what a search finds, and elements one after the other.
use Rattle.std.proofs.Common.{◌≡◌, ◌<◌, ◌+◌, ℕ, suc, Bool, true, false, cond, Option, Some, None, List, [], ◌∷◌, ◌++◌, take, map, filter, find, length, get_or, Contains, append-nil, ◌⊎◌, inl, inr, refl, sym, ap, ◌∙◌, subst}
use Rattle.std.proofs.lemmas.Option.{none-some, same_Some}
use Rattle.std.proofs.lemmas.List.{take_more, map-append}
use Rattle.std.proofs.lemmas.List.Elements.{filter-append}
use Rattle.std.specs.List.{list_all, filter_map, cons_option}
use Rattle.std.specs.Option.{option_map_or}
use Rattle.std.proofs.lemmas.Bool.{true≢false, and_from}
use Rattle.floor_lists.proofs.VcpuRefill.ElementLemmas.{Contains-nothing, Contains-cases, Contains-here, Contains-there}

-- what a search finds is of the list, and passes
pub find_in : {X : Type 0} (p : X → Bool) (xs : List X) (x : X) → find p xs ≡ Some x → Contains xs x × (p x ≡ true)
find_in p [] x e = absurd (none-some x e)
find_in {X} p (y ∷ xs) x e = by_test (p y) refl e (find_in p xs x)
  where
    by_test : (b : Bool) → p y ≡ b → cond b (Some y) (find p xs) ≡ Some x → (find p xs ≡ Some x → Contains xs x × (p x ≡ true)) → Contains (y ∷ xs) x × (p x ≡ true)
    by_test true h e rest =
        let same : y ≡ x = same_Some y x e in
        (subst (Contains (y ∷ xs)) same (Contains-here y xs), sym (ap p same) ∙ h)
    by_test false h e rest = (Contains-there y x xs (rest e).0, (rest e).1)

-- the elements that pass, of one element more
filter_more : {X : Type 0} (p : X → Bool) (xs : List X) (i : ℕ) (d : X) → i < length xs → filter p (take (i + 1) xs) ≡ filter p (take i xs) ++ filter p (get_or xs i d ∷ [])
filter_more p xs i d within = ap (filter p) (take_more xs i d within) ∙ filter-append p (take i xs) (get_or xs i d ∷ [])

-- a map of those that pass, where one more does or does not
pub passed_more : {X Y : Type 0} (f : X → Y) (p : X → Bool) (xs : List X) (i : ℕ) (d : X) → i < length xs → p (get_or xs i d) ≡ true → map f (filter p (take (i + 1) xs)) ≡ map f (filter p (take i xs)) ++ f (get_or xs i d) ∷ []
passed_more {X} f p xs i d within e =
    ap (map f) (filter_more p xs i d within ∙ ap (λ (b : Bool). filter p (take i xs) ++ cond b (get_or xs i d ∷ []) []) e) ∙ map-append f (filter p (take i xs)) (get_or xs i d ∷ [])

pub failed_more : {X Y : Type 0} (f : X → Y) (p : X → Bool) (xs : List X) (i : ℕ) (d : X) → i < length xs → p (get_or xs i d) ≡ false → map f (filter p (take (i + 1) xs)) ≡ map f (filter p (take i xs))
failed_more f p xs i d within e =
    ap (map f) (filter_more p xs i d within ∙ ap (λ (b : Bool). filter p (take i xs) ++ cond b (get_or xs i d ∷ []) []) e ∙ append-nil (filter p (take i xs)))

-- maps that change nothing, and one after the other
pub map_id : {X : Type 0} (xs : List X) → map (λ x. x) xs ≡ xs
map_id [] = refl
map_id (x ∷ xs) = ap (λ rest. x ∷ rest) (map_id xs)

pub map_map : {X Y Z : Type 0} (g : Y → Z) (f : X → Y) (xs : List X) → map g (map f xs) ≡ map (λ x. g (f x)) xs
map_map g f [] = refl
map_map g f (x ∷ xs) = ap (λ rest. g (f x) ∷ rest) (map_map g f xs)

-- two maps that agree on each element
pub map_same : {X Y : Type 0} (f g : X → Y) (xs : List X) → ((x : X) → Contains xs x → f x ≡ g x) → map f xs ≡ map g xs
map_same f g [] h = refl
map_same f g (x ∷ xs) h = cons (h x (Contains-here x xs)) (map_same f g xs (λ y has. h y (Contains-there x y xs has)))
  where
    cons : {Y : Type 0} {y z : Y} {ys zs : List Y} → y ≡ z → ys ≡ zs → y ∷ ys ≡ z ∷ zs
    cons e f = cc

-- a search over a map finds what one element becomes, where no other passes
pub find_unique : {X Y : Type 0} (p : Y → Bool) (f : X → Y) (xs : List X) (x : X) → Contains xs x → p (f x) ≡ true → ((y : X) → Contains xs y → p (f y) ≡ true → y ≡ x) → find p (map f xs) ≡ Some (f x)
find_unique p f [] x has e unique = absurd (Contains-nothing x has)
find_unique {X} {Y} p f (y ∷ xs) x has e unique = by_test (p (f y)) refl (Contains-cases y x xs has) (λ later. find_unique p f xs x later e (λ z there passes. unique z (Contains-there y z xs there) passes))
  where
    by_test : (b : Bool) → p (f y) ≡ b → (y ≡ x) ⊎ Contains xs x → (Contains xs x → find p (map f xs) ≡ Some (f x)) → cond b (Some (f y)) (find p (map f xs)) ≡ Some (f x)
    by_test true g place rest = ap (λ (z : X). Some (f z)) (unique y (Contains-here y xs) g)
    by_test false g (inl same) rest = absurd (true≢false (sym e ∙ sym (ap (λ (z : X). p (f z)) same) ∙ g))
    by_test false g (inr later) rest = rest later

-- each element passes
pub list_all_from : {X : Type 0} (p : X → Bool) (xs : List X) → ((x : X) → Contains xs x → p x ≡ true) → list_all p xs ≡ true
list_all_from p [] h = refl
list_all_from p (x ∷ xs) h = and_from (p x) (list_all p xs) (h x (Contains-here x xs)) (list_all_from p xs (λ y has. h y (Contains-there x y xs has)))

-- how many pass of what a map keeps
pub passed_of_kept : {X Y : Type 0} (p : Y → Bool) (f : X → Option Y) (xs : List X) → length (filter p (filter_map f xs)) ≡ length (filter (λ x. option_map_or p (f x) false) xs)
passed_of_kept p f [] = refl
passed_of_kept {X} {Y} p f (x ∷ xs) = of (f x) (passed_of_kept p f xs)
  where
    by : (b : Bool) (y : Y) → length (filter p (filter_map f xs)) ≡ length (filter (λ x. option_map_or p (f x) false) xs) → length (cond b (y ∷ filter p (filter_map f xs)) (filter p (filter_map f xs))) ≡ length (cond b (x ∷ filter (λ x. option_map_or p (f x) false) xs) (filter (λ x. option_map_or p (f x) false) xs))
    by true y e = ap suc e
    by false y e = e

    of : (o : Option Y) → length (filter p (filter_map f xs)) ≡ length (filter (λ x. option_map_or p (f x) false) xs)
        → length (filter p (cons_option o (filter_map f xs))) ≡ length (cond (option_map_or p o false) (x ∷ filter (λ x. option_map_or p (f x) false) xs) (filter (λ x. option_map_or p (f x) false) xs))
    of None e = e
    of (Some y) e = by (p y) y e
