-- Tests of lists.
use Rattle.std.proofs.Common.{◌≡◌, ◌&&◌, ◌||◌, not, Bool, true, false, cond, List, [], ◌∷◌, ◌++◌, map, filter, Option, Some, None, refl, sym, ap, ◌∙◌}
use Rattle.std.specs.Prelude.{filter_map}
use Rattle.std.specs.List.{list_all, list_any, cons_option}
use Rattle.std.specs.Option.{option_map_or}

pub and_assoc : (a b c : Bool) → ((a && b) && c) ≡ (a && (b && c))
and_assoc true b c = refl
and_assoc false b c = refl

pub or_assoc : (a b c : Bool) → ((a || b) || c) ≡ (a || (b || c))
or_assoc true b c = refl
or_assoc false b c = refl

pub and_true : (a : Bool) → a ≡ (a && true)
and_true true = refl
and_true false = refl

module _ {X : Type 0} where
  pub any_same : (p q : X → Bool) → ((x : X) → p x ≡ q x) → (xs : List X) → list_any p xs ≡ list_any q xs
  any_same p q same [] = refl
  any_same p q same (x ∷ xs) = ap (λ b. b || list_any p xs) (same x) ∙ ap (λ b. q x || b) (any_same p q same xs)

  pub all_same : (p q : X → Bool) → ((x : X) → p x ≡ q x) → (xs : List X) → list_all p xs ≡ list_all q xs
  all_same p q same [] = refl
  all_same p q same (x ∷ xs) = ap (λ b. b && list_all p xs) (same x) ∙ ap (λ b. q x && b) (all_same p q same xs)

  pub any_filter : (f p : X → Bool) (xs : List X) → list_any f (filter p xs) ≡ list_any (λ x. p x && f x) xs
  any_filter f p [] = refl
  any_filter f p (x ∷ xs) = of (p x) (any_filter f p xs)
    where
      of : (b : Bool) → list_any f (filter p xs) ≡ list_any (λ x. p x && f x) xs → list_any f (cond b (x ∷ filter p xs) (filter p xs)) ≡ ((b && f x) || list_any (λ x. p x && f x) xs)
      of true h = ap (λ b. f x || b) h
      of false h = h

  pub all_filter : (f p : X → Bool) (xs : List X) → list_all f (filter p xs) ≡ list_all (λ x. not (p x) || f x) xs
  all_filter f p [] = refl
  all_filter f p (x ∷ xs) = of (p x) (all_filter f p xs)
    where
      of : (b : Bool) → list_all f (filter p xs) ≡ list_all (λ x. not (p x) || f x) xs → list_all f (cond b (x ∷ filter p xs) (filter p xs)) ≡ ((not b || f x) && list_all (λ x. not (p x) || f x) xs)
      of true h = ap (λ b. f x && b) h
      of false h = h

  pub any_or : (f g : X → Bool) (xs : List X) → list_any (λ x. f x || g x) xs ≡ (list_any f xs || list_any g xs)
  any_or f g [] = refl
  any_or f g (x ∷ xs) = ap (λ b. (f x || g x) || b) (any_or f g xs) ∙ of (f x) (g x) (list_any f xs) (list_any g xs)
    where
      of : (a b c d : Bool) → ((a || b) || (c || d)) ≡ ((a || c) || (b || d))
      of true b c d = refl
      of false true true d = refl
      of false true false d = refl
      of false false true d = refl
      of false false false d = refl

  pub all_append : (f : X → Bool) (xs ys : List X) → list_all f (xs ++ ys) ≡ (list_all f xs && list_all f ys)
  all_append f [] ys = refl
  all_append f (x ∷ xs) ys = ap (λ b. f x && b) (all_append f xs ys) ∙ sym (and_assoc (f x) (list_all f xs) (list_all f ys))

module _ {X Y : Type 0} where
  pub all_map : (f : Y → Bool) (g : X → Y) (xs : List X) → list_all f (map g xs) ≡ list_all (λ x. f (g x)) xs
  all_map f g [] = refl
  all_map f g (x ∷ xs) = ap (λ b. f (g x) && b) (all_map f g xs)

  -- what a list leaves passes a test where each does that it leaves
  pub all_filter_map : (f : Y → Bool) (g : X → Option Y) (xs : List X) → list_all f (filter_map g xs) ≡ list_all (λ x. option_map_or f (g x) true) xs
  all_filter_map f g [] = refl
  all_filter_map f g (x ∷ xs) = of (g x) (all_filter_map f g xs)
    where
      of : (o : Option Y) → list_all f (filter_map g xs) ≡ list_all (λ x. option_map_or f (g x) true) xs → list_all f (cons_option o (filter_map g xs)) ≡ (option_map_or f o true && list_all (λ x. option_map_or f (g x) true) xs)
      of None h = h
      of (Some y) h = ap (λ b. f y && b) h
