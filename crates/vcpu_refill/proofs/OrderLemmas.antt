-- Interrupts in delivery order.
use Rattle.std.proofs.Common.{◌≡◌, ◌≢◌, Bool, true, false, not, ◌&&◌, cond, filter, List, [], ◌∷◌, ◌++◌, Contains, ◌⊎◌, inl, inr, refl, subst, arith}
use Rattle.std.specs.Prelude.{fold, IsTrue}
use Rattle.std.specs.List.{list_all}
use Rattle.std.proofs.lemmas.Grind.{common_steps}
use Rattle.gic_ich.specs.Words.{intid_of}
use Rattle.vcpu_refill.specs.declared.offer.Offer.{Offer}
use Rattle.vcpu_refill.specs.Order.{goes_before, inserted, ordered}
use Rattle.vcpu_refill.proofs.ElementLemmas.{Contains-here, Contains-there, Contains-cases, Contains-nothing}

-- an insert adds the one and keeps the others
pub Contains-inserted : (one : Offer) (xs : List Offer) → Contains (inserted one xs) one
Contains-inserted one [] = Contains-here one []
Contains-inserted one (x ∷ xs) =
    elim (goes_before one x) as (λ b. Contains (cond b (one ∷ x ∷ xs) (x ∷ inserted one xs)) one) [
      | true ↦ Contains-here one (x ∷ xs)
      | false ↦ Contains-there x one (inserted one xs) (Contains-inserted one xs)
    ]

pub Contains-kept : (one : Offer) (xs : List Offer) (y : Offer) → Contains xs y → Contains (inserted one xs) y
Contains-kept one [] y has = absurd (Contains-nothing y has)
Contains-kept one (x ∷ xs) y has =
    elim (goes_before one x) as (λ b. Contains (cond b (one ∷ x ∷ xs) (x ∷ inserted one xs)) y) [
      | true ↦ Contains-there one y (x ∷ xs) has
      | false ↦ elim (Contains-cases x y xs has) [
        | inl is ↦ subst (Contains (x ∷ inserted one xs)) is (Contains-here x (inserted one xs))
        | inr rest ↦ Contains-there x y (inserted one xs) (Contains-kept one xs y rest)
      ]
    ]

-- what is there already, or still to be put in, is there at last
folded_in : (before xs : List Offer) (y : Offer) → (Contains before y) ⊎ (Contains xs y) → Contains (fold (λ sorted one. inserted one sorted) before xs) y
folded_in before [] y (inl has) = has
folded_in before [] y (inr has) = absurd (Contains-nothing y has)
folded_in before (x ∷ xs) y (inl has) = folded_in (inserted x before) xs y (inl (Contains-kept x before y has))
folded_in before (x ∷ xs) y (inr has) =
    folded_in (inserted x before) xs y
    (elim (Contains-cases x y xs has) [
      | inl is ↦ inl (subst (Contains (inserted x before)) is (Contains-inserted x before))
      | inr rest ↦ inr rest
    ])

pub Contains-ordered : (xs : List Offer) (y : Offer) → Contains xs y → Contains (ordered xs) y
Contains-ordered xs y has = folded_in [] xs y (inr has)

-- each comes after those that stand before it
abbrev pub none_before : Offer → List Offer → Bool
none_before x xs = list_all (λ y. not (goes_before y x)) xs

abbrev pub in_order : List Offer → Bool
in_order [] = true
in_order (x ∷ xs) = none_before x xs && in_order xs

-- the order is transitive, also past one that is not before
before_through : (a b c : Offer) → goes_before a b ≡ true → goes_before b c ≡ true → goes_before a c ≡ true
before_through a b c h k = grind (arith, common_steps)

before_not : (one x y : Offer) → goes_before one x ≡ true → goes_before y x ≡ false → goes_before y one ≡ false
before_not one x y h k = grind (arith, common_steps)

before_back : (a b : Offer) → goes_before a b ≡ true → goes_before b a ≡ false
before_back a b h = grind (arith, common_steps)

none_before_weaker : (one x : Offer) (xs : List Offer) → goes_before one x ≡ true → none_before x xs ≡ true → none_before one xs ≡ true
none_before_weaker one x [] h k = refl
none_before_weaker one x (y ∷ xs) h k = grind (arith, common_steps, before_not one x y h, none_before_weaker one x xs h, k)

none_before-inserted : (x one : Offer) (xs : List Offer) → goes_before one x ≡ false → none_before x xs ≡ true → none_before x (inserted one xs) ≡ true
none_before-inserted x one [] h k = grind (arith, common_steps, h)
none_before-inserted x one (y ∷ xs) h k =
    elim (goes_before one y) as (λ b. none_before x (cond b (one ∷ y ∷ xs) (y ∷ inserted one xs)) ≡ true) [
      | true ↦ grind (arith, common_steps, h, k)
      | false ↦ grind (arith, common_steps, h, k, none_before-inserted x one xs h)
    ]

in_order-inserted : (one : Offer) (xs : List Offer) → in_order xs ≡ true → in_order (inserted one xs) ≡ true
in_order-inserted one [] h = refl
in_order-inserted one (x ∷ xs) h =
    elim (goes_before one x) as (λ b. goes_before one x ≡ b → in_order (cond b (one ∷ x ∷ xs) (x ∷ inserted one xs)) ≡ true) [
      | true ↦ (λ e. grind (arith, common_steps, h, before_back one x e, none_before_weaker one x xs e))
      | false ↦ (λ e. grind (arith, common_steps, h, none_before-inserted x one xs e, in_order-inserted one xs))
    ] refl

in_order-fold : (before xs : List Offer) → in_order before ≡ true → in_order (fold (λ sorted one. inserted one sorted) before xs) ≡ true
in_order-fold before [] h = h
in_order-fold before (x ∷ xs) h = in_order-fold (inserted x before) xs (in_order-inserted x before h)

pub in_order-ordered : (xs : List Offer) → in_order (ordered xs) ≡ true
in_order-ordered xs = in_order-fold [] xs refl

pub none_before-Contains : (x : Offer) (xs : List Offer) (y : Offer) → none_before x xs ≡ true → Contains xs y → goes_before y x ≡ false
none_before-Contains x [] y h has = absurd (Contains-nothing y has)
none_before-Contains x (z ∷ xs) y h has =
    elim (Contains-cases z y xs has) [
      | inl is ↦ subst (λ o. goes_before o x ≡ false) is (grind (arith, common_steps, h))
      | inr rest ↦ none_before-Contains x xs y (grind (arith, common_steps, h)) rest
    ]

none_before-back : (x : Offer) (xs ys : List Offer) → none_before x (xs ++ ys) ≡ true → none_before x ys ≡ true
none_before-back x [] ys h = h
none_before-back x (z ∷ xs) ys h = none_before-back x xs ys (grind (arith, common_steps, h))

-- what stands further behind is not before what stands in front
pub back_not_before : (xs ys : List Offer) (x y : Offer) → in_order (xs ++ ys) ≡ true → Contains xs x → Contains ys y → goes_before y x ≡ false
back_not_before [] ys x y h has then_ = absurd (Contains-nothing x has)
back_not_before (z ∷ xs) ys x y h has then_ =
    elim (Contains-cases z x xs has) [
      | inl is ↦ subst (λ o. goes_before y o ≡ false) is (none_before-Contains z ys y (none_before-back z xs ys (grind (arith, common_steps, h))) then_)
      | inr rest ↦ back_not_before xs ys x y (grind (arith, common_steps, h)) rest then_
    ]

-- of two INTIDs, one that is not before another comes after it
pub one_is_before : (a b : Offer) → goes_before a b ≡ false → intid_of a.key ≢ intid_of b.key → IsTrue (goes_before b a)
one_is_before a b h differs = grind (arith, common_steps, h, differs)

-- one more interrupt of those that count is put in its place
pub ordered_more : (counts : Offer → Bool) (xs : List Offer) (one : Offer) → ordered (filter counts (xs ++ one ∷ [])) ≡ cond (counts one) (inserted one (ordered (filter counts xs))) (ordered (filter counts xs))
ordered_more counts xs one = grind (arith, common_steps)
