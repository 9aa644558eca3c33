-- Lists in 16 places, and ordered lists with one more.
use Rattle.std.proofs.Common.{◌≡◌, ◌≤◌, ◌<◌, ◌+◌, ℕ, zero, suc, Bool, true, false, List, [], ◌∷◌, ◌++◌, length, get_or, take, drop, ◌-◌, inl, inr, cond, lit<, Option, Some, None, refl, sym, ap, ◌∙◌, subst, arith}
use Rattle.std.specs.Prelude.{◌||◌, slice_get, insert, is_some, nat_lt, replicate, position, filter, map, min}
use Rattle.std.proofs.lemmas.Grind.{common_steps}
use Rattle.std.specs.List.{position_from, range_with_len}
use Rattle.std.proofs.lemmas.Bool.{cases_order}
use Rattle.std.proofs.lemmas.List.{get_or-take, length-take-le}
use Rattle.std.proofs.lemmas.List.Edits.{length-insert, get_or-insert_at, get_or-insert_below, get_or-insert_above}
use Rattle.std.proofs.lemmas.List.Quantifiers.{position-Some}
use Rattle.std.proofs.lemmas.Iterator.Adapters.{position_from-zero}
use Rattle.std.proofs.lemmas.List.FromFn.{fill_by_all, get_or-map-range_with_len, length-map-range_with_len}
use Rattle.vcpu_refill.specs.declared.offer.Offer.{Offer}
use Rattle.vcpu_refill.specs.declared.ranking.Ranking.{Ranking}
use Rattle.vcpu_refill.specs.Order.{goes_before, inserted}
use Rattle.vcpu_refill.specs.Ranking.{in_places, gives_way, ranking_of}

-- what stands in a place
pub get_or-in_places : {X : Type 0} (xs : List X) (k : ℕ) (d : Option X) → k < 16 → get_or (in_places xs) k d ≡ slice_get xs k
unfolding in_places
get_or-in_places xs k d h = get_or-map-range_with_len (slice_get xs) 0 16 k k d h (omega arith)

pub length-in_places : {X : Type 0} (xs : List X) → length (in_places xs) ≡ 16
unfolding in_places
length-in_places xs = length-map-range_with_len (slice_get xs) 0 16

-- 16 places that have the elements of a list
pub in_places_all : {X : Type 0} (xs : List X) (places : List (Option X)) → length places ≡ 16 → ((k : ℕ) → k < 16 → get_or places k None ≡ slice_get xs k) → places ≡ in_places xs
unfolding in_places
in_places_all xs places e h = fill_by_all (slice_get xs) places 16 None e h

pub length-inserted : (one : Offer) (xs : List Offer) → length (inserted one xs) ≡ length xs + 1
length-inserted one [] = refl
length-inserted one (x ∷ xs) = grind (arith, common_steps, length-inserted one xs)

-- where an interrupt is put among others: no place before gives way to it, and this one does
pub inserted_at : (one : Offer) (xs : List Offer) (place : ℕ) → ((k : ℕ) → k < place → gives_way one (slice_get xs k) ≡ false) → gives_way one (slice_get xs place) ≡ true → inserted one xs ≡ take place xs ++ one ∷ drop place xs
inserted_at one [] zero h gives = refl
inserted_at one [] (suc place) h gives = absurd (let none : true ≡ false = h 0 (omega arith) in cc)
inserted_at one (x ∷ xs) zero h gives = grind (arith, common_steps, gives)
inserted_at one (x ∷ xs) (suc place) h gives =
    let passed : goes_before one x ≡ false = h 0 (omega arith) in
    let rest = inserted_at one xs place (λ k less. h (suc k) (omega (arith, less))) gives in
    grind (arith, common_steps, passed, rest)

-- a list goes on as far as no place gives way
pub long_enough : (one : Offer) (xs : List Offer) (n : ℕ) → ((k : ℕ) → k < n → gives_way one (slice_get xs k) ≡ false) → n ≤ length xs
long_enough one xs zero h = omega arith
long_enough one [] (suc n) h = absurd (let none : true ≡ false = h 0 (omega arith) in cc)
long_enough one (x ∷ xs) (suc n) h = omega (arith, long_enough one xs n (λ k less. h (suc k) (omega (arith, less))))

-- and those places stay
pub inserted_past : (one : Offer) (xs : List Offer) (n : ℕ) → ((k : ℕ) → k < n → gives_way one (slice_get xs k) ≡ false) → (k : ℕ) → k < n → slice_get (inserted one xs) k ≡ slice_get xs k
inserted_past one xs zero h k less = absurd (omega (arith, less))
inserted_past one [] (suc n) h k less = absurd (let none : true ≡ false = h 0 (omega arith) in cc)
inserted_past one (x ∷ xs) (suc n) h zero less = let passed : goes_before one x ≡ false = h 0 (omega arith) in grind (arith, common_steps, passed)
inserted_past one (x ∷ xs) (suc n) h (suc k) less =
    let passed : goes_before one x ≡ false = h 0 (omega arith) in
    let rest = inserted_past one xs n (λ j below. h (suc j) (omega (arith, below))) k (omega (arith, less)) in
    grind (arith, common_steps, passed, rest)

-- what stands in the places of a list with one more element
slice_get-insert_below : {X : Type 0} (xs : List X) (place : ℕ) (one : X) (k : ℕ) → k < place → place ≤ length xs → slice_get (insert xs place one) k ≡ slice_get xs k
slice_get-insert_below xs zero one k less within = absurd (omega (arith, less))
slice_get-insert_below [] (suc place) one k less within = absurd (omega (arith, within))
slice_get-insert_below (x ∷ xs) (suc place) one zero less within = refl
slice_get-insert_below (x ∷ xs) (suc place) one (suc k) less within = slice_get-insert_below xs place one k (omega (arith, less)) (omega (arith, within))

slice_get-insert_at : {X : Type 0} (xs : List X) (place : ℕ) (one : X) → place ≤ length xs → slice_get (insert xs place one) place ≡ Some one
slice_get-insert_at xs zero one within = refl
slice_get-insert_at [] (suc place) one within = absurd (omega (arith, within))
slice_get-insert_at (x ∷ xs) (suc place) one within = slice_get-insert_at xs place one (omega (arith, within))

slice_get-insert_above : {X : Type 0} (xs : List X) (place : ℕ) (one : X) (k : ℕ) → place ≤ k → place ≤ length xs → slice_get (insert xs place one) (suc k) ≡ slice_get xs k
slice_get-insert_above xs zero one k above within = refl
slice_get-insert_above [] (suc place) one k above within = absurd (omega (arith, within))
slice_get-insert_above (x ∷ xs) (suc place) one zero above within = absurd (omega (arith, above))
slice_get-insert_above (x ∷ xs) (suc place) one (suc k) above within = slice_get-insert_above xs place one k (omega (arith, above)) (omega (arith, within))

-- the same places hold a list with one more element, in a place that it has
place_above : {X : Type 0} (xs : List X) (place : ℕ) (one : X) (k : ℕ) → suc k < 16 → place < 16 → place ≤ length xs → place ≤ k → get_or (insert (in_places xs) place (Some one)) (suc k) None ≡ slice_get (insert xs place one) (suc k)
place_above xs place one k few within fits above =
    let one_more : suc k ≡ k + 1 = omega arith in
    ap (λ n. get_or (insert (in_places xs) place (Some one)) n None) one_more
    ∙ get_or-insert_above (in_places xs) place (Some one) None k above (omega (arith, within, length-in_places xs))
    ∙ get_or-in_places xs k None (omega (arith, few))
    ∙ sym (slice_get-insert_above xs place one k above fits)

inserted_place : {X : Type 0} (xs : List X) (place : ℕ) (one : X) (k : ℕ) → k < 16 → place < 16 → place ≤ length xs → get_or (insert (in_places xs) place (Some one)) k None ≡ slice_get (insert xs place one) k
inserted_place xs place one k few within fits =
    elim (cases_order k place) [
      | inl same ↦
          subst (λ n. get_or (insert (in_places xs) place (Some one)) n None ≡ slice_get (insert xs place one) n) (sym same)
          (get_or-insert_at (in_places xs) place (Some one) None (omega (arith, within, length-in_places xs)) ∙ sym (slice_get-insert_at xs place one fits))
      | inr rest ↦ elim rest [
        | inl less ↦
            get_or-insert_below (in_places xs) place (Some one) None k less (omega (arith, within, length-in_places xs))
            ∙ get_or-in_places xs k None few
            ∙ sym (slice_get-insert_below xs place one k less fits)
        | inr more ↦
            let next : suc (k - 1) ≡ k = omega (arith, more) in
            subst (λ n. get_or (insert (in_places xs) place (Some one)) n None ≡ slice_get (insert xs place one) n) next
            (place_above xs place one (k - 1) (omega (arith, few, more)) within fits (omega (arith, more)))
      ]
    ]

-- a list's places with one more element in its place
pub in_places-insert : {X : Type 0} (xs : List X) (place : ℕ) (one : X) → place < 16 → place ≤ length xs → take 16 (insert (in_places xs) place (Some one)) ≡ in_places (insert xs place one)
in_places-insert xs place one within fits =
    let long : length (insert (in_places xs) place (Some one)) ≡ 17 = length-insert (in_places xs) place (Some one) (omega (arith, within, length-in_places xs)) ∙ omega (arith, length-in_places xs) in
    in_places_all (insert xs place one) (take 16 (insert (in_places xs) place (Some one)))
    (length-take-le 16 (insert (in_places xs) place (Some one)) (omega (arith, long)))
    (λ k few. get_or-take 16 (insert (in_places xs) place (Some one)) k None few ∙ inserted_place xs place one k few within fits)

-- whether there is an element at a place
pub is_some-slice_get : {X : Type 0} (xs : List X) (k : ℕ) → is_some (slice_get xs k) ≡ nat_lt k (length xs)
is_some-slice_get [] k = grind (arith, common_steps)
is_some-slice_get (x ∷ xs) zero = grind (arith, common_steps)
is_some-slice_get (x ∷ xs) (suc k) = grind (arith, common_steps, is_some-slice_get xs k)

-- no element of a list without a first place that passes a test passes it
pub position-None : {X : Type 0} (p : X → Bool) (xs : List X) (d : X) → position p xs ≡ None → (k : ℕ) → k < length xs → p (get_or xs k d) ≡ false
position-None {X} p xs d h = none_from 0 xs (sym (position_from-zero p xs) ∙ h)
  where
    none_from : (start : ℕ) (ys : List X) → position_from p start ys ≡ None → (k : ℕ) → k < length ys → p (get_or ys k d) ≡ false
    none_from start [] e k less = absurd (omega (arith, less))
    none_from start (y ∷ ys) e zero less = grind (arith, common_steps, e)
    none_from start (y ∷ ys) e (suc k) less = none_from (start + 1) ys (grind (arith, common_steps, e)) k (omega (arith, less))

-- how many of some places are taken
taken_more : (here : Bool) (n start long rest : ℕ) → here ≡ nat_lt start long → rest ≡ min n (long - (start + 1)) → cond here (suc rest) rest ≡ min (suc n) (long - start)
taken_more true n start long rest is so =
    let less : start < long = grind (arith, common_steps, is) in omega (arith, less, so)
taken_more false n start long rest is so =
    let past : long ≤ start = grind (arith, common_steps, is) in omega (arith, past, so)

length-cond : {X : Type 0} (here : Bool) (x : X) (xs : List X) → length (cond here (x ∷ xs) xs) ≡ cond here (suc (length xs)) (length xs)
length-cond true x xs = refl
length-cond false x xs = refl

taken_from : {X : Type 0} (xs : List X) (start n : ℕ) → length (filter is_some (map (slice_get xs) (range_with_len start n))) ≡ min n (length xs - start)
taken_from xs start zero = omega arith
taken_from xs start (suc n) =
    length-cond (is_some (slice_get xs start)) (slice_get xs start) (filter is_some (map (slice_get xs) (range_with_len (start + 1) n)))
    ∙ taken_more (is_some (slice_get xs start)) n start (length xs) (length (filter is_some (map (slice_get xs) (range_with_len (start + 1) n)))) (is_some-slice_get xs start) (taken_from xs (start + 1) n)

in_places_are : {X : Type 0} (xs : List X) → in_places xs ≡ map (slice_get xs) (range_with_len 0 16)
unfolding in_places
in_places_are xs = refl

-- how many of 16 places are taken
pub taken_places : {X : Type 0} (xs : List X) → length (filter is_some (in_places xs)) ≡ min 16 (length xs)
taken_places xs = ap (λ places. length (filter is_some places)) (in_places_are xs) ∙ taken_from xs 0 16 ∙ omega arith

-- one more element beyond 16 or not
more_than : (n : ℕ) (last : Bool) → last ≡ nat_lt 15 n → (nat_lt 16 n || last) ≡ nat_lt 16 (n + 1)
more_than n last is = grind (arith, common_steps, is)

ranking_is : (after : Ranking) (places : List (Option Offer)) (more : Bool) → after.places ≡ places → after.more ≡ more → after ≡ record { places = places; more = more }
ranking_is after places more p m =
    let first : after ≡ record { places = places; more = after.more } = ap (λ ps. record after { places = ps }) p in
    first ∙ ap (λ b. record { places = places; more = b }) m

put_in : (one : Offer) (xs : List Offer) (after : Ranking) (place : ℕ) → position (gives_way one) (in_places xs) ≡ Some place → after.places ≡ take 16 (insert (in_places xs) place (Some one)) → after.more ≡ (nat_lt 16 (length xs) || is_some (slice_get xs 15)) → after ≡ ranking_of (inserted one xs)
put_in one xs after place found kept more =
    let at = position-Some (gives_way one) (in_places xs) place None found in
    let few : place < 16 = omega (arith, at.0, length-in_places xs) in
    let here : gives_way one (slice_get xs place) ≡ true = ap (gives_way one) (sym (get_or-in_places xs place None few)) ∙ at.1 in
    let before : (k : ℕ) → k < place → gives_way one (slice_get xs k) ≡ false = λ k less. ap (gives_way one) (sym (get_or-in_places xs k None (omega (arith, less, few)))) ∙ at.2 k less in
    let is : inserted one xs ≡ insert xs place one = inserted_at one xs place before here in
    let places : after.places ≡ in_places (inserted one xs) = kept ∙ in_places-insert xs place one few (long_enough one xs place before) ∙ ap in_places (sym is) in
    ranking_is after (in_places (inserted one xs)) (nat_lt 16 (length (inserted one xs))) places
    (more ∙ more_than (length xs) (is_some (slice_get xs 15)) (is_some-slice_get xs 15) ∙ ap (nat_lt 16) (sym (length-inserted one xs)))

-- what is kept of ordered interrupts with one more, where a place gives way to it
pub ranked_more : (one : Offer) (xs : List Offer) (old after : Ranking) (place : ℕ) → old ≡ ranking_of xs → position (gives_way one) old.places ≡ Some place → after.places ≡ take (length old.places) (insert old.places place (Some one)) → after.more ≡ (old.more || is_some (get_or old.places (length old.places - 1) None)) → after ≡ ranking_of (inserted one xs)
ranked_more one xs old after place is found kept more =
    let long : length (in_places xs) ≡ 16 = length-in_places xs in
    put_in one xs after place
    (subst (λ r. position (gives_way one) r.places ≡ Some place) is found)
    (subst (λ r. after.places ≡ take (length r.places) (insert r.places place (Some one))) is kept ∙ ap (λ n. take n (insert (in_places xs) place (Some one))) long)
    (subst (λ r. after.more ≡ (r.more || is_some (get_or r.places (length r.places - 1) None))) is more
    ∙ ap (λ n. nat_lt 16 (length xs) || is_some (get_or (in_places xs) (n - 1) None)) long
    ∙ ap (λ last. nat_lt 16 (length xs) || is_some last) (get_or-in_places xs 15 None (lit< tt)))

-- and where none does
pub ranked_past : (one : Offer) (xs : List Offer) (old : Ranking) → old ≡ ranking_of xs → position (gives_way one) old.places ≡ None → record old { more = true } ≡ ranking_of (inserted one xs)
ranked_past one xs old is none =
    let long : length (in_places xs) ≡ 16 = length-in_places xs in
    let past : (k : ℕ) → k < 16 → gives_way one (slice_get xs k) ≡ false =
    λ k few.
    ap (gives_way one) (sym (get_or-in_places xs k None few))
    ∙ position-None (gives_way one) (in_places xs) None (subst (λ r. position (gives_way one) r.places ≡ None) is none) k (omega (arith, few, long)) in
    let places : old.places ≡ in_places (inserted one xs) =
    ap (λ r. r.places) is
    ∙ in_places_all (inserted one xs) (in_places xs) long (λ k few. get_or-in_places xs k None few ∙ sym (inserted_past one xs 16 past k few)) in
    let many : 16 ≤ length xs = long_enough one xs 16 past in
    let more : true ≡ nat_lt 16 (length (inserted one xs)) = grind (arith, common_steps, many, length-inserted one xs) in
    ranking_is (record old { more = true }) (in_places (inserted one xs)) (nat_lt 16 (length (inserted one xs))) places more

-- nothing in any place
pub nothing_placed : {X : Type 0} → replicate 16 None ≡ in_places {X = X} []
unfolding in_places
nothing_placed = refl
