-- Elements that move one place further, and the last one out.
use Rattle.std.proofs.Common.{◌≡◌, ◌<◌, ◌+◌, ◌-◌, ℕ, suc, List, [], ◌∷◌, ◌++◌, length, get_or, take, drop, sym, ap, ◌∙◌, append-nil, length-append, subst, arith}
use Rattle.std.specs.Prelude.{insert}
use Rattle.std.proofs.Math.ListN.{set}
use Rattle.std.proofs.Math.Seq.{drop-cons, take-append-add}
use Rattle.std.proofs.lemmas.List.{drop_all, take_all, length-drop, get_or-drop, take-append-drop}
use borrow.Rule.Slice.PartMut.{put_mid}

-- the last element alone
last_alone : {X : Type 0} (d x : X) (rest : List X) → drop (length rest) (x ∷ rest) ≡ get_or (x ∷ rest) (length rest) d ∷ []
last_alone d x rest =
    drop-cons (x ∷ rest) (length rest) d (omega arith) ∙ ap (λ left. get_or (x ∷ rest) (length rest) d ∷ left) (drop_all (suc (length rest)) (x ∷ rest) (omega arith))

-- all elements one place further, with the last one in front
turned : {X : Type 0} (d : X) (xs after : List X) → 0 < length xs → after ≡ drop (length xs - 1) xs ++ take (length xs - 1) xs → after ≡ get_or xs (length xs - 1) d ∷ take (length xs - 1) xs
turned d [] after some is = absurd (omega (arith, some))
turned d (x ∷ rest) after some is =
    let less : length (x ∷ rest) - 1 ≡ length rest = omega arith in
    let moved : after ≡ drop (length rest) (x ∷ rest) ++ take (length rest) (x ∷ rest) = subst (λ n. after ≡ drop n (x ∷ rest) ++ take n (x ∷ rest)) less is in
    subst (λ n. after ≡ get_or (x ∷ rest) n d ∷ take n (x ∷ rest)) (sym less) (moved ∙ ap (λ last. last ++ take (length rest) (x ∷ rest)) (last_alone d x rest))

-- a value in the place of the one that came to the front
pub set_turned : {X : Type 0} (d v : X) (xs after : List X) → 0 < length xs → after ≡ drop (length xs - 1) xs ++ take (length xs - 1) xs → set after 0 v ≡ take (length xs) (v ∷ xs)
set_turned d v [] after some is = absurd (omega (arith, some))
set_turned d v (x ∷ rest) after some is =
    let less : length (x ∷ rest) - 1 ≡ length rest = omega arith in
    ap (λ ys. set ys 0 v) (turned d (x ∷ rest) after some is) ∙ ap (λ n. v ∷ take n (x ∷ rest)) less

pub front_turned : {X : Type 0} (d e : X) (xs after : List X) → 0 < length xs → after ≡ drop (length xs - 1) xs ++ take (length xs - 1) xs → get_or after 0 e ≡ get_or xs (length xs - 1) d
front_turned d e xs after some is = ap (λ ys. get_or ys 0 e) (turned d xs after some is)

-- the part from a place on is what a slice of it has
part_from : {X : Type 0} (place : ℕ) (xs : List X) → take (length xs - place) (drop place xs) ≡ drop place xs
part_from place xs = take_all (length xs - place) (drop place xs) (omega (arith, length-drop place xs))

moved_in : {X : Type 0} (v : X) (place : ℕ) (xs part : List X) → place < length xs → part ≡ take (length (drop place xs)) (v ∷ drop place xs) → put_mid place (length xs - place) xs part ≡ take (length xs) (insert xs place v)
moved_in v place xs part within is =
    let long : length (drop place xs) ≡ length xs - place = length-drop place xs in
    let whole : length (take place xs) + length (drop place xs) ≡ length xs = sym (length-append (take place xs) (drop place xs)) ∙ ap length (take-append-drop place xs) in
    ap (λ left. take place xs ++ (part ++ left)) (drop_all (length xs - place) (drop place xs) (omega (arith, long)))
    ∙ ap (λ ys. take place xs ++ ys) (append-nil part ∙ is)
    ∙ sym (take-append-add (take place xs) (v ∷ drop place xs) (length (drop place xs)))
    ∙ ap (λ n. take n (take place xs ++ v ∷ drop place xs)) whole

-- the part from a place on moved, with a value in front
pub put_mid_moved : {X : Type 0} (v : X) (place : ℕ) (xs part : List X) → place < length xs → part ≡ take (length (take (length xs - place) (drop place xs))) (v ∷ take (length xs - place) (drop place xs)) → put_mid place (length xs - place) xs part ≡ take (length xs) (insert xs place v)
put_mid_moved v place xs part within is = moved_in v place xs part within (subst (λ tail. part ≡ take (length tail) (v ∷ tail)) (part_from place xs) is)

-- the last of the part is the last of all
pub last_of_part : {X : Type 0} (d : X) (place : ℕ) (xs : List X) → place < length xs → get_or (take (length xs - place) (drop place xs)) (length (take (length xs - place) (drop place xs)) - 1) d ≡ get_or xs (length xs - 1) d
last_of_part d place xs within =
    ap (λ tail. get_or tail (length tail - 1) d) (part_from place xs)
    ∙ get_or-drop place xs (length (drop place xs) - 1) d
    ∙ ap (λ n. get_or xs n d) (omega (arith, length-drop place xs, within))
