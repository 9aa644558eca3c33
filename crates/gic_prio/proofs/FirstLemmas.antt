-- The first of some candidates.
use Rattle.std.proofs.Common.{◌≡◌, ◌≢◌, IsSome, zero, suc, All, Contains, ◌++◌, List, [], ◌∷◌, Bool, true, false, not, Some, None, ◌⊎◌, inl, inr, refl, sym, ap, ◌∙◌, append_assoc, append-nil, subst, arith, find, cond}
use Rattle.std.specs.List.{list_all, list_any}
use Rattle.std.proofs.lemmas.Grind.{common_steps}
use Rattle.std.proofs.lemmas.Option.{none-some, same_Some}
use Rattle.std.proofs.lemmas.List.Folds.{list_any-append, list_all-append}
use Rattle.gic_prio.specs.declared.candidate.Candidate.{Candidate}
use Rattle.gic_prio.specs.Delivery.{is_before, first_of}
use Rattle.gic_prio.specs.Laws.{IsFirst}

-- no candidate is before itself
pub before_itself : (a : Candidate) → is_before a a ≡ false
before_itself a = grind (arith, common_steps)

-- what is before one that is not after another is before that one
pub before_further : (a b c : Candidate) → is_before a b ≡ true → is_before c b ≡ false → is_before a c ≡ true
before_further a b c h k = grind (arith, common_steps)

-- the candidates have a first one: it is before each that stands earlier, and none that stands later is before it
pub record HasFirst (seen : List Candidate) (b : Candidate) : Type 0 where
  pub front : List Candidate
  pub back : List Candidate
  pub is : seen ≡ front ++ b ∷ back
  pub before_front : list_all (is_before b) front ≡ true
  pub after_back : list_any (λ x. is_before x b) back ≡ false

-- a search passes over what fails
pub find_past : (p : Candidate → Bool) (front rest : List Candidate) → list_all (λ x. not (p x)) front ≡ true → find p (front ++ rest) ≡ find p rest
find_past p [] rest h = refl
find_past p (x ∷ front) rest h = grind (arith, common_steps, find_past p front rest)

-- a search finds one of the list that passes
pub find_passes : (p : Candidate → Bool) (xs : List Candidate) (y : Candidate) → find p xs ≡ Some y → p y ≡ true
find_passes p [] y h = absurd (none-some y h)
find_passes p (x ∷ xs) y h = grind (arith, common_steps, find_passes p xs y)

pub find_among : (p : Candidate → Bool) (xs : List Candidate) (y : Candidate) → find p xs ≡ Some y → Contains xs y
find_among p [] y h = absurd (none-some y h)
find_among p (x ∷ xs) y h =
    elim (p x) as (λ v. p x ≡ v → Contains (x ∷ xs) y) [
      | true ↦ (λ e. (0, omega arith, grind (arith, common_steps, h)))
      | false ↦ (λ e. let rest : Contains xs y = find_among p xs y (grind (arith, common_steps, h)) in (suc rest.0, omega (arith, rest.1), rest.2))
    ] refl

-- no element passes a test
pub All-list_any : (q : Candidate → Bool) (xs : List Candidate) → list_any q xs ≡ false → All (λ x. q x ≡ false) xs
All-list_any q [] h k d l = absurd (omega arith)
All-list_any q (x ∷ xs) h zero d l = grind (arith, common_steps)
All-list_any q (x ∷ xs) h (suc k) d l = All-list_any q xs (grind (arith, common_steps)) k d (omega (arith, l))

-- what passes one test passes another that it implies
pub list_all_weaker : (p q : Candidate → Bool) → ((x : Candidate) → p x ≡ true → q x ≡ true) → (xs : List Candidate) → list_all p xs ≡ true → list_all q xs ≡ true
list_all_weaker p q h [] k = refl
list_all_weaker p q h (x ∷ xs) k = grind (arith, common_steps, h x, list_all_weaker p q h xs)

-- what passes one test fails another that it excludes
pub list_any_none : (p q : Candidate → Bool) → ((x : Candidate) → p x ≡ true → q x ≡ false) → (xs : List Candidate) → list_all p xs ≡ true → list_any q xs ≡ false
list_any_none p q h [] k = refl
list_any_none p q h (x ∷ xs) k = grind (arith, common_steps, h x, list_any_none p q h xs)

-- what fails one test passes another that it implies
pub list_all_rest : (p q : Candidate → Bool) → ((x : Candidate) → p x ≡ false → q x ≡ true) → (xs : List Candidate) → list_any p xs ≡ false → list_all q xs ≡ true
list_all_rest p q h [] k = refl
list_all_rest p q h (x ∷ xs) k = grind (arith, common_steps, h x, list_all_rest p q h xs)

-- two candidates are not before each other
pub before_back : (a b : Candidate) → is_before a b ≡ true → is_before b a ≡ false
before_back a b h = grind (arith, common_steps)

-- the order is transitive
pub before_through : (a b c : Candidate) → is_before a b ≡ true → is_before b c ≡ true → is_before a c ≡ true
before_through a b c h k = grind (arith, common_steps)

-- no candidate of a list is before one
abbrev none_before : List Candidate → Candidate → Bool
none_before seen one = not (list_any (λ other. is_before other one) seen)

-- one that stands after the first in a list is not the first
later_fails : (front back : List Candidate) (b x : Candidate) → is_before b x ≡ true → not (none_before (front ++ b ∷ back) x) ≡ true
later_fails front back b x h = grind (arith, common_steps, list_any-append (λ other. is_before other x) front (b ∷ back))

-- the first one is before those that stand earlier, so none of them is before it
first_passes : (front back : List Candidate) (b : Candidate) → list_all (is_before b) front ≡ true → list_any (λ x. is_before x b) back ≡ false → none_before (front ++ b ∷ back) b ≡ true
first_passes front back b h k =
    grind (arith, common_steps, list_any-append (λ other. is_before other b) front (b ∷ back), list_any_none (is_before b) (λ x. is_before x b) (before_back b) front h, before_itself b)

-- a list that has a first one finds it
found_in : (front back : List Candidate) (b : Candidate) → list_all (is_before b) front ≡ true → list_any (λ x. is_before x b) back ≡ false → first_of (front ++ b ∷ back) ≡ Some b
found_in front back b h k =
    let test : Candidate → Bool = none_before (front ++ b ∷ back) in
    let passed : list_all (λ x. not (test x)) front ≡ true = list_all_weaker (is_before b) (λ x. not (test x)) (later_fails front back b) front h in
    find_past test front (b ∷ back) passed ∙ rw (first_passes front back b h k)

pub found : (seen : List Candidate) (b : Candidate) → HasFirst seen b → first_of seen ≡ Some b
found seen b has = rw has.is (found_in has.front has.back b has.before_front has.after_back)

-- one more candidate that is not before the first leaves it the first
pub kept : (seen : List Candidate) (b c : Candidate) → HasFirst seen b → is_before c b ≡ false → HasFirst (seen ++ c ∷ []) b
kept seen b c has h =
    record {
      front = has.front;
      back = has.back ++ c ∷ [];
      is = rw has.is (append_assoc has.front (b ∷ has.back) (c ∷ []));
      before_front = has.before_front;
      after_back = grind (arith, common_steps, list_any-append (λ x. is_before x b) has.back (c ∷ []), has.after_back);
    }

-- one more candidate that is before the first is the first
pub replaced : (seen : List Candidate) (b c : Candidate) → HasFirst seen b → is_before c b ≡ true → HasFirst (seen ++ c ∷ []) c
replaced seen b c has h =
    let front : list_all (is_before c) has.front ≡ true = list_all_weaker (is_before b) (is_before c) (λ x k. before_through c b x h k) has.front has.before_front in
    let back : list_all (is_before c) has.back ≡ true = list_all_rest (λ x. is_before x b) (is_before c) (λ x k. before_further c b x h k) has.back has.after_back in
    let all : list_all (is_before c) (has.front ++ b ∷ has.back) ≡ true = grind (arith, common_steps, list_all-append (is_before c) has.front (b ∷ has.back)) in
    record {
      front = seen;
      back = [];
      is = refl;
      before_front = rw has.is all;
      after_back = refl;
    }

-- a list is empty or has a first one
pub more : (xs seen : List Candidate) (b : Candidate) → HasFirst seen b → (d : Candidate) × HasFirst (seen ++ xs) d
more [] seen b has = (b, rw append-nil has)
more (c ∷ xs) seen b has =
    let next : (d : Candidate) × HasFirst (seen ++ c ∷ []) d =
    elim (is_before c b) as (λ v. is_before c b ≡ v → (d : Candidate) × HasFirst (seen ++ c ∷ []) d) [ true ↦ (λ e. (c, replaced seen b c has e)) | false ↦ (λ e. (b, kept seen b c has e)) ] refl in
    let rest : (d : Candidate) × HasFirst ((seen ++ c ∷ []) ++ xs) d = more xs (seen ++ c ∷ []) next.0 next.1 in
    (rest.0, rw (append_assoc seen (c ∷ []) xs) at rest.1)

-- the only candidate is the first
pub alone : (c : Candidate) → HasFirst (c ∷ []) c
alone c = record { front = []; back = []; is = refl; before_front = refl; after_back = refl }

pub empty_or_first : (xs : List Candidate) → (xs ≡ []) ⊎ ((b : Candidate) × HasFirst xs b)
empty_or_first [] = inl refl
empty_or_first (c ∷ xs) = inr (more xs (c ∷ []) c (alone c))

-- nothing was first, so one more is
pub first_alone : (seen : List Candidate) (c : Candidate) → None ≡ first_of seen → first_of (seen ++ c ∷ []) ≡ Some c
first_alone seen c e =
    elim (empty_or_first seen) [ inl is ↦ rw is (found (c ∷ []) c (alone c)) | inr has ↦ absurd (none-some has.0 (e ∙ found seen has.0 has.1)) ]

-- the first stays the first, or one more that is before it is
pub first_next : (seen : List Candidate) (b c : Candidate) → Some b ≡ first_of seen → first_of (seen ++ c ∷ []) ≡ Some (cond (is_before c b) c b)
first_next seen b c e =
    elim (empty_or_first seen) [
      | inl is ↦ absurd (none-some b (sym (e ∙ ap first_of is)))
      | inr has ↦
          let same : has.0 ≡ b = sym (same_Some b has.0 (e ∙ found seen has.0 has.1)) in
          let first : HasFirst seen b = subst (HasFirst seen) same has.1 in
          elim (is_before c b) as (λ v. is_before c b ≡ v → first_of (seen ++ c ∷ []) ≡ Some (cond v c b)) [
            | true ↦ (λ h. found (seen ++ c ∷ []) c (replaced seen b c first h))
            | false ↦ (λ h. found (seen ++ c ∷ []) b (kept seen b c first h))
          ] refl
    ]

-- the first of some candidates is one of them, and none is before it
pub first_is : (xs : List Candidate) (b : Candidate) → first_of xs ≡ Some b → IsFirst xs b
first_is xs b e =
    let passed : none_before xs b ≡ true = find_passes (none_before xs) xs b e in
    record {
      among = find_among (none_before xs) xs b e;
      least = All-list_any (λ other. is_before other b) xs (grind (arith, common_steps, passed));
    }

-- some candidates have a first one
pub first_there : (xs : List Candidate) → xs ≢ [] → IsSome (first_of xs)
first_there xs h = elim (empty_or_first xs) [ inl is ↦ absurd (h is) | inr has ↦ rw (found xs has.0 has.1) refl ]
