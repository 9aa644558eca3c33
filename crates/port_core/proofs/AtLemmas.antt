-- Lists of interrupts at an interface: which are there after a change, an arrival and a release.
use Rattle.std.proofs.Common.{◌≡◌, ◌≢◌, ℕ, suc, ◌+◌, ◌<◌, ◌≤◌, ◌||◌, not, Bool, true, false, cond, is_some, List, [], ◌∷◌, ◌++◌, map, filter, length, All, Option, Some, None, refl, sym, ap, subst, ◌∙◌, arith}
use Rattle.std.proofs.lemmas.List.{length-append, length-map}
use Rattle.std.proofs.lemmas.List.Elements.{All-head, All-tail, All-weaker, All-map, All-push, All-filter, filter-append}
use Rattle.core_words.specs.Words.{GuestShape, Key, is_same_key}
use Rattle.core_words.proofs.GicBase.KeyLemmas.{same_key, other_key}
use Rattle.port_core.specs.declared.at_list.AtIrq.{AtIrq}
use Rattle.port_core.specs.Local.{entry_for, is_at, without_at}
use Rattle.port_core.specs.Valid.{IsAt, IsOnce}

-- What is there of an interrupt.

-- it is one of the list, and of that interrupt
pub entry_is : (P : AtIrq → Type 0) (key : Key) (at : List AtIrq) (entry : AtIrq) → All P at → entry_for key at ≡ Some entry → P entry × (entry.key ≡ key)
entry_is P key [] entry all h = absurd (cc)
entry_is P key (one ∷ rest) entry all h = of (is_same_key one.key key) refl h (entry_is P key rest entry (All-tail P one rest all))
  where
    of : (b : Bool) → is_same_key one.key key ≡ b → cond b (Some one) (entry_for key rest) ≡ Some entry → (entry_for key rest ≡ Some entry → P entry × (entry.key ≡ key)) → P entry × (entry.key ≡ key)
    of true e f later = let same : one ≡ entry = cc in (subst P same (All-head P one rest all), ap (λ x. x.key) (sym same) ∙ same_key one.key key e)
    of false e f later = later f

-- Changes that leave each interrupt where it is.

pub is_at_mapped : (change : AtIrq → AtIrq) → ((entry : AtIrq) → (change entry).key ≡ entry.key) → (key : Key) (at : List AtIrq) → is_at key (map change at) ≡ is_at key at
is_at_mapped change keeps key [] = refl
is_at_mapped change keeps key (one ∷ rest) = ap (λ k. is_some (cond (is_same_key k key) (Some (change one)) (entry_for key (map change rest)))) (keeps one) ∙ of (is_same_key one.key key) (is_at_mapped change keeps key rest)
  where
    of : (b : Bool) → is_at key (map change rest) ≡ is_at key rest → is_some (cond b (Some (change one)) (entry_for key (map change rest))) ≡ is_some (cond b (Some one) (entry_for key rest))
    of true later = refl
    of false later = later

count_mapped : (change : AtIrq → AtIrq) → ((entry : AtIrq) → (change entry).key ≡ entry.key) → (key : Key) (at : List AtIrq) → length (filter (λ entry. is_same_key entry.key key) (map change at)) ≡ length (filter (λ entry. is_same_key entry.key key) at)
count_mapped change keeps key [] = refl
count_mapped change keeps key (one ∷ rest) =
    ap (λ k. length (cond (is_same_key k key) (change one ∷ filter (λ entry. is_same_key entry.key key) (map change rest)) (filter (λ entry. is_same_key entry.key key) (map change rest)))) (keeps one) ∙ of (is_same_key one.key key) (count_mapped change keeps key rest)
  where
    of : (b : Bool) → length (filter (λ entry. is_same_key entry.key key) (map change rest)) ≡ length (filter (λ entry. is_same_key entry.key key) rest)
        → length (cond b (change one ∷ filter (λ entry. is_same_key entry.key key) (map change rest)) (filter (λ entry. is_same_key entry.key key) (map change rest)))
        ≡ length (cond b (one ∷ filter (λ entry. is_same_key entry.key key) rest) (filter (λ entry. is_same_key entry.key key) rest))
    of true later = ap suc later
    of false later = later

-- An arrival.

pub is_at_added : (key : Key) (at : List AtIrq) (entry : AtIrq) → is_at key (at ++ entry ∷ []) ≡ (is_at key at || is_same_key entry.key key)
is_at_added key [] entry = of (is_same_key entry.key key)
  where
    of : (b : Bool) → is_some (cond {A = Option AtIrq} b (Some entry) None) ≡ b
    of true = refl
    of false = refl
is_at_added key (one ∷ rest) entry = of (is_same_key one.key key) (is_at_added key rest entry)
  where
    of : (b : Bool) → is_at key (rest ++ entry ∷ []) ≡ (is_at key rest || is_same_key entry.key key) → is_some (cond b (Some one) (entry_for key (rest ++ entry ∷ []))) ≡ (is_some (cond b (Some one) (entry_for key rest)) || is_same_key entry.key key)
    of true later = refl
    of false later = later

-- one that is not there is in the list no time
none_at : (key : Key) (at : List AtIrq) → is_at key at ≡ false → length (filter (λ entry. is_same_key entry.key key) at) ≡ 0
none_at key [] h = refl
none_at key (one ∷ rest) h = of (is_same_key one.key key) h (none_at key rest)
  where
    of : (b : Bool) → is_some (cond b (Some one) (entry_for key rest)) ≡ false → (is_at key rest ≡ false → length (filter (λ entry. is_same_key entry.key key) rest) ≡ 0) → length (cond b (one ∷ filter (λ entry. is_same_key entry.key key) rest) (filter (λ entry. is_same_key entry.key key) rest)) ≡ 0
    of true e later = absurd (cc)
    of false e later = later e

-- A release.

pub is_at_released : (key : Key) (at : List AtIrq) → is_at key (without_at key at) ≡ false
is_at_released key [] = refl
is_at_released key (one ∷ rest) = of (is_same_key one.key key) refl (is_at_released key rest)
  where
    of : (b : Bool) → is_same_key one.key key ≡ b → is_at key (without_at key rest) ≡ false → is_at key (cond (not b) (one ∷ without_at key rest) (without_at key rest)) ≡ false
    of true e later = later
    of false e later = ap (λ c. is_some (cond c (Some one) (entry_for key (without_at key rest)))) e ∙ later

pub is_at_without : (key other : Key) (at : List AtIrq) → other ≢ key → is_at other (without_at key at) ≡ is_at other at
is_at_without key other [] differ = refl
is_at_without key other (one ∷ rest) differ = of (is_same_key one.key key) refl (is_at_without key other rest differ)
  where
    kept : (c : Bool) → is_at other (without_at key rest) ≡ is_at other rest → is_some (cond c (Some one) (entry_for other (without_at key rest))) ≡ is_some (cond c (Some one) (entry_for other rest))
    kept true later = refl
    kept false later = later

    of : (b : Bool) → is_same_key one.key key ≡ b → is_at other (without_at key rest) ≡ is_at other rest → is_at other (cond (not b) (one ∷ without_at key rest) (without_at key rest)) ≡ is_some (cond (is_same_key one.key other) (Some one) (entry_for other rest))
    of true e later =
        let no : is_same_key one.key other ≡ false = other_key one.key other (λ f. differ (sym f ∙ same_key one.key key e)) in
        later ∙ sym (ap (λ c. is_some (cond c (Some one) (entry_for other rest))) no)
    of false e later = kept (is_same_key one.key other) later

fewer_twice : (p q : AtIrq → Bool) (at : List AtIrq) → length (filter p (filter q at)) ≤ length (filter p at)
fewer_twice p q [] = omega arith
fewer_twice p q (one ∷ rest) = of (q one) (p one) refl (fewer_twice p q rest)
  where
    of : (b c : Bool) → p one ≡ c → length (filter p (filter q rest)) ≤ length (filter p rest) → length (filter p (cond b (one ∷ filter q rest) (filter q rest))) ≤ length (cond c (one ∷ filter p rest) (filter p rest))
    of true true e less = rw e (omega (arith, less))
    of true false e less = rw e less
    of false true e less = omega (arith, less)
    of false false e less = less

fewer : (q : AtIrq → Bool) (at : List AtIrq) → length (filter q at) ≤ length at
fewer q [] = omega arith
fewer q (one ∷ rest) = of (q one) (fewer q rest)
  where
    of : (b : Bool) → length (filter q rest) ≤ length rest → length (cond b (one ∷ filter q rest) (filter q rest)) ≤ suc (length rest)
    of true less = omega (arith, less)
    of false less = omega (arith, less)

-- What an interface can have.

-- each is one that it can have, none is there twice, and there are 16 at most
pub record AreAt (shape : GuestShape) (actor : ℕ) (at : List AtIrq) : Type 0 where
  pub each : All (IsAt shape actor) at
  pub once : IsOnce at
  pub room : length at ≤ 16

pub are_mapped :
    (shape : GuestShape) (actor : ℕ) (at : List AtIrq) (change : AtIrq → AtIrq) → ((entry : AtIrq) → (change entry).key ≡ entry.key) → ((entry : AtIrq) → IsAt shape actor entry → IsAt shape actor (change entry)) → AreAt shape actor at
    → AreAt shape actor (map change at)
are_mapped shape actor at change keeps valid are =
    record {
      each = All-map (IsAt shape actor) change at (All-weaker (IsAt shape actor) (λ entry. IsAt shape actor (change entry)) valid at are.each);
      once = λ key. subst (λ n. n ≤ 1) (sym (count_mapped change keeps key at)) (are.once key);
      room = subst (λ n. n ≤ 16) (sym (length-map at change)) are.room;
    }

pub are_added : (shape : GuestShape) (actor : ℕ) (at : List AtIrq) (entry : AtIrq) → IsAt shape actor entry → is_at entry.key at ≡ false → length at < 16 → AreAt shape actor at → AreAt shape actor (at ++ entry ∷ [])
are_added shape actor at entry is none room are =
    record {
      each = All-push (IsAt shape actor) at entry are.each is;
      once = λ key. subst (λ n. n ≤ 1) (sym (ap length (filter-append (λ one. is_same_key one.key key) at (entry ∷ [])) ∙ length-append (filter (λ one. is_same_key one.key key) at) (filter (λ one. is_same_key one.key key) (entry ∷ [])))) (of key (is_same_key entry.key key) refl);
      room = subst (λ n. n ≤ 16) (sym (length-append at (entry ∷ []))) (omega (arith, room));
    }
  where
    of : (key : Key) (b : Bool) → is_same_key entry.key key ≡ b → length (filter (λ one. is_same_key one.key key) at) + length (cond b (entry ∷ []) []) ≤ 1
    of key true e = let zero : length (filter (λ one. is_same_key one.key key) at) ≡ 0 = none_at key at (subst (λ k. is_at k at ≡ false) (same_key entry.key key e) none) in omega (arith, zero)
    of key false e = let few = are.once key in omega (arith, few)

pub are_without : (shape : GuestShape) (actor : ℕ) (at : List AtIrq) (key : Key) → AreAt shape actor at → AreAt shape actor (without_at key at)
are_without shape actor at key are =
    let kept : AtIrq → Bool = λ entry. not (is_same_key entry.key key) in
    record {
      each = All-filter kept (IsAt shape actor) at are.each;
      once = λ k. let less = fewer_twice (λ entry. is_same_key entry.key k) kept at in let few = are.once k in omega (arith, less, few);
      room = let less = fewer kept at in let few = are.room in omega (arith, less, few);
    }
