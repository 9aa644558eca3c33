-- Where an interrupt stands: at one interface at most.
use Rattle.std.proofs.Common.{◌≡◌, ◌≢◌, ℕ, ◌<◌, ◌&&◌, ◌||◌, not, zero, suc, Bool, true, false, cond, IsTrue, List, [], ◌∷◌, ◌++◌, map, filter, find, length, Some, None, refl, sym, ap, ◌∙◌, slice_index_or}
use Rattle.std.specs.List.{list_any}
use Rattle.std.proofs.lemmas.Bool.{not-true}
use Rattle.std.proofs.lemmas.List.{get_or-set_same, get_or-set_other}
use Rattle.std.proofs.lemmas.List.Elements.{filter-append}
use Rattle.floor_histories.specs.Words.{Key, is_same_key}
use Rattle.floor_histories.proofs.GicBase.KeyLemmas.{same_key, same_itself}
use Rattle.floor_histories.specs.Calls.{Entry}
use Rattle.floor_histories.specs.Histories.{Ideal, Standing, standing_at, is_of, is_home, with_standing, with_entry, without}

-- what a vCPU's interface has of an interrupt
abbrev pub of_key : Ideal → Key → ℕ → List Standing
of_key state key vcpu = filter (is_of key) (standing_at state vcpu)

abbrev pub standing_of_key : Key → Entry → Standing
standing_of_key key entry = record { key = key; entry = entry }

-- Lists.

pub none_filtered : {X : Type 0} (p : X → Bool) (xs : List X) → list_any p xs ≡ false → filter p xs ≡ []
none_filtered p [] h = refl
none_filtered p (x ∷ xs) h = of (p x) h (none_filtered p xs)
  where
    of : (b : Bool) → (b || list_any p xs) ≡ false → (list_any p xs ≡ false → filter p xs ≡ []) → cond b (x ∷ filter p xs) (filter p xs) ≡ []
    of true h later = absurd (cc)
    of false h later = later h

pub found_none : {X : Type 0} (p : X → Bool) (xs : List X) → filter p xs ≡ [] → find p xs ≡ None
found_none p [] h = refl
found_none p (x ∷ xs) h = of (p x) h (found_none p xs)
  where
    of : (b : Bool) → cond b (x ∷ filter p xs) (filter p xs) ≡ [] → (filter p xs ≡ [] → find p xs ≡ None) → cond b (Some x) (find p xs) ≡ None
    of true h later = absurd (cc)
    of false h later = later h

pub found_first : {X : Type 0} (p : X → Bool) (xs : List X) (one : X) (rest : List X) → filter p xs ≡ one ∷ rest → find p xs ≡ Some one
found_first p [] one rest h = absurd (cc)
found_first p (x ∷ xs) one rest h = of (p x) h (found_first p xs one rest)
  where
    of : (b : Bool) → cond b (x ∷ filter p xs) (filter p xs) ≡ one ∷ rest → (filter p xs ≡ one ∷ rest → find p xs ≡ Some one) → cond b (Some x) (find p xs) ≡ Some one
    of true h later = cc
    of false h later = later h

-- a test of those that pass another
pub any_filtered : {X : Type 0} (p q : X → Bool) (xs : List X) → list_any (λ x. p x && q x) xs ≡ list_any q (filter p xs)
any_filtered p q [] = refl
any_filtered p q (x ∷ xs) = of (p x) (any_filtered p q xs)
  where
    of : (b : Bool) → list_any (λ x. p x && q x) xs ≡ list_any q (filter p xs) → ((b && q x) || list_any (λ x. p x && q x) xs) ≡ list_any q (cond b (x ∷ filter p xs) (filter p xs))
    of true later = ap (λ b. q x || b) later
    of false later = later

pub any_nowhere : {X : Type 0} (p : X → Bool) (xss : List (List X)) → ((n : ℕ) → list_any p (slice_index_or xss n []) ≡ false) → list_any (list_any p) xss ≡ false
any_nowhere p [] none = refl
any_nowhere p (xs ∷ xss) none = ap (λ b. b || list_any (list_any p) xss) (none zero) ∙ any_nowhere p xss (λ n. none (suc n))

pub any_somewhere : {X : Type 0} (p : X → Bool) (xss : List (List X)) (n : ℕ) → list_any p (slice_index_or xss n []) ≡ true → list_any (list_any p) xss ≡ true
any_somewhere p [] n h = absurd (cc)
any_somewhere p (xs ∷ xss) zero h = ap (λ b. b || list_any (list_any p) xss) h
any_somewhere p (xs ∷ xss) (suc n) h = of (list_any p xs) (any_somewhere p xss n h)
  where
    of : (b : Bool) → list_any (list_any p) xss ≡ true → (b || list_any (list_any p) xss) ≡ true
    of true later = refl
    of false later = later

pub any_at_none : {X : Type 0} (p : X → Bool) (xss : List (List X)) → list_any (list_any p) xss ≡ false → (n : ℕ) → list_any p (slice_index_or xss n []) ≡ false
any_at_none p xss h n = of (list_any p (slice_index_or xss n [])) refl
  where
    of : (b : Bool) → list_any p (slice_index_or xss n []) ≡ b → b ≡ false
    of true e = absurd (let there = any_somewhere p xss n e in cc)
    of false e = refl

-- a change of each, one that keeps what it is tested for
pub filter_changed : {X : Type 0} (p : X → Bool) (f : X → X) → ((x : X) → p (f x) ≡ p x) → (xs : List X) → filter p (map f xs) ≡ map f (filter p xs)
filter_changed p f same [] = refl
filter_changed p f same (x ∷ xs) = ap (λ b. cond b (f x ∷ filter p (map f xs)) (filter p (map f xs))) (same x) ∙ of (p x) (filter_changed p f same xs)
  where
    of : (b : Bool) → filter p (map f xs) ≡ map f (filter p xs) → cond b (f x ∷ filter p (map f xs)) (filter p (map f xs)) ≡ map f (cond b (x ∷ filter p xs) (filter p xs))
    of true later = ap (λ ys. f x ∷ ys) later
    of false later = later

-- Interfaces.

-- an interrupt that is home is at none
pub home_nowhere : (state : Ideal) (key : Key) → IsTrue (is_home state key) → (vcpu : ℕ) → of_key state key vcpu ≡ []
home_nowhere state key h vcpu = none_filtered (is_of key) (standing_at state vcpu) (any_at_none (is_of key) state.at (not-true (list_any (list_any (is_of key)) state.at) h) vcpu)

module _ (state : Ideal) (key : Key) (vcpu : ℕ) (standing : List Standing) where
  pub put_here : vcpu < length state.at → of_key (with_standing state vcpu standing) key vcpu ≡ filter (is_of key) standing
  put_here there = ap (filter (is_of key)) (get_or-set_same state.at vcpu standing [] there)

  pub put_other : (other : ℕ) → other ≢ vcpu → of_key (with_standing state vcpu standing) key other ≡ of_key state key other
  put_other other differ = ap (filter (is_of key)) (get_or-set_other state.at vcpu other standing [] differ)

-- one that gets there
pub added_other : (key : Key) (standing : List Standing) (one : Standing) → is_of key one ≡ false → filter (is_of key) (standing ++ one ∷ []) ≡ filter (is_of key) standing
added_other key standing one h = filter-append (is_of key) standing (one ∷ []) ∙ ap (λ b. filter (is_of key) standing ++ cond b (one ∷ []) []) h ∙ append_none (filter (is_of key) standing)
  where
    append_none : (xs : List Standing) → xs ++ [] ≡ xs
    append_none [] = refl
    append_none (x ∷ xs) = ap (λ ys. x ∷ ys) (append_none xs)

pub added_key : (key : Key) (standing : List Standing) (entry : Entry) → filter (is_of key) standing ≡ [] → filter (is_of key) (standing ++ standing_of_key key entry ∷ []) ≡ standing_of_key key entry ∷ []
added_key key standing entry none =
    filter-append (is_of key) standing (standing_of_key key entry ∷ []) ∙ ap (λ xs. xs ++ filter (is_of key) (standing_of_key key entry ∷ [])) none ∙ ap (λ b. cond b (standing_of_key key entry ∷ []) []) (same_itself key)

-- one that has another entry
abbrev put_entry : Key → Entry → Standing → Standing
put_entry key entry one = cond (is_of key one) (record one { entry = entry }) one

entry_keeps_key : (key other : Key) (entry : Entry) (one : Standing) → is_of key (put_entry other entry one) ≡ is_of key one
entry_keeps_key key other entry one = of (is_of other one)
  where
    of : (b : Bool) → is_of key (cond b (record one { entry = entry }) one) ≡ is_of key one
    of true = refl
    of false = refl

pub entry_other : (key other : Key) (entry : Entry) (standing : List Standing) → is_same_key key other ≡ false → filter (is_of key) (with_entry other entry standing) ≡ filter (is_of key) standing
entry_other key other entry [] h = refl
entry_other key other entry (one ∷ standing) h = of (is_of key one) refl (is_of other one) refl (entry_other key other entry standing h)
  where
    clash : (b : Bool) → is_same_key key other ≡ b → is_of key one ≡ true → is_of other one ≡ true → b ≡ true
    clash b e mine other_is = sym e ∙ ap (λ k. is_same_key k other) (sym (same_key one.key key mine)) ∙ other_is

    of : (b : Bool) → is_of key one ≡ b → (c : Bool) → is_of other one ≡ c → filter (is_of key) (with_entry other entry standing) ≡ filter (is_of key) standing
        → cond (is_of key (cond c (record one { entry = entry }) one)) (cond c (record one { entry = entry }) one ∷ filter (is_of key) (with_entry other entry standing)) (filter (is_of key) (with_entry other entry standing)) ≡ cond b (one ∷ filter (is_of key) standing) (filter (is_of key) standing)
    of true e true k later = absurd (let both = clash false h e k in cc)
    of true e false k later = ap (λ s. cond s (one ∷ filter (is_of key) (with_entry other entry standing)) (filter (is_of key) (with_entry other entry standing))) e ∙ ap (λ xs. one ∷ xs) later
    of false e true k later = ap (λ s. cond s (record one { entry = entry } ∷ filter (is_of key) (with_entry other entry standing)) (filter (is_of key) (with_entry other entry standing))) e ∙ later
    of false e false k later = ap (λ s. cond s (one ∷ filter (is_of key) (with_entry other entry standing)) (filter (is_of key) (with_entry other entry standing))) e ∙ later

pub entry_key : (key : Key) (old new : Entry) (standing : List Standing) → filter (is_of key) standing ≡ standing_of_key key old ∷ [] → filter (is_of key) (with_entry key new standing) ≡ standing_of_key key new ∷ []
entry_key key old new standing is = filter_changed (is_of key) (put_entry key new) (entry_keeps_key key key new) standing ∙ ap (map (put_entry key new)) is ∙ ap (λ b. cond b (standing_of_key key new) (standing_of_key key old) ∷ []) (same_itself key)

-- one that leaves
pub left_other : (key other : Key) (standing : List Standing) → is_same_key key other ≡ false → filter (is_of key) (without other standing) ≡ filter (is_of key) standing
left_other key other [] h = refl
left_other key other (one ∷ standing) h = of (is_of key one) refl (is_of other one) refl (left_other key other standing h)
  where
    clash : (b : Bool) → is_same_key key other ≡ b → is_of key one ≡ true → is_of other one ≡ true → b ≡ true
    clash b e mine other_is = sym e ∙ ap (λ k. is_same_key k other) (sym (same_key one.key key mine)) ∙ other_is

    of : (b : Bool) → is_of key one ≡ b → (c : Bool) → is_of other one ≡ c → filter (is_of key) (without other standing) ≡ filter (is_of key) standing
        → filter (is_of key) (cond (not c) (one ∷ without other standing) (without other standing)) ≡ cond b (one ∷ filter (is_of key) standing) (filter (is_of key) standing)
    of true e true k later = absurd (let both = clash false h e k in cc)
    of true e false k later = ap (λ s. cond s (one ∷ filter (is_of key) (without other standing)) (filter (is_of key) (without other standing))) e ∙ ap (λ xs. one ∷ xs) later
    of false e true k later = later
    of false e false k later = ap (λ s. cond s (one ∷ filter (is_of key) (without other standing)) (filter (is_of key) (without other standing))) e ∙ later

pub left_key : (key : Key) (standing : List Standing) → filter (is_of key) (without key standing) ≡ []
left_key key [] = refl
left_key key (one ∷ standing) = of (is_of key one) refl (left_key key standing)
  where
    of : (b : Bool) → is_of key one ≡ b → filter (is_of key) (without key standing) ≡ [] → filter (is_of key) (cond (not b) (one ∷ without key standing) (without key standing)) ≡ []
    of true e later = later
    of false e later = ap (λ s. cond s (one ∷ filter (is_of key) (without key standing)) (filter (is_of key) (without key standing))) e ∙ later
