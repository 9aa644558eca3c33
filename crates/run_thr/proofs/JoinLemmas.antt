-- Roots after ports were joined again, one after the other.
use Rattle.std.proofs.Common.{◌≡◌, ℕ, ◌<◌, ◌==◌, ◌||◌, zero, suc, cond, Bool, true, false, inl, inr, All, List, [], ◌∷◌, ◌++◌, append-nil, length, refl, sym, ap, subst, ◌∙◌, arith}
use Rattle.std.specs.Prelude.{if◌then◌else◌, Some, slice_get}
use Rattle.std.proofs.lemmas.Bool.{cases_eq, eq-eqb, ne_eqb}
use Rattle.std.proofs.lemmas.List.{append_assoc, get_or-set_same, get_or-set_other, length-set}
use Rattle.std.proofs.lemmas.List.Elements.{All-nil, All-cons}
use Rattle.law_threads_are_history.specs.Core.{Seen}
use Rattle.thr_cast.specs.PortTable.declared.view.Account.{Account}
use Rattle.thr_cast.specs.PortTable.Told.{RootTold, joining_in, no_words, opening_root, root_at, with_joined}
use Rattle.thr_cast.specs.PortTable.View.{is_back, steps_of}
use Rattle.thr_cast.specs.Crew.{joined_all}

-- what the root of a guest keeps of a port, and of some ports
abbrev pub account_of : Seen → Account
account_of seen = record { actor = seen.actor; own = seen.own }

abbrev pub accounts_of : ℕ → List Seen → List Account
accounts_of number [] = []
accounts_of number (seen ∷ seens) = if seen.number == number then account_of seen ∷ accounts_of number seens else accounts_of number seens

-- the ports are of guests that there are
abbrev pub AreThere : List Seen → List RootTold → Type 0
AreThere seens root = (p : ℕ) (seen : Seen) → slice_get seens p ≡ Some seen → seen.number < length root

-- no two are of one actor
abbrev pub AreApart : List Seen → Type 0
AreApart seens = (i j : ℕ) (one other : Seen) → slice_get seens i ≡ Some one → slice_get seens j ≡ Some other → one.number ≡ other.number → one.actor ≡ other.actor → i ≡ j

-- a root with more
abbrev with_more : RootTold → List Account → RootTold
with_more root more = record root { joined = root.joined ++ more }

mine : (first : Seen) (rest : List Seen) (number : ℕ) → first.number ≡ number → accounts_of number (first ∷ rest) ≡ account_of first ∷ accounts_of number rest
mine first rest number same = ap (λ b. cond b (account_of first ∷ accounts_of number rest) (accounts_of number rest)) (eq-eqb first.number number same)

other : (first : Seen) (rest : List Seen) (number : ℕ) → (first.number ≡ number → ⊥) → accounts_of number (first ∷ rest) ≡ accounts_of number rest
other first rest number differ = ap (λ b. cond b (account_of first ∷ accounts_of number rest) (accounts_of number rest)) (ne_eqb first.number number differ)

pub joined_at : (seens : List Seen) (root : List RootTold) (number : ℕ) → AreThere seens root → root_at (joined_all seens root) number ≡ with_more (root_at root number) (accounts_of number seens)
joined_at [] root number there = let one = root_at root number in ap (λ (joined : List Account). (let r : RootTold = record one { joined = joined } in r)) (sym (append-nil one.joined))
joined_at (first ∷ rest) root number there =
    let next = joining_in first root in
    let here = there 0 first refl in
    let with_first = with_joined first.actor first.own (root_at root first.number) in
    let later : root_at (joined_all rest next) number ≡ with_more (root_at next number) (accounts_of number rest)
    = joined_at rest next number (λ p seen e. subst (λ n. seen.number < n) (sym (length-set root first.number with_first)) (there (suc p) seen e)) in
    elim (cases_eq first.number number) [
      | inl same ↦
          (let at : root_at next number ≡ with_joined first.actor first.own (root_at root number)
          = ap (λ n. root_at next n) (sym same) ∙ get_or-set_same root first.number with_first (opening_root no_words) here ∙ ap (λ n. with_joined first.actor first.own (root_at root n)) same in
          let one = root_at root number in
          later ∙ ap (λ r. with_more r (accounts_of number rest)) at
          ∙ ap (λ (joined : List Account). (let r : RootTold = record one { joined = joined } in r)) (append_assoc one.joined (account_of first ∷ []) (accounts_of number rest) ∙ ap (λ more. one.joined ++ more) (sym (mine first rest number same))))
      | inr differ ↦
          (let at : root_at next number ≡ root_at root number = get_or-set_other root first.number number with_first (opening_root no_words) (λ e. differ (sym e)) in
          later ∙ ap (λ r. with_more r (accounts_of number rest)) at ∙ ap (with_more (root_at root number)) (sym (other first rest number differ)))
    ]

-- after others
pub joined_after : (early late : List Seen) (root : List RootTold) → joined_all (early ++ late) root ≡ joined_all late (joined_all early root)
joined_after [] late root = refl
joined_after (first ∷ early) late root = joined_after early late (joining_in first root)

apart_rest : (first : Seen) (rest : List Seen) → AreApart (first ∷ rest) → AreApart rest
apart_rest first rest apart i j one two is_one is_two number actor = let same = apart (suc i) (suc j) one two is_one is_two number actor in omega (arith, same)

-- of one of them the steps are there, and it is back
pub steps_found : (seens : List Seen) (p : ℕ) (seen : Seen) → slice_get seens p ≡ Some seen → AreApart seens → steps_of seen.actor (accounts_of seen.number seens) ≡ seen.own
steps_found [] p seen e apart = absurd (cc)
steps_found (first ∷ rest) zero seen e apart =
    let same : first ≡ seen = cc in
    subst (λ (s : Seen). steps_of s.actor (accounts_of s.number (first ∷ rest)) ≡ s.own) same
    (ap (steps_of first.actor) (mine first rest first.number refl) ∙ ap (λ b. cond b first.own (steps_of first.actor (accounts_of first.number rest))) (eq-eqb first.actor first.actor refl))
steps_found (first ∷ rest) (suc p) seen e apart =
    let later = steps_found rest p seen e (apart_rest first rest apart) in
    elim (cases_eq first.number seen.number) [
      | inl same ↦
          (let differ : first.actor ≡ seen.actor → ⊥ = λ actor. (let twice = apart 0 (suc p) first seen refl e same actor in absurd (omega (arith, twice))) in
          ap (steps_of seen.actor) (mine first rest seen.number same) ∙ ap (λ b. cond b first.own (steps_of seen.actor (accounts_of seen.number rest))) (ne_eqb first.actor seen.actor differ) ∙ later)
      | inr differ ↦ ap (steps_of seen.actor) (other first rest seen.number differ) ∙ later
    ]

or_true : (b : Bool) → (b || true) ≡ true
or_true true = refl
or_true false = refl

pub back_found : (seens : List Seen) (p : ℕ) (seen : Seen) → slice_get seens p ≡ Some seen → is_back seen.actor (accounts_of seen.number seens) ≡ true
back_found [] p seen e = absurd (cc)
back_found (first ∷ rest) zero seen e =
    let same : first ≡ seen = cc in
    subst (λ (s : Seen). is_back s.actor (accounts_of s.number (first ∷ rest)) ≡ true) same
    (ap (is_back first.actor) (mine first rest first.number refl) ∙ ap (λ b. b || is_back first.actor (accounts_of first.number rest)) (eq-eqb first.actor first.actor refl))
back_found (first ∷ rest) (suc p) seen e =
    let later = back_found rest p seen e in
    elim (cases_eq first.number seen.number) [
      | inl same ↦ ap (is_back seen.actor) (mine first rest seen.number same) ∙ ap (λ b. (first.actor == seen.actor) || b) later ∙ or_true (first.actor == seen.actor)
      | inr differ ↦ ap (is_back seen.actor) (other first rest seen.number differ) ∙ later
    ]

-- what is so of each port is so of what the root keeps
pub all_found : (P : Account → Type 0) (number : ℕ) (seens : List Seen) → ((p : ℕ) (seen : Seen) → slice_get seens p ≡ Some seen → seen.number ≡ number → P (account_of seen)) → All P (accounts_of number seens)
all_found P number [] each = All-nil P
all_found P number (first ∷ rest) each =
    let later = all_found P number rest (λ p seen e. each (suc p) seen e) in
    elim (cases_eq first.number number) [
      | inl same ↦ subst (All P) (sym (mine first rest number same)) (All-cons P (account_of first) (accounts_of number rest) (each 0 first refl same) later)
      | inr differ ↦ subst (All P) (sym (other first rest number differ)) later
    ]
