-- Interrupts at an interface, each once.
use Rattle.std.proofs.Common.{◌≡◌, ◌≢◌, ◌≤◌, not, Bool, true, false, cond, List, [], ◌∷◌, filter, length, All, Some, refl, sym, ap, ◌∙◌, arith}
use Rattle.std.proofs.lemmas.List.Elements.{All-nil, All-cons, All-weaker}
use Rattle.floor_histories.specs.Words.{Key, is_same_key}
use Rattle.floor_histories.proofs.GicBase.KeyLemmas.{same_key, same_itself, other_key}
use Rattle.port_core.specs.declared.at_list.AtIrq.{AtIrq}
use Rattle.port_core.specs.Local.{entry_for, without_at}
use Rattle.port_core.specs.Valid.{IsOnce}

-- Each interrupt of a list in which none is twice is what the list has of it.

counted : (key : Key) (at : List AtIrq) (entry : AtIrq) → entry_for key at ≡ Some entry → 1 ≤ length (filter (λ one. is_same_key one.key key) at)
counted key [] entry e = absurd (cc)
counted key (one ∷ rest) entry e = of (is_same_key one.key key) e (counted key rest entry)
  where
    of : (b : Bool) → cond b (Some one) (entry_for key rest) ≡ Some entry → (entry_for key rest ≡ Some entry → 1 ≤ length (filter (λ x. is_same_key x.key key) rest))
        → 1 ≤ length (cond b (one ∷ filter (λ x. is_same_key x.key key) rest) (filter (λ x. is_same_key x.key key) rest))
    of true e later = omega arith
    of false e later = later e

once_rest : (one : AtIrq) (rest : List AtIrq) → IsOnce (one ∷ rest) → IsOnce rest
once_rest one rest once key = of (is_same_key one.key key) (once key)
  where
    of : (b : Bool) → length (cond b (one ∷ filter (λ x. is_same_key x.key key) rest) (filter (λ x. is_same_key x.key key) rest)) ≤ 1 → length (filter (λ x. is_same_key x.key key) rest) ≤ 1
    of true few = omega (arith, few)
    of false few = few

pub found_itself : (at : List AtIrq) → IsOnce at → All (λ entry. entry_for entry.key at ≡ Some entry) at
found_itself [] once = All-nil (λ entry. entry_for entry.key [] ≡ Some entry)
found_itself (one ∷ rest) once =
    All-cons (λ entry. entry_for entry.key (one ∷ rest) ≡ Some entry) one rest (ap (λ b. cond b (Some one) (entry_for one.key rest)) (same_itself one.key))
    (All-weaker (λ entry. entry_for entry.key rest ≡ Some entry) (λ entry. entry_for entry.key (one ∷ rest) ≡ Some entry) (λ entry e. of entry (is_same_key one.key entry.key) (once entry.key) e) rest (found_itself rest (once_rest one rest once)))
  where
    of : (entry : AtIrq) (b : Bool) → length (cond b (one ∷ filter (λ x. is_same_key x.key entry.key) rest) (filter (λ x. is_same_key x.key entry.key) rest)) ≤ 1 → entry_for entry.key rest ≡ Some entry → cond b (Some one) (entry_for entry.key rest) ≡ Some entry
    of entry true few e = let more = counted entry.key rest entry e in absurd (omega (arith, few, more))
    of entry false few e = e

-- what the list has of an interrupt stays once another left
pub entry_without : (key other : Key) → other ≢ key → (at : List AtIrq) → entry_for other (without_at key at) ≡ entry_for other at
entry_without key other differ [] = refl
entry_without key other differ (one ∷ rest) = of (is_same_key one.key key) refl (entry_without key other differ rest)
  where
    kept : (c : Bool) → entry_for other (without_at key rest) ≡ entry_for other rest → cond c (Some one) (entry_for other (without_at key rest)) ≡ cond c (Some one) (entry_for other rest)
    kept true later = refl
    kept false later = later

    of : (b : Bool) → is_same_key one.key key ≡ b → entry_for other (without_at key rest) ≡ entry_for other rest → entry_for other (cond (not b) (one ∷ without_at key rest) (without_at key rest)) ≡ cond (is_same_key one.key other) (Some one) (entry_for other rest)
    of true e later = later ∙ sym (ap (λ c. cond c (Some one) (entry_for other rest)) (other_key one.key other (λ f. differ (sym f ∙ same_key one.key key e))))
    of false e later = kept (is_same_key one.key other) later
