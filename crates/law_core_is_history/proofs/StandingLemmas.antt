-- What stands at an interface in the ideal controller, beside what its vCPU has of it.
use Rattle.std.proofs.Common.{◌≡◌, ◌≢◌, ℕ, ◌<◌, ◌&&◌, ◌||◌, not, Bool, true, false, cond, is_some, IsTrue, List, [], ◌∷◌, ◌++◌, map, length, Option, option_map, find, Some, None, refl, sym, ap, ◌∙◌, subst, arith}
use Rattle.std.specs.List.{list_any, list_all}
use Rattle.std.proofs.lemmas.Bool.{and_parts, and_from}
use Rattle.std.proofs.lemmas.List.Elements.{All-from_get_or}
use Rattle.std.proofs.lemmas.List.Folds.{list_any_none}
use Rattle.law_lines_translate.specs.Words.{Key, GuestShape, has_interrupt, is_same_key, is_number, irq_of}
use Rattle.law_lines_translate.specs.Calls.{Entry, Moved}
use Rattle.law_lines_translate.specs.Histories.{irq_at, Ideal, Standing, standing_at, is_of, moved_at, is_home, with_entry, without}
use Rattle.law_lines_translate.specs.Core.{AtIrq, Irq as IrqWord, actor_count, entry_for, entry_of, is_at, changed_at, without_at, CoreState, word_in, IsSound}
use Rattle.law_lines_translate.proofs.GicBase.KeyLemmas.{same_key, same_itself, other_key}
use Rattle.law_core_is_history.specs.Related.{Related, locals_of, stands}

-- An interrupt in the list of its vCPU, and in that of the ideal controller.

pub find_stands : (key : Key) (at : List AtIrq) → find (is_of key) (map stands at) ≡ option_map stands (entry_for key at)
find_stands key [] = refl
find_stands key (one ∷ rest) = of (is_same_key one.key key) (find_stands key rest)
  where
    of : (b : Bool) → find (is_of key) (map stands rest) ≡ option_map stands (entry_for key rest) → cond b (Some (stands one)) (find (is_of key) (map stands rest)) ≡ option_map stands (cond b (Some one) (entry_for key rest))
    of true later = refl
    of false later = later

pub any_stands : (key : Key) (at : List AtIrq) → list_any (is_of key) (map stands at) ≡ is_at key at
any_stands key [] = refl
any_stands key (one ∷ rest) = of (is_same_key one.key key) (any_stands key rest)
  where
    of : (b : Bool) → list_any (is_of key) (map stands rest) ≡ is_at key rest → (b || list_any (is_of key) (map stands rest)) ≡ is_some (cond b (Some one) (entry_for key rest))
    of true later = refl
    of false later = later

pub without_stands : (key : Key) (at : List AtIrq) → map stands (without_at key at) ≡ without key (map stands at)
without_stands key [] = refl
without_stands key (one ∷ rest) = of (is_same_key one.key key) (without_stands key rest)
  where
    of : (b : Bool) → map stands (without_at key rest) ≡ without key (map stands rest) → map stands (cond (not b) (one ∷ without_at key rest) (without_at key rest)) ≡ cond (not b) (stands one ∷ without key (map stands rest)) (without key (map stands rest))
    of true later = later
    of false later = ap (λ xs. stands one ∷ xs) later

-- a change of an entry that is seen, and one that is not
pub changed_stands : (change : AtIrq → AtIrq) (entry : Entry) → ((one : AtIrq) → stands (change one) ≡ record (stands one) { entry = entry }) → (key : Key) (at : List AtIrq) → map stands (changed_at change key at) ≡ with_entry key entry (map stands at)
changed_stands change entry seen key [] = refl
changed_stands change entry seen key (one ∷ rest) = of (is_same_key one.key key) (changed_stands change entry seen key rest)
  where
    of : (b : Bool) → map stands (changed_at change key rest) ≡ with_entry key entry (map stands rest) → stands (cond b (change one) one) ∷ map stands (changed_at change key rest) ≡ cond b (record (stands one) { entry = entry }) (stands one) ∷ with_entry key entry (map stands rest)
    of true later = ap (λ s. s ∷ map stands (changed_at change key rest)) (seen one) ∙ ap (λ xs. record (stands one) { entry = entry } ∷ xs) later
    of false later = ap (λ xs. stands one ∷ xs) later

pub unseen_stands : (change : AtIrq → AtIrq) → ((one : AtIrq) → stands (change one) ≡ stands one) → (key : Key) (at : List AtIrq) → map stands (changed_at change key at) ≡ map stands at
unseen_stands change unseen key [] = refl
unseen_stands change unseen key (one ∷ rest) = of (is_same_key one.key key) (unseen_stands change unseen key rest)
  where
    of : (b : Bool) → map stands (changed_at change key rest) ≡ map stands rest → stands (cond b (change one) one) ∷ map stands (changed_at change key rest) ≡ stands one ∷ map stands rest
    of true later = ap (λ s. s ∷ map stands (changed_at change key rest)) (unseen one) ∙ ap (λ xs. stands one ∷ xs) later
    of false later = ap (λ xs. stands one ∷ xs) later

-- What a vCPU has of an interrupt after a change of one, without one, and with one more.

pub entry_changed : (change : AtIrq → AtIrq) → ((one : AtIrq) → (change one).key ≡ one.key) → (key : Key) (at : List AtIrq) → entry_for key (changed_at change key at) ≡ option_map change (entry_for key at)
entry_changed change keeps key [] = refl
entry_changed change keeps key (one ∷ rest) = of (is_same_key one.key key) refl (entry_changed change keeps key rest)
  where
    of : (b : Bool) → is_same_key one.key key ≡ b → entry_for key (changed_at change key rest) ≡ option_map change (entry_for key rest)
        → cond (is_same_key (cond b (change one) one).key key) (Some (cond b (change one) one)) (entry_for key (changed_at change key rest)) ≡ option_map change (cond b (Some one) (entry_for key rest))
    of true e later = ap (λ c. cond c (Some (change one)) (entry_for key (changed_at change key rest))) (ap (λ k. is_same_key k key) (keeps one) ∙ e)
    of false e later = ap (λ c. cond c (Some one) (entry_for key (changed_at change key rest))) e ∙ later

pub entry_other : (change : AtIrq → AtIrq) → ((one : AtIrq) → (change one).key ≡ one.key) → (key other : Key) → other ≢ key → (at : List AtIrq) → entry_for other (changed_at change key at) ≡ entry_for other at
entry_other change keeps key other differ [] = refl
entry_other change keeps key other differ (one ∷ rest) = of (is_same_key one.key key) refl (entry_other change keeps key other differ rest)
  where
    kept : (c : Bool) → entry_for other (changed_at change key rest) ≡ entry_for other rest → cond c (Some one) (entry_for other (changed_at change key rest)) ≡ cond c (Some one) (entry_for other rest)
    kept true later = refl
    kept false later = later

    of : (b : Bool) → is_same_key one.key key ≡ b → entry_for other (changed_at change key rest) ≡ entry_for other rest
        → cond (is_same_key (cond b (change one) one).key other) (Some (cond b (change one) one)) (entry_for other (changed_at change key rest)) ≡ cond (is_same_key one.key other) (Some one) (entry_for other rest)
    of true e later =
        let no : is_same_key one.key other ≡ false = other_key one.key other (λ f. differ (sym f ∙ same_key one.key key e)) in
        ap (λ c. cond c (Some (change one)) (entry_for other (changed_at change key rest))) (ap (λ k. is_same_key k other) (keeps one) ∙ no) ∙ later ∙ sym (ap (λ c. cond c (Some one) (entry_for other rest)) no)
    of false e later = kept (is_same_key one.key other) later

pub entry_added : (key : Key) (at : List AtIrq) (entry : AtIrq) → entry.key ≡ key → is_at key at ≡ false → entry_for key (at ++ entry ∷ []) ≡ Some entry
entry_added key [] entry e none = ap (λ b. cond {A = Option AtIrq} b (Some entry) None) (subst (λ k. is_same_key k key ≡ true) (sym e) (same_itself key))
entry_added key (one ∷ rest) entry e none = of (is_same_key one.key key) none (entry_added key rest entry e)
  where
    of : (b : Bool) → is_some (cond b (Some one) (entry_for key rest)) ≡ false → (is_at key rest ≡ false → entry_for key (rest ++ entry ∷ []) ≡ Some entry) → cond b (Some one) (entry_for key (rest ++ entry ∷ [])) ≡ Some entry
    of true none later = absurd (cc)
    of false none later = later none

pub entry_added_other : (other : Key) (at : List AtIrq) (entry : AtIrq) → is_same_key entry.key other ≡ false → entry_for other (at ++ entry ∷ []) ≡ entry_for other at
entry_added_other other [] entry differ = ap (λ b. cond {A = Option AtIrq} b (Some entry) None) differ
entry_added_other other (one ∷ rest) entry differ = ap (cond (is_same_key one.key other) (Some one)) (entry_added_other other rest entry differ)

-- What all pass, each does; and all still do where some leave, or one changes.

pub passes : (test : AtIrq → Bool) (key : Key) (at : List AtIrq) (entry : AtIrq) → IsTrue (list_all test at) → entry_for key at ≡ Some entry → test entry ≡ true
passes test key [] entry all e = absurd (cc)
passes test key (first ∷ rest) entry all e = let parts = and_parts (test first) (list_all test rest) all in of (is_same_key first.key key) parts.0 e (passes test key rest entry parts.1)
  where
    of : (b : Bool) → test first ≡ true → cond b (Some first) (entry_for key rest) ≡ Some entry → (entry_for key rest ≡ Some entry → test entry ≡ true) → test entry ≡ true
    of true here e later = let same : first ≡ entry = cc in subst (λ x. test x ≡ true) same here
    of false here e later = later e

pub not_given : (b : Bool) → not b ≡ true → b ≡ false
not_given true h = absurd (cc)
not_given false h = refl

pub all_without : (test : AtIrq → Bool) (key : Key) (at : List AtIrq) → IsTrue (list_all test at) → IsTrue (list_all test (without_at key at))
all_without test key [] all = all
all_without test key (one ∷ rest) all = let parts = and_parts (test one) (list_all test rest) all in of (is_same_key one.key key) parts.0 (all_without test key rest parts.1)
  where
    of : (b : Bool) → IsTrue (test one) → IsTrue (list_all test (without_at key rest)) → IsTrue (list_all test (cond (not b) (one ∷ without_at key rest) (without_at key rest)))
    of true here later = later
    of false here later = and_from (test one) (list_all test (without_at key rest)) here later

pub all_changed : (test : AtIrq → Bool) (change : AtIrq → AtIrq) → ((one : AtIrq) → test (change one) ≡ test one) → (key : Key) (at : List AtIrq) → list_all test (changed_at change key at) ≡ list_all test at
all_changed test change keeps key [] = refl
all_changed test change keeps key (one ∷ rest) = of (is_same_key one.key key) (all_changed test change keeps key rest)
  where
    of : (b : Bool) → list_all test (changed_at change key rest) ≡ list_all test rest → (test (cond b (change one) one) && list_all test (changed_at change key rest)) ≡ (test one && list_all test rest)
    of true later = ap (λ t. t && list_all test (changed_at change key rest)) (keeps one) ∙ ap (λ t. test one && t) later
    of false later = ap (λ t. test one && t) later

-- In a state that agrees with the core's.

module _ {shape : GuestShape} {state : CoreState} {ideal : Ideal} (sound : IsSound shape state) (related : Related shape state ideal) where
  -- an interrupt that nobody holds is home
  pub home_is : (key : Key) → IsTrue (has_interrupt shape key) → (irq_of (word_in shape state (IrqWord key))).holder ≡ None → IsTrue (is_home ideal key)
  home_is key there none = ap not (list_any_none (list_any (is_of key)) ideal.at (All-from_get_or (λ list. list_any (is_of key) list ≡ false) ideal.at [] nowhere))
    where
      nowhere : (vcpu : ℕ) → vcpu < length ideal.at → list_any (is_of key) (standing_at ideal vcpu) ≡ false
      nowhere vcpu within =
          let here : vcpu < shape.vcpus = omega (arith, within, related.at_each) in
          let actor : vcpu < actor_count shape = omega (arith, here) in
          ap (list_any (is_of key)) (related.seats vcpu here).at ∙ any_stands key (locals_of state vcpu).at ∙ sym (sound.ties vcpu (IrqWord key) actor there) ∙ ap (is_number vcpu) none

  -- what the ideal controller has of an interrupt at an interface
  pub moved_is : (vcpu : ℕ) (key : Key) (entry : AtIrq) → vcpu < shape.vcpus → entry_for key (locals_of state vcpu).at ≡ Some entry → moved_at ideal vcpu key ≡ Some (record { irq = irq_at ideal.guest key; entry = entry_of entry })
  moved_is vcpu key entry there at =
      ap (λ list. option_map (λ (standing : Standing). let moved : Moved = record { irq = irq_at ideal.guest key; entry = standing.entry } in moved) (find (is_of key) list)) (related.seats vcpu there).at
      ∙ ap (option_map (λ (standing : Standing). let moved : Moved = record { irq = irq_at ideal.guest key; entry = standing.entry } in moved)) (find_stands key (locals_of state vcpu).at ∙ ap (option_map stands) at)
