-- What a word says of its state and its number, and words in their list.
use Rattle.std.proofs.Common.{◌≡◌, ◌≢◌, ℕ, ◌%◌, ◌<◌, ◌≤◌, ◌==◌, Bool, true, false, IsTrue, List, length, get_or, set, sym, ap, subst, arith, lit<, inl, inr}
use Rattle.std.proofs.lemmas.Bool.{eqb-true, cases_eq}
use Rattle.std.proofs.lemmas.Bool.Decides.{nat_tests}
use Rattle.std.proofs.lemmas.List.{get_or-set_same, get_or-set_other}
use Rattle.vcpu_shelf.specs.Word.{owner_word, state_in, next_in, is_free, is_taken, is_finished, stored_word, taken_word}

pub state_of : (state next : ℕ) → state < 4 → state_in (owner_word state next) ≡ state
state_of state next small = omega arith

pub next_of : (state next : ℕ) → state < 4 → next_in (owner_word state next) ≡ next
next_of state next small = omega arith

-- a word has one state
pub free_not_taken : (word : ℕ) → IsTrue (is_free word) → is_taken word ≡ false
free_not_taken word free = let is : word % 4 ≡ 0 = eqb-true (word % 4) 0 free in ap (λ (n : ℕ). n == 1) is

pub free_not_finished : (word : ℕ) → IsTrue (is_free word) → is_finished word ≡ false
free_not_finished word free = let is : word % 4 ≡ 0 = eqb-true (word % 4) 0 free in ap (λ (n : ℕ). n == 2) is

pub taken_not_finished : (word : ℕ) → IsTrue (is_taken word) → is_finished word ≡ false
taken_not_finished word taken = let is : word % 4 ≡ 1 = eqb-true (word % 4) 1 taken in ap (λ (n : ℕ). n == 2) is

pub finished_not_taken : (word : ℕ) → IsTrue (is_finished word) → is_taken word ≡ false
finished_not_taken word finished = let is : word % 4 ≡ 2 = eqb-true (word % 4) 2 finished in ap (λ (n : ℕ). n == 1) is

-- a word of some state that is not finished and not free is taken
pub else_taken : (word : ℕ) → state_in word ≤ 2 → is_finished word ≡ false → is_free word ≡ false → IsTrue (is_taken word)
else_taken word state finished free = of (word % 4) state finished free
  where
    of : (n : ℕ) → n ≤ 2 → (n == 2) ≡ false → (n == 0) ≡ false → IsTrue (n == 1)
    of n small two zero = grind (arith, nat_tests)

-- a taken word
pub taken_is : (word : ℕ) → IsTrue (is_taken (taken_word word))
taken_is word = ap (λ (n : ℕ). n == 1) (state_of 1 (next_in word) (lit< tt))

pub taken_state : (word : ℕ) → state_in (taken_word word) ≤ 2
taken_state word = omega (arith, state_of 1 (next_in word) (lit< tt))

-- a word that is stored
pub stored_state : (done : Bool) (next : ℕ) → state_in (stored_word done next) ≤ 2
stored_state true next = omega (arith, state_of 2 next (lit< tt))
stored_state false next = omega (arith, state_of 0 next (lit< tt))

pub stored_not_taken : (done : Bool) (next : ℕ) → is_taken (stored_word done next) ≡ false
stored_not_taken true next = ap (λ (n : ℕ). n == 1) (state_of 2 next (lit< tt))
stored_not_taken false next = ap (λ (n : ℕ). n == 1) (state_of 0 next (lit< tt))

pub stored_done : (done : Bool) (next : ℕ) → done ≡ is_finished (stored_word done next)
stored_done true next = sym (ap (λ (n : ℕ). n == 2) (state_of 2 next (lit< tt)))
stored_done false next = sym (ap (λ (n : ℕ). n == 2) (state_of 0 next (lit< tt)))

pub stored_next : (done : Bool) (next : ℕ) → next ≡ next_in (stored_word done next)
stored_next true next = sym (next_of 2 next (lit< tt))
stored_next false next = sym (next_of 0 next (lit< tt))

-- a word of the list after one was set
pub after_set : (words : List ℕ) (place word other : ℕ) (P : ℕ → Type 0) → place < length words → (other ≡ place → P word) → (other ≢ place → P (get_or words other 0)) → P (get_or (set words place word) other 0)
after_set words place word other P there here else =
    elim (cases_eq other place) [
      | inl same ↦ subst P (ap (λ k. get_or (set words place word) k 0) (sym same)) (subst P (sym (get_or-set_same words place word 0 there)) (here same))
      | inr differ ↦ subst P (sym (get_or-set_other words place other word 0 differ)) (else differ)
    ]
