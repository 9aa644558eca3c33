-- What tests say of numbers.
use Rattle.std.proofs.Common.{◌≡◌, ◌≤◌, ◌<◌, ◌==◌, ◌&&◌, ◌||◌, ◌⊎◌, ℕ, Bool, true, false, nat_le, nat_lt, IsTrue, Some, None, if◌then◌else◌, refl, arith}
use Rattle.std.proofs.lemmas.Bool.Decides.{nat_tests}

pub left : (a b : Bool) → IsTrue (a && b) → IsTrue a
left true b h = refl
left false b h = h

pub right : (a b : Bool) → IsTrue (a && b) → IsTrue b
right true b h = h
right false b h = absurd (cc)

pub both : (a b : Bool) → a ≡ true → b ≡ true → (a && b) ≡ true
both true true h k = refl
both true false h k = absurd (cc)
both false b h k = absurd (cc)

pub either : (n a b : ℕ) → IsTrue (n == a || n == b) → (n ≡ a) ⊎ (n ≡ b)
either n a b h = grind (arith, nat_tests)

pub same : (n a : ℕ) → IsTrue (n == a) → n ≡ a
same n a h = grind (arith, nat_tests)

pub at_most : (a b : ℕ) → IsTrue (nat_le a b) → a ≤ b
at_most a b h = grind (arith, nat_tests)

pub under : (a b : ℕ) → IsTrue (nat_lt a b) → a < b
under a b h = grind (arith, nat_tests)

pub is_same : (n a : ℕ) → n ≡ a → (n == a) ≡ true
is_same n a h = grind (arith, nat_tests)

pub is_at_most : (a b : ℕ) → a ≤ b → nat_le a b ≡ true
is_at_most a b h = grind (arith, nat_tests)

pub is_under : (a b : ℕ) → a < b → nat_lt a b ≡ true
is_under a b h = grind (arith, nat_tests)

-- what is there only where a test holds
pub chosen : {A : Type 0} (test : Bool) (x y : A) → (if test then Some x else None) ≡ Some y → IsTrue test
chosen true x y h = refl
chosen false x y h = absurd (cc)
