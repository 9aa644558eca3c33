-- Sets of vCPUs as lists.
use Rattle.std.proofs.Common.{◌≡◌, ◌≢◌, ℕ, zero, suc, min, max, ◌-◌, ◌+◌, ◌^◌, ◌<◌, ◌≤◌, ◌⊎◌, inl, inr, Bool, true, false, cond, nat_eq, List, [], ◌∷◌, filter, length, Option, Some, None, bit_or, refl, sym, ap, ◌∙◌, arith}
use Rattle.std.specs.Int.{bit_at, bit_not, w32, trailing_zeros}
use Rattle.std.specs.List.{range_with_len}
use Rattle.std.proofs.lemmas.Bool.{cases_eq, eq-eqb}
use Rattle.std.proofs.lemmas.Nat.{pow_below}
use Rattle.std.proofs.lemmas.Nat.Bits.{bit_at-zero, bit_at_and, bit_at_or, bit_at_not, bit_at-lt, bit_at-pow_same, bit_at-pow_other, bit_at-trailing_zeros}
use Rattle.floor_core.specs.Words.{has_bit}
use Rattle.floor_core.specs.Registers.{Targets}
use Rattle.floor_core.specs.Core.{no_vcpus, with_vcpu, with_some, with_all, without_vcpu}
use Rattle.port_call.specs.Settle.{vcpus_in, IsFirst}

-- Bits.

none_of : (n : ℕ) → n ≡ 0 → nat_eq n 1 ≡ false
none_of n e = ap (λ k. nat_eq k 1) e

-- a vCPU that is taken out is out
pub without_same : (set : Targets) (v : ℕ) → v < 32 → has_bit (without_vcpu set v).0 v ≡ false
without_same set v h =
    let out : bit_at (bit_not w32 (2 ^ v)) v ≡ 1 - bit_at (2 ^ v) v = bit_at_not w32 (2 ^ v) v (pow_below v 32 h) h in
    let one = bit_at-pow_same v in
    let both = bit_at_and set.0 (bit_not w32 (2 ^ v)) v in
    none_of (bit_at (without_vcpu set v).0 v) (low (bit_at set.0 v) (bit_at (bit_not w32 (2 ^ v)) v) (bit_at (without_vcpu set v).0 v) both (omega (arith, out, one)))
  where
    low : (a b m : ℕ) → m ≡ min a b → b ≡ 0 → m ≡ 0
    low a b m e z = omega (arith, e, z)

-- and the others stay
pub without_other : (set : Targets) (v i : ℕ) → v < 32 → i < 32 → i ≢ v → has_bit (without_vcpu set v).0 i ≡ has_bit set.0 i
without_other set v i h l differ =
    let out : bit_at (bit_not w32 (2 ^ v)) i ≡ 1 - bit_at (2 ^ v) i = bit_at_not w32 (2 ^ v) i (pow_below v 32 h) l in
    let zero_there = bit_at-pow_other v i differ in
    let both = bit_at_and set.0 (bit_not w32 (2 ^ v)) i in
    let few = bit_at-lt set.0 i in
    ap (λ b. nat_eq b 1) (same (bit_at set.0 i) (bit_at (bit_not w32 (2 ^ v)) i) (bit_at (without_vcpu set v).0 i) both few (omega (arith, out, zero_there)))
  where
    same : (a b m : ℕ) → m ≡ min a b → a < 2 → b ≡ 1 → m ≡ a
    same a b m e s one = omega (arith, e, s, one)

-- a vCPU more
pub with_other : (set v i : ℕ) → i ≢ v → has_bit (bit_or set (2 ^ v)) i ≡ has_bit set i
with_other set v i differ =
    let both = bit_at_or set (2 ^ v) i in
    let none = bit_at-pow_other v i differ in
    ap (λ b. nat_eq b 1) (same (bit_at set i) (bit_at (2 ^ v) i) (bit_at (bit_or set (2 ^ v)) i) both none)
  where
    same : (a b m : ℕ) → m ≡ max a b → b ≡ 0 → m ≡ a
    same a b m e z = omega (arith, e, z)

-- Lists.

-- the same members where the tests agree
filter_same : (p q : ℕ → Bool) (from n : ℕ) → ((i : ℕ) → from ≤ i → i < from + n → p i ≡ q i) → filter p (range_with_len from n) ≡ filter q (range_with_len from n)
filter_same p q from zero same = refl
filter_same p q from (suc n) same =
    let rest = filter_same p q (from + 1) n (λ i above below. same i (omega arith) (omega arith)) in
    let here : p from ≡ q from = same from (omega arith) (omega arith) in
    ap (λ b. cond b (from ∷ filter p (range_with_len (from + 1) n)) (filter p (range_with_len (from + 1) n))) here ∙ ap (λ xs. cond (q from) (from ∷ xs) xs) rest

-- the first member, and the others
filter_first :
    (p q : ℕ → Bool) (v from n : ℕ) → from ≤ v → v < from + n → p v ≡ true → q v ≡ false → ((i : ℕ) → i < v → p i ≡ false) → ((i : ℕ) → i < from + n → i ≢ v → q i ≡ p i)
    → filter p (range_with_len from n) ≡ v ∷ filter q (range_with_len from n)
filter_first p q v from zero above below here gone before same = absurd (omega (arith, above, below))
filter_first p q v from (suc n) above below here gone before same =
    by_place (cases_eq from v) (λ later. filter_first p q v (from + 1) n later (omega arith) here gone before (λ i l d. same i (omega arith) d))
  where
    by_place : (from ≡ v) ⊎ (from ≢ v) → (from + 1 ≤ v → filter p (range_with_len (from + 1) n) ≡ v ∷ filter q (range_with_len (from + 1) n)) → filter p (range_with_len from (suc n)) ≡ v ∷ filter q (range_with_len from (suc n))
    by_place (inl at) rest =
        let same_rest = filter_same p q (from + 1) n (λ i over under. sym (same i (omega arith) (λ e. omega (arith, e, at, over)))) in
        let yes : p from ≡ true = ap p at ∙ here in
        let no : q from ≡ false = ap q at ∙ gone in
        ap (λ b. cond b (from ∷ filter p (range_with_len (from + 1) n)) (filter p (range_with_len (from + 1) n))) yes
        ∙ ap (λ xs. from ∷ xs) same_rest
        ∙ ap (λ w. w ∷ filter q (range_with_len (from + 1) n)) at
        ∙ ap (λ b. v ∷ cond b (from ∷ filter q (range_with_len (from + 1) n)) (filter q (range_with_len (from + 1) n))) (sym no)
    by_place (inr apart) rest =
        let under : from < v = omega (arith, above, apart) in
        let later = rest (omega (arith, under)) in
        let no : p from ≡ false = before from under in
        let no_more : q from ≡ false = same from (omega arith) apart ∙ no in
        ap (λ b. cond b (from ∷ filter p (range_with_len (from + 1) n)) (filter p (range_with_len (from + 1) n))) no
        ∙ later
        ∙ ap (λ b. v ∷ cond b (from ∷ filter q (range_with_len (from + 1) n)) (filter q (range_with_len (from + 1) n))) (sym no_more)

-- nothing where the test never holds
filter_none : (p : ℕ → Bool) (from n : ℕ) → ((i : ℕ) → p i ≡ false) → filter p (range_with_len from n) ≡ []
filter_none p from zero none = refl
filter_none p from (suc n) none = ap (λ b. cond b (from ∷ filter p (range_with_len (from + 1) n)) (filter p (range_with_len (from + 1) n))) (none from) ∙ filter_none p (from + 1) n none

-- one more at most
filter_more : (p q : ℕ → Bool) (v from n : ℕ) → ((i : ℕ) → i ≢ v → q i ≡ p i) → length (filter q (range_with_len from n)) ≤ suc (length (filter p (range_with_len from n)))
filter_more p q v from zero same = omega arith
filter_more p q v from (suc n) same = by_place (cases_eq from v) (filter_more p q v (from + 1) n same)
  where
    either : (a b : Bool) (n m : ℕ) → n ≡ m → cond a (suc n) n ≤ suc (cond b (suc m) m)
    either true true n m e = omega (arith, e)
    either true false n m e = omega (arith, e)
    either false true n m e = omega (arith, e)
    either false false n m e = omega (arith, e)

    both : (a : Bool) (n m : ℕ) → n ≤ suc m → cond a (suc n) n ≤ suc (cond a (suc m) m)
    both true n m h = omega (arith, h)
    both false n m h = omega (arith, h)

    long : (b : Bool) (xs : List ℕ) → length (cond b (from ∷ xs) xs) ≡ cond b (suc (length xs)) (length xs)
    long true xs = refl
    long false xs = refl

    by_place : (from ≡ v) ⊎ (from ≢ v) → length (filter q (range_with_len (from + 1) n)) ≤ suc (length (filter p (range_with_len (from + 1) n))) → length (filter q (range_with_len from (suc n))) ≤ suc (length (filter p (range_with_len from (suc n))))
    by_place (inl at) more =
        let rest = filter_same q p (from + 1) n (λ i over under. same i (λ e. omega (arith, e, at, over))) in
        let whole = either (q from) (p from) _ _ (ap length rest) in
        let one = long (q from) (filter q (range_with_len (from + 1) n)) in
        let other = long (p from) (filter p (range_with_len (from + 1) n)) in
        omega (arith, whole, one, other)
    by_place (inr apart) more =
        let whole = both (p from) (length (filter q (range_with_len (from + 1) n))) (length (filter p (range_with_len (from + 1) n))) more in
        let one = long (q from) (filter q (range_with_len (from + 1) n)) ∙ ap (λ b. cond b (suc (length (filter q (range_with_len (from + 1) n)))) (length (filter q (range_with_len (from + 1) n)))) (same from apart) in
        let other = long (p from) (filter p (range_with_len (from + 1) n)) in
        omega (arith, whole, one, other)

-- Sets.

-- no vCPU
pub none_in : vcpus_in no_vcpus ≡ []
none_in = filter_none (has_bit 0) 0 32 (λ i. none_of (bit_at 0 i) (bit_at-zero i))

-- the first vCPU of a set, and the others
pub first_in : (set : Targets) → 0 < set.0 → set.0 < 2 ^ 32 → vcpus_in set ≡ trailing_zeros w32 set.0 ∷ vcpus_in (without_vcpu set (trailing_zeros w32 set.0))
first_in set some fits =
    let first = bit_at-trailing_zeros w32 set.0 some fits in
    let v = trailing_zeros w32 set.0 in
    let small : v < 32 = first.0 in
    filter_first (has_bit set.0) (has_bit (without_vcpu set v).0) v 0 32 (omega arith) (omega (arith, small)) (eq-eqb (bit_at set.0 v) 1 first.1) (without_same set v small)
    (λ i l. none_of (bit_at set.0 i) (first.2 i l)) (λ i l d. without_other set v i small (omega (arith, l)) d)

pub first_is : (set : Targets) → 0 < set.0 → set.0 < 2 ^ 32 → IsFirst set (trailing_zeros w32 set.0)
first_is set some fits =
    let first = bit_at-trailing_zeros w32 set.0 some fits in
    record { below = first.0; member = eq-eqb (bit_at set.0 (trailing_zeros w32 set.0)) 1 first.1; rest = first_in set some fits }

-- a set with one more vCPU has one member more at most
pub with_more : (set : Targets) (v : ℕ) → length (vcpus_in (with_vcpu set v)) ≤ suc (length (vcpus_in set))
with_more set v = filter_more (has_bit set.0) (has_bit (bit_or set.0 (2 ^ v))) v 0 32 (λ i d. with_other set.0 v i d)

-- one that was put together of two, if they are there, has two at most
some_more : (set : Targets) (v : Option ℕ) (n : ℕ) → length (vcpus_in set) ≤ n → length (vcpus_in (with_some set v)) ≤ suc n
some_more set None n h = omega (arith, h)
some_more set (Some v) n h = let more = with_more set v in omega (arith, more, h)

pub two_at_most : (one other : Option ℕ) → length (vcpus_in (with_all no_vcpus (one ∷ other ∷ []))) ≤ 2
two_at_most one other =
    some_more (with_some no_vcpus one) other 1 (some_more no_vcpus one 0 (let none : length (vcpus_in no_vcpus) ≡ 0 = ap length none_in in omega (arith, none)))
