-- What holds of each number so far, and of one more.
use Rattle.std.proofs.Common.{◌≡◌, ℕ, zero, suc, ◌+◌, ◌<◌, List, [], ◌∷◌, ◌++◌, map, Bool, true, false, ◌&&◌, ◌||◌, refl, ap, ◌∙◌, add-one, arith}
use Rattle.std.specs.List.{list_all, list_any, range_with_len}
use Rattle.floor_histories.proofs.GicCall.RangeLemmas.{range_with_len_more}

all_and : {X : Type 0} (p : X → Bool) (f : ℕ → X) (xs : List ℕ) (n : ℕ) → list_all p (map f (xs ++ n ∷ [])) ≡ (list_all p (map f xs) && p (f n))
all_and p f [] n = of (p (f n))
  where
    of : (b : Bool) → (b && true) ≡ b
    of true = refl
    of false = refl
all_and p f (x ∷ xs) n = of (p (f x)) (all_and p f xs n)
  where
    of : (b : Bool) → list_all p (map f (xs ++ n ∷ [])) ≡ (list_all p (map f xs) && p (f n)) → (b && list_all p (map f (xs ++ n ∷ []))) ≡ ((b && list_all p (map f xs)) && p (f n))
    of true e = e
    of false e = refl

one_further : (n : ℕ) → range_with_len 0 (n + 1) ≡ range_with_len 0 n ++ n ∷ []
one_further n = rw add-one (range_with_len_more 0 n n (omega arith))

-- one more passes
pub all_more : {X : Type 0} (p : X → Bool) (f : ℕ → X) (n : ℕ) → list_all p (map f (range_with_len 0 n)) ≡ true → p (f n) ≡ true → list_all p (map f (range_with_len 0 (n + 1))) ≡ true
all_more p f n so here = ap (λ xs. list_all p (map f xs)) (one_further n) ∙ all_and p f (range_with_len 0 n) n ∙ ap (λ b. b && p (f n)) so ∙ here

fails_in : {X : Type 0} (p : X → Bool) (f : ℕ → X) (n a j k : ℕ) → j < n → a + j ≡ k → p (f k) ≡ false → list_all p (map f (range_with_len a n)) ≡ false
fails_in p f zero a j k h is e = absurd (omega (arith, h))
fails_in p f (suc n) a zero k h is e = ap (λ b. b && list_all p (map f (range_with_len (a + 1) n))) (ap (λ k. p (f k)) same ∙ e)
  where
    same : a ≡ k
    same = omega (arith, is)
fails_in p f (suc n) a (suc j) k h is e = of (p (f a)) (fails_in p f n (a + 1) j k (omega (arith, h)) (omega (arith, is)) e)
  where
    of : (b : Bool) → list_all p (map f (range_with_len (a + 1) n)) ≡ false → (b && list_all p (map f (range_with_len (a + 1) n))) ≡ false
    of true e = e
    of false e = refl

-- one of them does not
pub all_fails : {X : Type 0} (p : X → Bool) (f : ℕ → X) (n j : ℕ) → j < n → p (f j) ≡ false → list_all p (map f (range_with_len 0 n)) ≡ false
all_fails p f n j h e = fails_in p f n 0 j j h (omega arith) e

any_or : (p : ℕ → Bool) (xs : List ℕ) (n : ℕ) → list_any p (xs ++ n ∷ []) ≡ (list_any p xs || p n)
any_or p [] n = of (p n)
  where
    of : (b : Bool) → (b || false) ≡ b
    of true = refl
    of false = refl
any_or p (x ∷ xs) n = of (p x) (any_or p xs n)
  where
    of : (b : Bool) → list_any p (xs ++ n ∷ []) ≡ (list_any p xs || p n) → (b || list_any p (xs ++ n ∷ [])) ≡ ((b || list_any p xs) || p n)
    of true e = refl
    of false e = e

-- one more is none
pub none_more : (p : ℕ → Bool) (n : ℕ) → list_any p (range_with_len 0 n) ≡ false → p n ≡ false → list_any p (range_with_len 0 (n + 1)) ≡ false
none_more p n so here = ap (list_any p) (one_further n) ∙ any_or p (range_with_len 0 n) n ∙ ap (λ b. b || p n) so ∙ here

any_in : (p : ℕ → Bool) (n a j k : ℕ) → j < n → a + j ≡ k → p k ≡ true → list_any p (range_with_len a n) ≡ true
any_in p zero a j k h is e = absurd (omega (arith, h))
any_in p (suc n) a zero k h is e = ap (λ b. b || list_any p (range_with_len (a + 1) n)) (ap p same ∙ e)
  where
    same : a ≡ k
    same = omega (arith, is)
any_in p (suc n) a (suc j) k h is e = of (p a) (any_in p n (a + 1) j k (omega (arith, h)) (omega (arith, is)) e)
  where
    of : (b : Bool) → list_any p (range_with_len (a + 1) n) ≡ true → (b || list_any p (range_with_len (a + 1) n)) ≡ true
    of true e = refl
    of false e = e

-- one of them is
pub any_found : (p : ℕ → Bool) (n j : ℕ) → j < n → p j ≡ true → list_any p (range_with_len 0 n) ≡ true
any_found p n j h e = any_in p n 0 j j h (omega arith) e
