-- Lists in which a number rises.
use Rattle.std.proofs.Common.{◌≡◌, ℕ, ◌+◌, ◌<◌, ◌≤◌, inl, inr, Bool, true, false, cond, List, [], ◌∷◌, ◌++◌, filter, Contains, refl, sym, ap, ◌∙◌, subst, arith}
use Rattle.law_serial_is_eager.proofs.VcpuRefill.ElementLemmas.{Contains-cases, Contains-filter, Contains-here, Contains-nothing, Contains-there}
use Rattle.law_serial_is_eager.proofs.VcpuRefill.EarnedLemmas.{from_filter}

-- the numbers of the elements rise, from one on
abbrev pub Rises : {X : Type 0} → (X → ℕ) → ℕ → List X → Type 0
Rises number from [] = Unit {0}
Rises number from (x ∷ xs) = (from ≤ number x) × Rises number (number x + 1) xs

module _ {X : Type 0} (number : X → ℕ) where
  pub rises_from : (a b : ℕ) (xs : List X) → a ≤ b → Rises number b xs → Rises number a xs
  rises_from a b [] low rises = tt
  rises_from a b (x ∷ xs) low rises = let first = rises.0 in (omega (arith, low, first), rises.1)

  pub rises_above : (from : ℕ) (xs : List X) (y : X) → Rises number from xs → Contains xs y → from ≤ number y
  rises_above from [] y rises h = absurd (Contains-nothing y h)
  rises_above from (x ∷ xs) y rises h = elim (Contains-cases x y xs h) [
    | inl e ↦ subst (λ z. from ≤ number z) e rises.0
    | inr later ↦ let first = rises.0 in let above = rises_above (number x + 1) xs y rises.1 later in omega (arith, first, above)
  ]

  -- those that pass a test rise too
  rises_filter : (test : X → Bool) (from : ℕ) (xs : List X) → Rises number from xs → Rises number from (filter test xs)
  rises_filter test from [] rises = tt
  rises_filter test from (x ∷ xs) rises = of (test x) (rises_filter test (number x + 1) xs rises.1)
    where
      of : (b : Bool) → Rises number (number x + 1) (filter test xs) → Rises number from (cond b (x ∷ filter test xs) (filter test xs))
      of true rest = (rises.0, rest)
      of false rest = let first = rises.0 in rises_from from (number x + 1) (filter test xs) (omega (arith, first)) rest

  -- one more at the end
  pub rises_push : (from : ℕ) (xs : List X) (y : X) → Rises number from xs → from ≤ number y → ((x : X) → Contains xs x → number x < number y) → Rises number from (xs ++ y ∷ [])
  rises_push from [] y rises low below = (low, tt)
  rises_push from (x ∷ xs) y rises low below =
      let less = below x (Contains-here x xs) in (rises.0, rises_push (number x + 1) xs y rises.1 (omega (arith, less)) (λ z h. below z (Contains-there x z xs h)))

  -- a rising list has each element at one place: two with the same ones are one
  same_rising : (a b : ℕ) (xs ys : List X) → Rises number a xs → Rises number b ys → ((z : X) → Contains xs z → Contains ys z) → ((z : X) → Contains ys z → Contains xs z) → xs ≡ ys
  same_rising a b [] [] one other there back = refl
  same_rising a b [] (y ∷ ys) one other there back = absurd (Contains-nothing y (back y (Contains-here y ys)))
  same_rising a b (x ∷ xs) [] one other there back = absurd (Contains-nothing x (there x (Contains-here x xs)))
  same_rising a b (x ∷ xs) (y ∷ ys) one other there back = ap (λ z. z ∷ xs) first ∙ ap (λ zs. y ∷ zs) (same_rising (number x + 1) (number y + 1) xs ys one.1 other.1 on back_on)
    where
      first : x ≡ y
      first = elim (Contains-cases y x ys (there x (Contains-here x xs))) [
        | inl e ↦ sym e
        | inr later ↦
            elim (Contains-cases x y xs (back y (Contains-here y ys))) [
              | inl e ↦ e
              | inr late ↦ (let more = rises_above (number y + 1) ys x other.1 later in let less = rises_above (number x + 1) xs y one.1 late in absurd (omega (arith, more, less)))
            ]
      ]

      on : (z : X) → Contains xs z → Contains ys z
      on z h = elim (Contains-cases y z ys (there z (Contains-there x z xs h))) [
        | inl e ↦ (let more = rises_above (number x + 1) xs z one.1 h in let same = ap number (first ∙ e) in absurd (omega (arith, more, same)))
        | inr later ↦ later
      ]

      back_on : (z : X) → Contains ys z → Contains xs z
      back_on z h = elim (Contains-cases x z xs (back z (Contains-there y z ys h))) [
        | inl e ↦ (let more = rises_above (number y + 1) ys z other.1 h in let same = ap number (sym first ∙ e) in absurd (omega (arith, more, same)))
        | inr later ↦ later
      ]

  -- so two with the same ones that pass a test have the same that pass it
  pub same_filtered : (test : X → Bool) (a b : ℕ) (xs ys : List X) → Rises number a xs → Rises number b ys → ((z : X) → test z ≡ true → Contains xs z → Contains ys z) → ((z : X) → test z ≡ true → Contains ys z → Contains xs z) → filter test xs ≡ filter test ys
  same_filtered test a b xs ys one other there back =
      same_rising a b (filter test xs) (filter test ys) (rises_filter test a xs one) (rises_filter test b ys other) (λ z h. let from = from_filter test xs z h in Contains-filter test ys z from.1 (there z from.1 from.0))
      (λ z h. let from = from_filter test ys z h in Contains-filter test xs z from.1 (back z from.1 from.0))

-- where one number rises, another one does that goes with it
module _ {X : Type 0} (Fits : X → Type 0) (number other : X → ℕ) (goes : (x y : X) → Fits x → Fits y → number x < number y → other x < other y) where
  rises_after : (x : X) (xs : List X) → Fits x → ((y : X) → Contains xs y → Fits y) → Rises number (number x + 1) xs → Rises other (other x + 1) xs
  rises_after x [] fit each rises = tt
  rises_after x (y ∷ ys) fit each rises =
      let next = each y (Contains-here y ys) in
      let first = rises.0 in
      let less = goes x y fit next (omega (arith, first)) in
      (omega (arith, less), rises_after y ys next (λ z h. each z (Contains-there y z ys h)) rises.1)

  pub rises_too : (from : ℕ) (xs : List X) → ((y : X) → Contains xs y → Fits y) → Rises number from xs → Rises other 0 xs
  rises_too from [] each rises = tt
  rises_too from (x ∷ xs) each rises = (omega arith, rises_after x xs (each x (Contains-here x xs)) (λ y h. each y (Contains-there x y xs h)) rises.1)
