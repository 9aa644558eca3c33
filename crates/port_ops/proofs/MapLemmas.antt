-- What the members of a list tell, where one of them is looked at, changes, or comes.
use Rattle.std.proofs.Common.{◌≡◌, ℕ, ◌+◌, ◌<◌, inl, inr, List, [], ◌∷◌, ◌++◌, map, length, get_or, arith, refl, sym, ap, subst, ◌∙◌}
use Rattle.std.proofs.lemmas.Bool.Decides.{eqb_tells}
use Rattle.std.proofs.lemmas.List.{get_or-map, map-append, length-map, get_or_append_left, get_or_push}

module _ {A B : Type 0} (f : A → B) (d : B) where
  -- what the one at a number tells
  pub mapped_at : (xs : List A) (number : ℕ) (x : A) → number < length xs → x ≡ get_or xs number x → get_or (map f xs) number d ≡ f x
  mapped_at xs number x there is = get_or-map f xs number x d there ∙ ap f (sym is)

  -- what is true of what each tells, and of one more
  pub mapped_push :
      (P : B → ℕ → Type 0) (xs : List A) (x : A) (number : ℕ) → length xs ≡ number → ((n : ℕ) → n < number → P (get_or (map f xs) n d) n) → P (f x) number → (n : ℕ) → n < number + 1 → P (get_or (map f (xs ++ x ∷ [])) n d) n
  mapped_push P xs x number each before here n h =
      let all = map-append f xs (x ∷ []) in
      let long = length-map xs f ∙ each in
      elim (eqb_tells n number) [
        | inl same ↦
            subst (λ t. P t n) (sym (ap (λ ts. get_or ts n d) all ∙ get_or_push (map f xs) (f x) d n (long ∙ sym same.1))) (subst (P (f x)) (sym same.1) here)
        | inr differ ↦
            (let small : n < number = omega (arith, h, differ.1) in
            subst (λ t. P t n) (sym (ap (λ ts. get_or ts n d) all ∙ get_or_append_left (map f xs) (f x ∷ []) d n (subst (λ k. n < k) (sym long) small))) (before n small))
      ]

  -- what one in the middle tells
  pub mapped_middle : (early late : List A) (x : A) → get_or (map f (early ++ x ∷ late)) (length early) d ≡ f x
  mapped_middle [] late x = refl
  mapped_middle (y ∷ early) late x = mapped_middle early late x
