-- The interrupts that a scan has still to claim or to take.
use Rattle.std.proofs.Common.{◌≡◌, ◌≢◌, ◌||◌, not, Bool, true, false, cond, List, [], ◌∷◌, map, filter, Contains, inl, inr, refl, sym, ap, ◌∙◌}
use Rattle.law_core_is_history.specs.Words.{Key, is_same_key}
use Rattle.law_core_is_history.proofs.GicBase.KeyLemmas.{same_key, same_itself, other_key}
use Rattle.law_core_is_history.specs.Lists.{Choice}
use Rattle.law_core_is_history.proofs.VcpuRefill.ElementLemmas.{Contains-here, Contains-there, Contains-cases, Contains-nothing}
use Rattle.law_core_is_history.specs.Core.{has_key, without_key}

-- Some keys without one.

pub without_other : (key other : Key) (keys : List Key) → other ≢ key → has_key other (without_key key keys) ≡ has_key other keys
without_other key other [] apart = refl
without_other key other (one ∷ keys) apart = of (is_same_key key one) refl (without_other key other keys apart)
  where
    of : (b : Bool) → is_same_key key one ≡ b → has_key other (without_key key keys) ≡ has_key other keys → has_key other (cond (not b) (one ∷ without_key key keys) (without_key key keys)) ≡ (is_same_key other one || has_key other keys)
    of true e rest = rest ∙ sym (ap (λ c. c || has_key other keys) (other_key other one (λ f. apart (f ∙ sym (same_key key one e)))))
    of false e rest = ap (λ b. is_same_key other one || b) rest

pub without_itself : (key : Key) (keys : List Key) → has_key key (without_key key keys) ≡ false
without_itself key [] = refl
without_itself key (one ∷ keys) = of (is_same_key key one) refl (without_itself key keys)
  where
    of : (b : Bool) → is_same_key key one ≡ b → has_key key (without_key key keys) ≡ false → has_key key (cond (not b) (one ∷ without_key key keys) (without_key key keys)) ≡ false
    of true e rest = rest
    of false e rest = ap (λ b. b || has_key key (without_key key keys)) e ∙ rest

-- The keys of choices.

abbrev pub keys_of : List Choice → List Key
keys_of choices = map (λ choice. choice.key) choices

abbrev pub choices_without : Key → List Choice → List Choice
choices_without key choices = filter (λ choice. not (is_same_key key choice.key)) choices

pub of_key : (key : Key) (choices : List Choice) → has_key key (keys_of choices) ≡ true → (choice : Choice) × Contains choices choice × (choice.key ≡ key)
of_key key [] h = absurd (cc)
of_key key (one ∷ choices) h = of (is_same_key key one.key) refl h (of_key key choices)
  where
    of : (b : Bool) → is_same_key key one.key ≡ b → (b || has_key key (keys_of choices)) ≡ true → (has_key key (keys_of choices) ≡ true → (choice : Choice) × Contains choices choice × (choice.key ≡ key)) → (choice : Choice) × Contains (one ∷ choices) choice × (choice.key ≡ key)
    of true e h later = (one, Contains-here one choices, sym (same_key key one.key e))
    of false e h later = let found = later h in (found.0, Contains-there one found.0 choices found.1, found.2)

pub has_its_key : (choice : Choice) (choices : List Choice) → Contains choices choice → has_key choice.key (keys_of choices) ≡ true
has_its_key choice [] has = absurd (Contains-nothing choice has)
has_its_key choice (one ∷ choices) has = elim (Contains-cases one choice choices has) [
  | inl same ↦ ap (λ key. is_same_key choice.key key || has_key choice.key (keys_of choices)) (ap (λ (c : Choice). c.key) same) ∙ ap (λ b. b || has_key choice.key (keys_of choices)) (same_itself choice.key)
  | inr later ↦ either (is_same_key choice.key one.key) (has_its_key choice choices later)
]
  where
    either : (b : Bool) → has_key choice.key (keys_of choices) ≡ true → (b || has_key choice.key (keys_of choices)) ≡ true
    either true e = refl
    either false e = e

pub keys_without : (key : Key) (choices : List Choice) → keys_of (choices_without key choices) ≡ without_key key (keys_of choices)
keys_without key [] = refl
keys_without key (one ∷ choices) = of (is_same_key key one.key) (keys_without key choices)
  where
    of : (b : Bool) → keys_of (choices_without key choices) ≡ without_key key (keys_of choices)
        → keys_of (cond (not b) (one ∷ choices_without key choices) (choices_without key choices)) ≡ cond (not b) (one.key ∷ without_key key (keys_of choices)) (without_key key (keys_of choices))
    of true rest = rest
    of false rest = ap (λ keys. one.key ∷ keys) rest
