-- A piece of which some events are named, one after the other.
use Rattle.std.proofs.Common.{◌≡◌, ◌↔◌, ℕ, length, Bool, true, false, IsTrue, List, [], ◌∷◌, Option, refl, sym, ◌∙◌, subst, arith}
use Rattle.history_commands.specs.Calls.{Happened, named_of}
use Rattle.history_commands.specs.Walked.{from_named, is_idle}
use Rattle.history_commands.proofs.NamedLemmas.{from_first, from_none, first_named, idle_none, none_idle}

pub no_more : (from : List Happened) → length from ≡ 0 → from ≡ []
no_more [] h = refl
no_more (one ∷ from) h = absurd (omega (arith, h))

-- what is so of no events is so where none is named
pub none_may : (actor : Option ℕ) (piece from : List Happened) (May : List Happened → Type 0) → from ≡ from_named actor piece → length from ≡ 0 → May [] → IsTrue true ↔ May (named_of actor piece)
none_may actor piece from May e h so = (λ t. subst May (sym (from_none actor piece (sym e ∙ no_more from h))) so, λ m. refl)

-- and what is so of one and those after it, where it is the first
pub some_may : (actor : Option ℕ) (piece from : List Happened) (one : Happened) (rest : List Happened) (May : List Happened → Type 0) (b : Bool) → from ≡ from_named actor piece → from ≡ one ∷ rest → IsTrue b ↔ May (one ∷ named_of actor rest) → IsTrue b ↔ May (named_of actor piece)
some_may actor piece from one rest May b e h is = subst (λ named. IsTrue b ↔ May named) (sym (first_named actor piece one rest (from_first actor piece one rest (sym e ∙ h)))) is

pub quiet_is : (actor : Option ℕ) (piece : List Happened) (b : Bool) → b ≡ is_idle actor piece → IsTrue b ↔ (named_of actor piece ≡ [])
quiet_is actor piece b e = (λ h. idle_none actor piece (sym e ∙ h), λ h. e ∙ none_idle actor piece h)

-- Two conditions, one after the other.

pub then_both : (a b : Bool) (One Other : Type 0) → a ≡ true → IsTrue a ↔ One → IsTrue b ↔ Other → IsTrue b ↔ (One × Other)
then_both a b One Other h one other = (λ t. (one.0 h, other.0 t), λ both. other.1 both.1)

pub not_both : (a : Bool) (One Other : Type 0) → a ≡ false → IsTrue a ↔ One → IsTrue a ↔ (One × Other)
not_both a One Other h one = (λ t. absurd (cc), λ both. one.1 both.0)
