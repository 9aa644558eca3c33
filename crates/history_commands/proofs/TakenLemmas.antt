-- Calls that take the ITS first.
use Rattle.std.proofs.Common.{◌≡◌, ◌⊎◌, ◌↔◌, ℕ, length, Bool, true, false, IsTrue, List, [], ◌∷◌, ◌++◌, Option, Some, refl, sym, ap, ◌∙◌, subst, cond, inl, inr}
use Rattle.history_commands.specs.Words.{GuestShape}
use Rattle.history_commands.specs.Registers.{Maps}
use Rattle.history_commands.specs.Calls.{ItsBegin, Happened, is_beside, named_of}
use Rattle.history_commands.specs.GicCall.declared.event.Found.TheVariants.{Nothing}
use Rattle.history_commands.specs.Walked.{from_named}
use Rattle.history_commands.specs.Written.{IsWritten, IsFirstNamed, IsItsMade}
use Rattle.history_commands.specs.Opened.{IsWriteBegun, IsTakenBegun, IsItsBegun}
use Rattle.history_commands.proofs.NamedLemmas.{from_first, from_none, none_from, from_later, first_named}
use Rattle.history_commands.proofs.BegunNamed.{no_more}

abbrev pub Taken : Happened → Type 0
Taken happened = (happened.event ≡ ItsBegin) × (happened.found ≡ Nothing)

same_head : (x y : Happened) (xs ys : List Happened) → x ∷ xs ≡ y ∷ ys → x ≡ y
same_head x y xs ys h = cc

same_tail : (x y : Happened) (xs ys : List Happened) → x ∷ xs ≡ y ∷ ys → xs ≡ ys
same_tail x y xs ys h = cc

one_more : (x : Happened) (xs : List Happened) → x ∷ xs ≡ [] → ⊥
one_more x xs h = absurd (cc)

module _ (actor : ℕ) (piece : List Happened) where
  from_is : (first : Happened) (rest : List Happened) → IsFirstNamed actor piece first rest → from_named (Some actor) piece ≡ first ∷ rest
  from_is first rest is =
      ap (from_named (Some actor)) is.split ∙ from_later (Some actor) is.idle (first ∷ rest) (none_from (Some actor) is.idle is.quiet)
      ∙ ap (λ b. cond b (from_named (Some actor) rest) (first ∷ rest)) is.named

  is_first : (first : Happened) (rest : List Happened) → from_named (Some actor) piece ≡ first ∷ rest → IsFirstNamed actor piece first rest
  is_first first rest e = let is = from_first (Some actor) piece first rest e in record { idle = is.before; split = is.split; quiet = is.none; named = is.named }

  module _ (shape : GuestShape) (maps : Maps) (targets : ℕ → ℕ → Option ℕ) (offset size value : ℕ) (from : List Happened) (is : from ≡ from_named (Some actor) piece) where
    abbrev pub Made : Type 0
    Made = IsItsMade shape maps targets actor offset size value piece

    abbrev pub May : Type 0
    May = IsItsBegun shape maps targets actor offset size value piece

    abbrev pub GoesOn : List Happened → Type 0
    GoesOn rest = IsWriteBegun shape actor offset size value rest ⊎ IsWritten shape maps targets actor offset size value true rest

    pub ended_none : length from ≡ 0 → IsTrue false ↔ Made
    ended_none e = (λ h. absurd (cc), λ made. absurd (one_more made.first made.rest (sym (from_is made.first made.rest made.is_first) ∙ sym is ∙ no_more from e)))

    pub begun_none : length from ≡ 0 → IsTrue true ↔ May
    begun_none e = (λ h. inl (from_none (Some actor) piece (sym is ∙ no_more from e)), λ may. refl)

    module _ (one : Happened) (rest : List Happened) (e : from ≡ one ∷ rest) where
      here : from_named (Some actor) piece ≡ one ∷ rest
      here = sym is ∙ e

      same_first : (first : Happened) (later : List Happened) → IsFirstNamed actor piece first later → first ≡ one
      same_first first later first_is = same_head first one later rest (sym (from_is first later first_is) ∙ here)

      same_rest : (first : Happened) (later : List Happened) → IsFirstNamed actor piece first later → later ≡ rest
      same_rest first later first_is = same_tail first one later rest (sym (from_is first later first_is) ∙ here)

      named_here : named_of (Some actor) piece ≡ [] → ⊥
      named_here none = one_more one rest (sym here ∙ none_from (Some actor) piece none)

      module _ (b : Bool) (told : IsTrue b ↔ Taken one) where
        pub ended_other : b ≡ false → IsTrue false ↔ Made
        ended_other fails = (
          λ h. absurd (cc),
          λ made. sym fails ∙ told.1 (subst Taken (same_first made.first made.rest made.is_first) (made.taken, made.found)),
        )

        pub begun_other : b ≡ false → IsTrue false ↔ May
        begun_other fails = (λ h. absurd (cc), λ may. of may)
          where
            of : May → IsTrue false
            of (inl none) = absurd (named_here none)
            of (inr begun) = sym fails ∙ told.1 (subst Taken (same_first begun.first begun.rest begun.is_first) (begun.taken, begun.found))

        pub ended_taken : b ≡ true → (c : Bool) → IsTrue c ↔ IsWritten shape maps targets actor offset size value false rest → IsTrue c ↔ Made
        ended_taken is_so c so = (
          λ h. record { first = one; rest = rest; is_first = is_first one rest here; taken = (told.0 is_so).0; found = (told.0 is_so).1; goes_on = so.0 h },
          λ made. so.1 (subst (IsWritten shape maps targets actor offset size value false) (same_rest made.first made.rest made.is_first) made.goes_on),
        )

        pub begun_taken : b ≡ true → (c : Bool) → IsTrue c ↔ GoesOn rest → IsTrue c ↔ May
        begun_taken is_so c so = (
          λ h. inr (record { first = one; rest = rest; is_first = is_first one rest here; taken = (told.0 is_so).0; found = (told.0 is_so).1; goes_on = so.0 h }),
          λ may. of may,
        )
          where
            of : May → IsTrue c
            of (inl none) = absurd (named_here none)
            of (inr begun) = so.1 (subst GoesOn (same_rest begun.first begun.rest begun.is_first) begun.goes_on)

-- One of two.

pub first_of_two : (b : Bool) (One Other : Type 0) → b ≡ true → IsTrue b ↔ One → IsTrue true ↔ (One ⊎ Other)
first_of_two b One Other is_so one = (λ h. inl (one.0 is_so), λ either. refl)

pub second_of_two : (b c : Bool) (One Other : Type 0) → b ≡ false → IsTrue b ↔ One → IsTrue c ↔ Other → IsTrue c ↔ (One ⊎ Other)
second_of_two b c One Other is_not one other = (λ h. inr (other.0 h), λ either. of either)
  where
    of : One ⊎ Other → IsTrue c
    of (inl it) = let is_so : b ≡ true = one.1 it in absurd (cc)
    of (inr it) = other.1 it
