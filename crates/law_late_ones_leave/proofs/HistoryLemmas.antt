-- A clause of each moment of a history, as the history goes on.
use Rattle.std.proofs.Common.{◌≡◌, ℕ, ◌&&◌, true≢false, Bool, true, false, IsTrue, List, [], ◌∷◌, ◌++◌, fold, refl, sym, ap, ◌∙◌, subst}
use Rattle.std.proofs.lemmas.Bool.{and_parts}
use Rattle.std.proofs.lemmas.List.{append-nil}
use Rattle.law_scans_miss_none.specs.Calls.{Moment}
use Rattle.law_scans_miss_none.specs.Histories.{Track, is_kept, is_kept_from, Ideal, IdealGuest}
use Rattle.law_scans_miss_none.specs.Core.{opening, seat_at, end_of_moments, ideal_moments, ideal_of, Act, CoreMoment}
use Rattle.law_scans_miss_none.proofs.CoreProper.PartLemmas.{ideal_append}
use Rattle.law_scans_miss_none.specs.Excuse.{followed_in}
use Rattle.law_scans_miss_none.specs.LawRegistersStand.Followed.{Followed, follows, opening_followed}

-- a clause of each moment of a history from some state on
abbrev pub clause_from : (Ideal → Track → Moment → Bool) → Followed → List Moment → Bool
clause_from clause at moments = is_kept_from clause at.ideal at.track moments

joined : (a b : Bool) → IsTrue a → IsTrue b → IsTrue (a && b)
joined true b h g = g
joined false b h g = absurd (true≢false (sym h))

-- of a history it holds of the beginning, and of the rest from where that ended; and the other way round
kept_append : (clause : Ideal → Track → Moment → Bool) (early late : List Moment) (at : Followed) → IsTrue (clause_from clause at (early ++ late)) → IsTrue (clause_from clause at early) × IsTrue (clause_from clause (fold follows at early) late)
kept_append clause [] late at h = (refl, h)
kept_append clause (moment ∷ early) late at h =
    let parts = and_parts (clause at.ideal at.track moment) (clause_from clause (follows at moment) (early ++ late)) h in
    let rest = kept_append clause early late (follows at moment) parts.1 in
    (joined (clause at.ideal at.track moment) (clause_from clause (follows at moment) early) parts.0 rest.0, rest.1)

pub kept_both : (clause : Ideal → Track → Moment → Bool) (early late : List Moment) (at : Followed) → IsTrue (clause_from clause at early) → IsTrue (clause_from clause (fold follows at early) late) → IsTrue (clause_from clause at (early ++ late))
kept_both clause [] late at h g = g
kept_both clause (moment ∷ early) late at h g =
    let parts = and_parts (clause at.ideal at.track moment) (clause_from clause (follows at moment) early) h in
    joined (clause at.ideal at.track moment) (clause_from clause (follows at moment) (early ++ late)) parts.0 (kept_both clause early late (follows at moment) parts.1 g)

module _ (clause : Ideal → Track → Moment → Bool) (guest : IdealGuest) (number : ℕ) (early : List CoreMoment) (actor : ℕ) (act : Act) where
  -- what the next moment of a run stands for
  abbrev pub Next : Type 0
  Next = IsTrue (clause_from clause (followed_in guest number early) (ideal_moments guest.shape (seat_at (end_of_moments guest.shape (opening guest number) early) actor) actor act))

  history_is : ideal_of guest.shape (opening guest number) (early ++ record { actor = actor; act = act } ∷ []) ≡ ideal_of guest.shape (opening guest number) early ++ ideal_moments guest.shape (seat_at (end_of_moments guest.shape (opening guest number) early) actor) actor act
  history_is =
      ideal_append guest.shape (opening guest number) early (record { actor = actor; act = act } ∷ [])
      ∙ ap (λ rest. ideal_of guest.shape (opening guest number) early ++ rest) (append-nil (ideal_moments guest.shape (seat_at (end_of_moments guest.shape (opening guest number) early) actor) actor act))

  pub history_more : IsTrue (is_kept clause guest (ideal_of guest.shape (opening guest number) (early ++ record { actor = actor; act = act } ∷ []))) → IsTrue (is_kept clause guest (ideal_of guest.shape (opening guest number) early)) × Next
  history_more h =
      kept_append clause (ideal_of guest.shape (opening guest number) early) (ideal_moments guest.shape (seat_at (end_of_moments guest.shape (opening guest number) early) actor) actor act) (opening_followed guest)
      (subst (λ ms. IsTrue (clause_from clause (opening_followed guest) ms)) history_is h)

  pub history_both : IsTrue (is_kept clause guest (ideal_of guest.shape (opening guest number) early)) → Next → IsTrue (is_kept clause guest (ideal_of guest.shape (opening guest number) (early ++ record { actor = actor; act = act } ∷ [])))
  history_both h now =
      subst (λ ms. IsTrue (clause_from clause (opening_followed guest) ms)) (sym history_is)
      (kept_both clause (ideal_of guest.shape (opening guest number) early) (ideal_moments guest.shape (seat_at (end_of_moments guest.shape (opening guest number) early) actor) actor act) (opening_followed guest) h now)
