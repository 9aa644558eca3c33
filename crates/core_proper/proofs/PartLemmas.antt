-- Lists of parts and of moments that go on.
use Rattle.std.proofs.Common.{◌≡◌, ◌↔◌, ℕ, List, [], ◌∷◌, ◌++◌, refl}
use Rattle.std.proofs.lemmas.List.{append_assoc}
use Rattle.floor_histories.specs.Words.{GuestShape}
use Rattle.port_core.specs.Run.{CoreState, seat_at, end_of}
use Rattle.core_proper.specs.Ideal.{ideal_of, ideal_moments, after_moment, end_of_moments}
use Rattle.core_proper.specs.Parts.{Act, begins, makes, ends, CoreMoment, entries_of}
use Rattle.core_proper.specs.Progress.{Progress, progressed, progress_of}
use Rattle.core_proper.specs.Proper.{IsProper}

-- an actor's list goes on
joined : (shape : GuestShape) (actor : ℕ) (p : Progress) (early late : List Act) → IsProper shape actor p early → IsProper shape actor (progress_of shape actor p early) late → IsProper shape actor p (early ++ late)
joined shape actor p [] late before rest = rest
joined shape actor p (act ∷ acts) late before rest = (before.0, joined shape actor (progressed shape actor p act) acts late before.1 rest)

parted : (shape : GuestShape) (actor : ℕ) (p : Progress) (early late : List Act) → IsProper shape actor p (early ++ late) → IsProper shape actor p early × IsProper shape actor (progress_of shape actor p early) late
parted shape actor p [] late all = (tt, all)
parted shape actor p (act ∷ acts) late all = let rest = parted shape actor (progressed shape actor p act) acts late all.1 in ((all.0, rest.0), rest.1)

pub proper_append : (shape : GuestShape) (actor : ℕ) (p : Progress) (early late : List Act) → IsProper shape actor p (early ++ late) ↔ (IsProper shape actor p early × IsProper shape actor (progress_of shape actor p early) late)
proper_append shape actor p early late = (parted shape actor p early late, λ both. joined shape actor p early late both.0 both.1)

-- a run goes on
pub ideal_append : (shape : GuestShape) (state : CoreState) (early late : List CoreMoment) → ideal_of shape state (early ++ late) ≡ ideal_of shape state early ++ ideal_of shape (end_of_moments shape state early) late
ideal_append shape state [] late = refl
ideal_append shape state (moment ∷ moments) late =
    let rest = ideal_append shape (after_moment shape state moment) moments late in
    let joined = append_assoc (ideal_moments shape (seat_at state moment.actor) moment.actor moment.act) (ideal_of shape (after_moment shape state moment) moments) (ideal_of shape (end_of_moments shape (after_moment shape state moment) moments) late) in
    rw rest (rw joined refl)

-- a begin and an end of a part leave the core as it is
pub same_end : (shape : GuestShape) (state : CoreState) (moments : List CoreMoment) → end_of_moments shape state moments ≡ end_of shape state (entries_of moments)
same_end shape state [] = refl
same_end shape state (moment ∷ moments) = by_act moment.act (same_end shape (after_moment shape state moment) moments)
  where
    by_act : (act : Act) → end_of_moments shape (after_moment shape state (record { actor = moment.actor; act = act })) moments ≡ end_of shape (after_moment shape state (record { actor = moment.actor; act = act })) (entries_of moments) → end_of_moments shape state (record { actor = moment.actor; act = act } ∷ moments) ≡ end_of shape state (entries_of (record { actor = moment.actor; act = act } ∷ moments))
    by_act (begins operation lrs) rest = rest
    by_act (makes made) rest = rest
    by_act (ends answer) rest = rest
