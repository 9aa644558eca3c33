-- The next moment of a proper run, beside all that is known of the run so far.
use Rattle.std.proofs.Common.{◌≡◌, ◌≢◌, ℕ, inl, inr, List, [], ◌∷◌, ◌++◌, fold, sym, ap, ◌∙◌, subst}
use Rattle.std.proofs.lemmas.Bool.{cases_eq}
use Rattle.std.proofs.lemmas.List.{append_assoc, append-nil}
use Rattle.std.proofs.lemmas.List.Sums.{fold-append}
use Rattle.law_registers_stand.specs.Words.{GuestShape}
use Rattle.law_registers_stand.specs.Histories.{IdealGuest, CanOpen}
use Rattle.law_registers_stand.specs.Core.{CoreState, opening, seat_at, after_moment, end_of_moments, ideal_moments, ideal_of, Act, CoreMoment, own_acts, Progress, opening_progress, progressed, progress_of, progress_in, IsProper, IsProperRun}
use Rattle.law_registers_stand.proofs.CoreProper.PartLemmas.{proper_append, ideal_append}
use Rattle.law_registers_stand.proofs.LawCoreIsHistory.HistorySteps.{own_here, own_other}
use Rattle.law_registers_stand.proofs.LawCoreIsHistory.PrefixLemmas.{own_both, parted_before}
use Rattle.law_scans_miss_none.specs.Excuse.{followed_in}
use Rattle.law_registers_stand.specs.Followed.{Followed, follows, opening_followed}
use Rattle.law_scans_miss_none.proofs.Frame.{follow, moved_on, progress_on, IsAt, IsActing, GoProperly, first_acts, rest_go, at_next, at_opens}

-- the beginning of a proper run is one
pub proper_before : (guest : IdealGuest) (number : ℕ) (early late : List CoreMoment) → IsProperRun guest number (early ++ late) → IsProperRun guest number early
proper_before guest number early late proper = record {
  parted = parted_before guest number early late proper.parted;
  proper = λ actor there.
      ((proper_append guest.shape actor (opening_progress guest number actor) (own_acts actor early) (own_acts actor late)).0
      (subst (IsProper guest.shape actor (opening_progress guest number actor)) (own_both actor early late) (proper.proper actor there))).0;
}

-- What one more moment leaves.

pub end_more : (shape : GuestShape) (state : CoreState) (early : List CoreMoment) (moment : CoreMoment) → end_of_moments shape state (early ++ moment ∷ []) ≡ after_moment shape (end_of_moments shape state early) moment
end_more shape state early moment = fold-append (after_moment shape) state early (moment ∷ [])

pub followed_more : (guest : IdealGuest) (number : ℕ) (early : List CoreMoment) (moment : CoreMoment) → followed_in guest number (early ++ moment ∷ []) ≡ follow guest.shape (end_of_moments guest.shape (opening guest number) early) (followed_in guest number early) moment
followed_more guest number early moment =
    let state = end_of_moments guest.shape (opening guest number) early in
    ap (fold follows (opening_followed guest)) (ideal_append guest.shape (opening guest number) early (moment ∷ []) ∙ ap (λ rest. ideal_of guest.shape (opening guest number) early ++ rest) (append-nil (ideal_moments guest.shape (seat_at state moment.actor) moment.actor moment.act)))
    ∙ fold-append follows (opening_followed guest) (ideal_of guest.shape (opening guest number) early) (ideal_moments guest.shape (seat_at state moment.actor) moment.actor moment.act)

pub progress_more : (guest : IdealGuest) (number : ℕ) (early : List CoreMoment) (actor : ℕ) (act : Act) → progress_in guest number (early ++ record { actor = actor; act = act } ∷ []) actor ≡ progressed guest.shape actor (progress_in guest number early actor) act
progress_more guest number early actor act =
    ap (progress_of guest.shape actor (opening_progress guest number actor)) (own_both actor early (record { actor = actor; act = act } ∷ []) ∙ ap (λ rest. own_acts actor early ++ rest) (own_here actor act []))
    ∙ fold-append (progressed guest.shape actor) (opening_progress guest number actor) (own_acts actor early) (act ∷ [])

pub progress_still : (guest : IdealGuest) (number : ℕ) (early : List CoreMoment) (actor other : ℕ) (act : Act) → other ≢ actor → progress_in guest number (early ++ record { actor = actor; act = act } ∷ []) other ≡ progress_in guest number early other
progress_still guest number early actor other act differ =
    ap (progress_of guest.shape other (opening_progress guest number other)) (own_both other early (record { actor = actor; act = act } ∷ []) ∙ ap (λ rest. own_acts other early ++ rest) (own_other actor other act [] differ) ∙ append-nil (own_acts other early))

-- a moment after a proper run
pub record IsNextOf (guest : IdealGuest) (number : ℕ) (early : List CoreMoment) (actor : ℕ) (act : Act) : Type 0 where
  pub before : IsProperRun guest number early
  pub after : IsProperRun guest number (early ++ record { actor = actor; act = act } ∷ [])
  pub at : IsAt guest.shape (end_of_moments guest.shape (opening guest number) early) (followed_in guest number early) (progress_on guest.shape (opening_progress guest number) early)
  pub acts : IsActing guest.shape (end_of_moments guest.shape (opening guest number) early) (progress_on guest.shape (opening_progress guest number) early) actor act

-- what others keep, and what an actor keeps by what it does itself
pub record IsKeptAlong (guest : IdealGuest) (number : ℕ) (vcpu : ℕ) (Keeps : CoreState → Followed → Progress → Type 0) : Type 0 where
  pub other :
      (early : List CoreMoment) (actor : ℕ) (act : Act) → actor ≢ vcpu → IsNextOf guest number early actor act → Keeps (end_of_moments guest.shape (opening guest number) early) (followed_in guest number early) (progress_in guest number early vcpu)
      → Keeps (after_moment guest.shape (end_of_moments guest.shape (opening guest number) early) (record { actor = actor; act = act }))
      (follow guest.shape (end_of_moments guest.shape (opening guest number) early) (followed_in guest number early) (record { actor = actor; act = act })) (progress_in guest number early vcpu)
  pub own :
      (early : List CoreMoment) (act : Act) → IsNextOf guest number early vcpu act → Keeps (end_of_moments guest.shape (opening guest number) early) (followed_in guest number early) (progress_in guest number early vcpu)
      → Keeps (after_moment guest.shape (end_of_moments guest.shape (opening guest number) early) (record { actor = vcpu; act = act }))
      (follow guest.shape (end_of_moments guest.shape (opening guest number) early) (followed_in guest number early) (record { actor = vcpu; act = act })) (progressed guest.shape vcpu (progress_in guest number early vcpu) act)

-- what holds at the opening and is kept by each further moment is so at the end of each proper run
module _ (guest : IdealGuest) (number : ℕ) (good : CanOpen guest) (KeptAt : List CoreMoment → Type 0)
    (one_more : (early : List CoreMoment) (actor : ℕ) (act : Act) → IsNextOf guest number early actor act → KeptAt early → KeptAt (early ++ record { actor = actor; act = act } ∷ [])) where
  goes_along :
      (late early : List CoreMoment) → IsProperRun guest number (early ++ late) → IsAt guest.shape (end_of_moments guest.shape (opening guest number) early) (followed_in guest number early) (progress_on guest.shape (opening_progress guest number) early)
      → GoProperly guest.shape (end_of_moments guest.shape (opening guest number) early) (progress_on guest.shape (opening_progress guest number) early) late → KeptAt early → KeptAt (early ++ late)
  goes_along [] early proper here go kept = subst KeptAt (sym (append-nil early)) kept
  goes_along (moment ∷ late) early proper here go kept =
      let acts = first_acts guest.shape (end_of_moments guest.shape (opening guest number) early) (progress_on guest.shape (opening_progress guest number) early) moment late go in
      let whole : IsProperRun guest number ((early ++ moment ∷ []) ++ late) = subst (IsProperRun guest number) (sym (append_assoc early (moment ∷ []) late)) proper in
      let next : IsNextOf guest number early moment.actor moment.act = record { before = proper_before guest number early (moment ∷ late) proper; after = proper_before guest number (early ++ moment ∷ []) late whole; at = here; acts = acts } in
      let later = at_next guest.shape good.sound.shape (end_of_moments guest.shape (opening guest number) early) (followed_in guest number early) (progress_on guest.shape (opening_progress guest number) early) moment.actor moment.act here acts in
      let state_is = sym (end_more guest.shape (opening guest number) early moment) in
      let progress_on_is = sym (fold-append (moved_on guest.shape) (opening_progress guest number) early (moment ∷ [])) in
      let follow_is = sym (followed_more guest number early moment) in
      subst KeptAt (append_assoc early (moment ∷ []) late)
      (goes_along late (early ++ moment ∷ []) whole
      (subst (λ s. IsAt guest.shape s (followed_in guest number (early ++ moment ∷ [])) (progress_on guest.shape (opening_progress guest number) (early ++ moment ∷ []))) state_is
      (subst (λ f. IsAt guest.shape (after_moment guest.shape (end_of_moments guest.shape (opening guest number) early) moment) f (progress_on guest.shape (opening_progress guest number) (early ++ moment ∷ []))) follow_is
      (subst (IsAt guest.shape (after_moment guest.shape (end_of_moments guest.shape (opening guest number) early) moment) (follow guest.shape (end_of_moments guest.shape (opening guest number) early) (followed_in guest number early) moment)) progress_on_is later)))
      (subst (λ s. GoProperly guest.shape s (progress_on guest.shape (opening_progress guest number) (early ++ moment ∷ [])) late) state_is
      (subst (λ q. GoProperly guest.shape (after_moment guest.shape (end_of_moments guest.shape (opening guest number) early) moment) q late) progress_on_is
      (rest_go guest.shape (end_of_moments guest.shape (opening guest number) early) (progress_on guest.shape (opening_progress guest number) early) moment late go)))
      (one_more early moment.actor moment.act next kept))

  pub runs_on : KeptAt [] → (moments : List CoreMoment) → IsProperRun guest number moments → KeptAt moments
  runs_on opens moments proper =
      goes_along moments [] proper (at_opens guest number good) (record { actors = proper.parted.actors; parts = proper.parted.parts; run = proper.parted.run; proper = proper.proper }) opens

module _ (guest : IdealGuest) (number vcpu : ℕ) (good : CanOpen guest) (Keeps : CoreState → Followed → Progress → Type 0) (by : IsKeptAlong guest number vcpu Keeps) where
  -- what is kept at the end of some moments
  abbrev KeptAt : List CoreMoment → Type 0
  KeptAt moments = Keeps (end_of_moments guest.shape (opening guest number) moments) (followed_in guest number moments) (progress_in guest number moments vcpu)

  one_more : (early : List CoreMoment) (actor : ℕ) (act : Act) → IsNextOf guest number early actor act → KeptAt early → KeptAt (early ++ record { actor = actor; act = act } ∷ [])
  one_more early actor act next kept =
      subst (λ s. Keeps s (followed_in guest number (early ++ record { actor = actor; act = act } ∷ [])) (progress_in guest number (early ++ record { actor = actor; act = act } ∷ []) vcpu)) (sym (end_more guest.shape (opening guest number) early (record { actor = actor; act = act })))
      (subst (λ f. Keeps (after_moment guest.shape (end_of_moments guest.shape (opening guest number) early) (record { actor = actor; act = act })) f (progress_in guest number (early ++ record { actor = actor; act = act } ∷ []) vcpu)) (sym (followed_more guest number early (record { actor = actor; act = act })))
      (elim (cases_eq vcpu actor) [
        | inl same ↦ mine same
        | inr differ ↦
            subst (λ p. Keeps (after_moment guest.shape (end_of_moments guest.shape (opening guest number) early) (record { actor = actor; act = act })) (follow guest.shape (end_of_moments guest.shape (opening guest number) early) (followed_in guest number early) (record { actor = actor; act = act })) p)
            (sym (progress_still guest number early actor vcpu act differ)) (by.other early actor act (λ e. differ (sym e)) next kept)
      ]))
    where
      mine : vcpu ≡ actor → Keeps (after_moment guest.shape (end_of_moments guest.shape (opening guest number) early) (record { actor = actor; act = act }))
          (follow guest.shape (end_of_moments guest.shape (opening guest number) early) (followed_in guest number early) (record { actor = actor; act = act })) (progress_in guest number (early ++ record { actor = actor; act = act } ∷ []) vcpu)
      mine same =
          subst (λ n. Keeps (after_moment guest.shape (end_of_moments guest.shape (opening guest number) early) (record { actor = n; act = act }))
          (follow guest.shape (end_of_moments guest.shape (opening guest number) early) (followed_in guest number early) (record { actor = n; act = act })) (progress_in guest number (early ++ record { actor = n; act = act } ∷ []) vcpu)) same
          (subst (λ p. Keeps (after_moment guest.shape (end_of_moments guest.shape (opening guest number) early) (record { actor = vcpu; act = act })) (follow guest.shape (end_of_moments guest.shape (opening guest number) early) (followed_in guest number early) (record { actor = vcpu; act = act })) p)
          (sym (progress_more guest number early vcpu act)) (by.own early act (subst (λ n. IsNextOf guest number early n act) (sym same) next) kept))

  -- every proper run
  pub runs_along : KeptAt [] → (moments : List CoreMoment) → IsProperRun guest number moments → KeptAt moments
  runs_along opens moments proper = runs_on guest number good KeptAt one_more opens moments proper
