-- Between calls nothing is on its way to an interface, and nothing that is to leave one is late.
use Rattle.std.proofs.Common.{◌≡◌, ℕ, ◌<◌, ◌==◌, ◌&&◌, ◌||◌, inl, inr, true≢false, Bool, true, false, IsTrue, All, List, [], ◌∷◌, Option, Some, None, is_some, refl, sym, ap, ◌∙◌, subst}
use Rattle.std.proofs.lemmas.List.Elements.{All-head}
use Rattle.law_late_ones_leave.specs.Words.{Key, GuestShape, has_interrupt}
use Rattle.law_late_ones_leave.specs.Histories.{Turn, changes_of, doing_of, is_home, IdealGuest, CanOpen}
use Rattle.law_late_ones_leave.specs.Core.{AtIrq, Local, actor_count, is_at, CoreState, opening, seat_at, end_of_moments, CoreMoment, Progress, is_paid, opening_progress, progress_in, IsProperRun, is_empty}
use Rattle.law_late_ones_leave.proofs.LawCoreIsHistory.StandingLemmas.{home_is}
use Rattle.law_late_ones_leave.specs.LawScansMissNone.Excuse.{followed_in, is_current}
use Rattle.law_late_ones_leave.specs.LawRegistersStand.Followed.{Followed}
use Rattle.law_late_ones_leave.specs.LawScansMissNone.Standing.{IsOwing}
use Rattle.law_late_ones_leave.specs.LawScansMissNone.Waiting.{record_in}
use Rattle.law_late_ones_leave.proofs.LawScansMissNone.Frame.{IsAt, progress_on}
use Rattle.law_late_ones_leave.proofs.LawScansMissNone.SinceSteps.{changes_are_owed}
use Rattle.law_accesses_show_home.specs.UpToDate.{IsUpToDate}
use Rattle.law_late_ones_leave.specs.Late.{AccessesComeFirst}
use Rattle.law_late_ones_leave.proofs.LateRuns.{late_ones_leave}
use Rattle.law_lone_accesses_find_all.specs.Lone.{AreAtEase, EaseIsUpToDate, IsAtEase}
use Rattle.law_lone_accesses_find_all.proofs.HereLemmas.{end_is, p_is, local_is, an_actor, within_vcpus, held_at}

module _ (guest : IdealGuest) (number : ℕ) (moments : List CoreMoment) (good : CanOpen guest) (proper : IsProperRun guest number moments) (firsts : AccessesComeFirst guest number moments) (are : AreAtEase guest number moments) where
  abbrev shape : GuestShape
  shape = guest.shape

  abbrev state : CoreState
  state = end_of_moments guest.shape (opening guest number) moments

  abbrev at : Followed
  at = followed_in guest number moments

  abbrev p : ℕ → Progress
  p = progress_in guest number moments

  here : IsAt shape state at (progress_on shape (opening_progress guest number) moments)
  here = end_is guest number good moments proper

  -- no call goes on
  no_call : (turn : Turn) → turn.actor < actor_count shape → IsTrue (is_current at.track turn) → ⊥
  no_call turn there current =
      let none : (doing_of at.track turn.actor).operation ≡ None = here.calls turn.actor there ∙ ap (λ (q : Progress). q.operation) (p_is guest number moments good proper turn.actor) ∙ are.nobody turn.actor there in
      true≢false (sym current ∙ ap (λ o. is_some o && (doing_of at.track turn.actor).number == turn.number) none)

  unchanged : (key : Key) → IsTrue (has_interrupt shape key) → is_home at.ideal key ≡ false → (changes_of shape at.track key).since ≡ []
  unchanged key there away = of (record_in shape state key).holder refl
    where
      none_now : (turns : List Turn) → (changes_of shape at.track key).since ≡ turns → (v : ℕ) → All (IsOwing shape state at.track v) turns → turns ≡ []
      none_now [] e v owed = refl
      none_now (turn ∷ turns) e v owed =
          let owing = All-head (IsOwing shape state at.track v) turn turns owed in absurd (no_call turn owing.there owing.current)

      empty_at : (v : ℕ) → v < shape.vcpus → IsTrue (is_empty (p v).local.at) → is_at key (seat_at state v).local.at ≡ false
      empty_at v within h = subst (λ (l : Local). is_at key l.at ≡ false) (local_is guest number moments good proper v (an_actor guest number moments good proper v within)) (none_at (p v).local.at h)
        where
          none_at : (list : List AtIrq) → IsTrue (is_empty list) → is_at key list ≡ false
          none_at [] h = refl
          none_at (one ∷ list) h = absurd (cc)

      calm : (v : ℕ) → (record_in shape state key).holder ≡ Some v → IsAtEase shape state v (p v) → (changes_of shape at.track key).since ≡ []
      calm v e (inl empty) = absurd (true≢false (sym (held_at guest number moments good proper key there v e) ∙ empty_at v (within_vcpus guest number moments good proper key there v e) empty))
      calm v e (inr is) = none_now (changes_of shape at.track key).since refl v (changes_are_owed guest number moments v key good proper (within_vcpus guest number moments good proper key there v e) there is.unkicked is.stays e)

      of : (o : Option ℕ) → (record_in shape state key).holder ≡ o → (changes_of shape at.track key).since ≡ []
      of None e = absurd (true≢false (sym (home_is here.sound here.related key there e) ∙ away))
      of (Some v) e = calm v e (are.ease v (within_vcpus guest number moments good proper key there v e))

  rests : IsUpToDate shape at
  rests = record { unchanged = unchanged; none_late = λ v within. late_ones_leave guest number moments v good proper within firsts (scanned v (are.ease v within)) }
    where
      or_right : (a b : Bool) → b ≡ true → (a || b) ≡ true
      or_right true b h = refl
      or_right false b h = h

      scanned : (v : ℕ) → IsAtEase shape state v (p v) → IsTrue (is_empty (p v).local.at || is_paid (p v).debt)
      scanned v (inl empty) = ap (λ b. b || is_paid (p v).debt) empty
      scanned v (inr is) = or_right (is_empty (p v).local.at) (is_paid (p v).debt) is.paid

pub ease_is_up_to_date : EaseIsUpToDate
ease_is_up_to_date guest number moments good proper firsts are = rests guest number moments good proper firsts are
