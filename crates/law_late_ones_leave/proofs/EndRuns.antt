-- Each call ends once all that are late have left, in every proper run in which accesses come first.
use Rattle.std.proofs.Common.{◌≡◌, ℕ, ◌<◌, ◌==◌, ◌&&◌, ◌||◌, inl, inr, true≢false, not, Bool, true, false, IsTrue, All, List, [], ◌∷◌, ◌++◌, fold, nat_lt, Option, Some, None, refl, sym, ◌∙◌, subst}
use Rattle.std.specs.List.{list_any}
use Rattle.std.proofs.lemmas.Bool.{and_parts, eqb-true, lt-ltb, ltb-true}
use Rattle.std.proofs.lemmas.List.Elements.{All-nil, All-head, All-tail}
use Rattle.law_scans_miss_none.specs.Words.{Key, GuestShape}
use Rattle.law_scans_miss_none.specs.Calls.{Happened}
use Rattle.law_scans_miss_none.specs.Histories.{has_left_all, left_behind, of_end, IdealGuest, CanOpen}
use Rattle.law_scans_miss_none.specs.Core.{is_vcpu, CoreState, opening, seat_at, stands_for, CanStep, is_poll, end_of_moments, event_moments, ideal_of, Act, begins, makes, ends, CoreMoment, Progress, is_paid, opening_progress, progress_in, IsProperEnd, IsProperRun, ends_refill, gives_back, is_empty}
use Rattle.law_scans_miss_none.specs.Excuse.{followed_in}
use Rattle.law_scans_miss_none.specs.LawRegistersStand.Followed.{Followed, follows}
use Rattle.law_scans_miss_none.proofs.Frame.{follow, progress_is}
use Rattle.law_scans_miss_none.proofs.RunFrame.{IsNextOf, followed_more, runs_on}
use Rattle.law_late_ones_leave.specs.Late.{AccessesComeFirst, DeactivationsAreFresh, has_scanned, is_access_first}
use Rattle.law_late_ones_leave.proofs.HistoryLemmas.{Next, clause_from, history_both, history_more}
use Rattle.law_late_ones_leave.proofs.LateRuns.{late_ones_leave}
use Rattle.law_late_ones_leave.proofs.LeavingLemmas.{left_by, leaving_event, none_left}
use Rattle.law_late_ones_leave.proofs.StayLemmas.{access_so}

module _ (guest : IdealGuest) (number : ℕ) (good : CanOpen guest) where
  abbrev shape : GuestShape
  shape = guest.shape

  abbrev StateOf : List CoreMoment → CoreState
  StateOf moments = end_of_moments guest.shape (opening guest number) moments

  -- what is to leave is to leave a vCPU's interface
  abbrev OfVcpu : ℕ × Key → Type 0
  OfVcpu pair = pair.0 < guest.shape.vcpus

  abbrev OfVcpus : List CoreMoment → Type 0
  OfVcpus moments = All OfVcpu (followed_in guest number moments).track.leaving

  vcpus_more : (early : List CoreMoment) (actor : ℕ) (act : Act) → IsNextOf guest number early actor act → OfVcpus early → OfVcpus (early ++ record { actor = actor; act = act } ∷ [])
  vcpus_more early actor act next kept = subst (λ (f : Followed). All OfVcpu f.track.leaving) (sym (followed_more guest number early (record { actor = actor; act = act }))) (of act next)
    where
      of : (act : Act) → IsNextOf guest number early actor act → All OfVcpu (follow guest.shape (StateOf early) (followed_in guest number early) (record { actor = actor; act = act })).track.leaving
      of (begins operation lrs) next = kept
      of (ends answer) next = kept
      of (makes made) next = by_event (stands_for guest.shape actor (seat_at (StateOf early) actor).local (seat_at (StateOf early) actor).own made.step made.found) refl
        where
          by_event : (o : Option Happened) → stands_for guest.shape actor (seat_at (StateOf early) actor).local (seat_at (StateOf early) actor).own made.step made.found ≡ o → All OfVcpu (fold follows (followed_in guest number early) (event_moments actor o)).track.leaving
          by_event None e = kept
          by_event (Some one) e =
              leaving_event OfVcpu OfVcpu (followed_in guest number early).ideal actor one.found (followed_in guest number early).track one.event (λ pair h stays. h)
              (elim (access_so guest.shape actor (seat_at (StateOf early) actor).local (seat_at (StateOf early) actor).own made.step made.found one e) [
                | inl quiet ↦ subst (All OfVcpu) (sym (none_left (followed_in guest number early).ideal (followed_in guest number early).track one.event quiet)) (All-nil OfVcpu)
                | inr access ↦
                    subst (λ ev. All OfVcpu (left_behind (followed_in guest number early).ideal (followed_in guest number early).track ev)) (sym access.event_is)
                    (left_by OfVcpu (followed_in guest number early).ideal (followed_in guest number early).track actor access.reg access.write
                    (λ key left.
                    let can = and_parts (is_vcpu guest.shape actor) (is_poll (Some access.reg) access.write) (subst (CanStep guest.shape actor) access.step_is next.acts.run.0.can) in ltb-true actor guest.shape.vcpus can.0))
              ]) kept

  vcpus_so : (moments : List CoreMoment) → IsProperRun guest number moments → OfVcpus moments
  vcpus_so = runs_on guest number good OfVcpus vcpus_more (All-nil OfVcpu)

  -- so nothing is to leave the interface of another actor
  none_of : (actor : ℕ) (leaving : List (ℕ × Key)) → nat_lt actor guest.shape.vcpus ≡ false → All OfVcpu leaving → IsTrue (not (list_any (λ (pair : ℕ × Key). pair.0 == actor) leaving))
  none_of actor [] device all = refl
  none_of actor (pair ∷ leaving) device all = of (pair.0 == actor) refl (none_of actor leaving device (All-tail OfVcpu pair leaving all))
    where
      of : (b : Bool) → (pair.0 == actor) ≡ b → IsTrue (not (list_any (λ (pair : ℕ × Key). pair.0 == actor) leaving)) → IsTrue (not (b || list_any (λ (pair : ℕ × Key). pair.0 == actor) leaving))
      of true e rest = absurd (true≢false (sym (lt-ltb actor guest.shape.vcpus (subst (λ n. n < guest.shape.vcpus) (eqb-true pair.0 actor e) (All-head OfVcpu pair leaving all))) ∙ device))
      of false e rest = rest

  -- a part ends with nothing at the interface, or while no scan is owed
  ended_so : (p : Progress) → IsTrue (ends_refill p) → IsTrue (has_scanned p)
  ended_so p h = of (is_empty p.local.at) (is_paid p.debt) (not (gives_back p.local.phase)) h
    where
      of : (a b c : Bool) → (a || (b && c)) ≡ true → (a || b) ≡ true
      of true b c h = refl
      of false true c h = refl
      of false false c h = absurd (true≢false (sym h))

  one_more : (early : List CoreMoment) (actor : ℕ) (act : Act) → IsNextOf guest number early actor act → (AccessesComeFirst guest number early → IsTrue (clause_from of_end (followed_in guest number []) (ideal_of guest.shape (opening guest number) early)))
      → AccessesComeFirst guest number (early ++ record { actor = actor; act = act } ∷ []) → IsTrue (clause_from of_end (followed_in guest number []) (ideal_of guest.shape (opening guest number) (early ++ record { actor = actor; act = act } ∷ [])))
  one_more early actor act next kept first = history_both of_end guest number early actor act (kept before) (of act next)
    where
      before : AccessesComeFirst guest number early
      before = (history_more is_access_first guest number early actor act first).0

      left : (answer : Option ℕ) → IsNextOf guest number early actor (ends answer) → (b : Bool) → nat_lt actor guest.shape.vcpus ≡ b → IsTrue (has_left_all (followed_in guest number early).track actor)
      left answer next false e = none_of actor (followed_in guest number early).track.leaving e (vcpus_so early next.before)
      left answer next true e =
          let ended : IsProperEnd (progress_in guest number early actor) = subst IsProperEnd (progress_is guest.shape early (opening_progress guest number) actor) next.acts.proper in
          late_ones_leave guest number early actor good next.before (ltb-true actor guest.shape.vcpus e) before (ended_so (progress_in guest number early actor) ended.refill)

      whole : (b : Bool) → IsTrue b → IsTrue (b && true)
      whole true h = refl
      whole false h = h

      by_event : (o : Option Happened) → IsTrue (clause_from of_end (followed_in guest number early) (event_moments actor o))
      by_event None = refl
      by_event (Some one) = refl

      of : (act : Act) → IsNextOf guest number early actor act → Next of_end guest number early actor act
      of (begins operation lrs) next = refl
      of (makes made) next = by_event (stands_for guest.shape actor (seat_at (StateOf early) actor).local (seat_at (StateOf early) actor).own made.step made.found)
      of (ends answer) next = whole (has_left_all (followed_in guest number early).track actor) (left answer next (nat_lt actor guest.shape.vcpus) refl)

pub deactivations_are_fresh : DeactivationsAreFresh
deactivations_are_fresh guest number moments good proper first =
    runs_on guest number good (λ moments. AccessesComeFirst guest number moments → IsTrue (clause_from of_end (followed_in guest number []) (ideal_of guest.shape (opening guest number) moments))) (one_more guest number good) (λ first. refl) moments proper first
