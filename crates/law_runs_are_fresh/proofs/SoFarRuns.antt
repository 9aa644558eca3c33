-- Every run in which accesses come first is fresh so far.
use Rattle.std.proofs.Common.{◌≡◌, ℕ, ◌<◌, ◌&&◌, inl, inr, Bool, true, false, IsTrue, List, [], ◌∷◌, ◌++◌, Option, Some, None, refl, sym, subst}
use Rattle.std.proofs.lemmas.Bool.{and_parts}
use Rattle.std.proofs.lemmas.List.{append_assoc}
use Rattle.law_serial_is_eager.specs.Words.{IccReg, Key, has_interrupt}
use Rattle.law_serial_is_eager.specs.Calls.{Event, Cpu, Happens, Happened}
use Rattle.law_serial_is_eager.specs.Histories.{Ideal, Track, comes_first, is_fresh_at_end, is_fresh_at_interface, is_kept, of_event, IdealGuest, CanOpen}
use Rattle.law_serial_is_eager.specs.Core.{Made, Poll, vcpu_of, opening, seat_at, stands_for, end_of_moments, event_moments, ideal_of, Act, begins, makes, ends, CoreMoment, progress_in, IsProperRun}
use Rattle.law_serial_is_eager.specs.LawRegistersStand.Followed.{Followed}
use Rattle.law_serial_is_eager.specs.LawScansMissNone.Excuse.{IsExcused, followed_in}
use Rattle.law_serial_is_eager.specs.LawScansMissNone.Index.{owes_kick}
use Rattle.law_serial_is_eager.specs.LawScansMissNone.Waiting.{record_in}
use Rattle.law_serial_is_eager.specs.LawScansMissNone.Wants.{IsWantedBy}
use Rattle.law_serial_is_eager.proofs.LawScansMissNone.RunFrame.{IsNextOf, proper_before, runs_on}
use Rattle.law_serial_is_eager.proofs.LawScansMissNone.WantRuns.{wants_are_kept}
use Rattle.law_serial_is_eager.specs.LawLateOnesLeave.Late.{AccessesComeFirst, is_access_first, has_done_none}
use Rattle.law_serial_is_eager.proofs.LawLateOnesLeave.EndRuns.{deactivations_are_fresh}
use Rattle.law_serial_is_eager.proofs.LawLateOnesLeave.HistoryLemmas.{Next, clause_from, history_both, history_more}
use Rattle.law_serial_is_eager.proofs.LawLateOnesLeave.LeavingLemmas.{is_access}
use Rattle.law_serial_is_eager.proofs.LawLateOnesLeave.StayLemmas.{access_so}
use Rattle.law_serial_is_eager.proofs.LawLoneAccessesFindAll.AskLemmas.{none_first}
use Rattle.law_serial_is_eager.specs.Histories.{doing_of}
use Rattle.law_serial_is_eager.proofs.AloneRuns.{next_at}
use Rattle.law_serial_is_eager.proofs.ReadyRuns.{may_ask}
use Rattle.law_runs_are_fresh.specs.First.{Asks}
use Rattle.law_runs_are_fresh.specs.SoFar.{FreshSoFar}
use Rattle.law_runs_are_fresh.proofs.AccessLemmas.{is_of_vcpu, owes_itself_none}
use Rattle.law_runs_are_fresh.proofs.AskRuns.{end_fresh, interface_fresh}
use Rattle.law_runs_are_fresh.proofs.FreshRuns.{quiet_fresh}

-- A clause of each access, in a run in which accesses come first.

module _ (guest : IdealGuest) (number : ℕ) (good : CanOpen guest) (clause : Ideal → Track → Event → Bool) (quiet : (at : Followed) (event : Event) → is_access event ≡ false → IsTrue (clause at.ideal at.track event))
    (access :
    (early : List CoreMoment) (actor : ℕ) (made : Made) (reg : IccReg) (write : Option ℕ) → IsNextOf guest number early actor (makes made) → made.step ≡ Poll (Some reg) write → (vcpu_of made.found).kick ≡ false
    → (IsTrue (owes_kick actor (seat_at (end_of_moments guest.shape (opening guest number) early) actor).local) → ⊥) → IsTrue (clause (followed_in guest number early).ideal (followed_in guest number early).track (Cpu actor reg write))) where
  abbrev KeptSo : List CoreMoment → Type 0
  KeptSo moments = AccessesComeFirst guest number moments → IsTrue (is_kept (of_event clause) guest (ideal_of guest.shape (opening guest number) moments))

  one_more : (early : List CoreMoment) (actor : ℕ) (act : Act) → IsNextOf guest number early actor act → KeptSo early → KeptSo (early ++ record { actor = actor; act = act } ∷ [])
  one_more early actor act next kept first = history_both (of_event clause) guest number early actor act (kept both.0) (of act next both.1)
    where
      at : Followed
      at = followed_in guest number early

      both : AccessesComeFirst guest number early × Next is_access_first guest number early actor act
      both = history_more is_access_first guest number early actor act first

      alone : (b : Bool) → IsTrue b → IsTrue (b && true)
      alone true h = refl
      alone false h = h

      of : (act : Act) → IsNextOf guest number early actor act → Next is_access_first guest number early actor act → Next (of_event clause) guest number early actor act
      of (begins operation lrs) next now = refl
      of (ends answer) next now = refl
      of (makes made) next now = by_event (stands_for guest.shape actor (seat_at (end_of_moments guest.shape (opening guest number) early) actor).local (seat_at (end_of_moments guest.shape (opening guest number) early) actor).own made.step made.found) refl now
        where
          at_access : (reg : IccReg) (write : Option ℕ) → made.step ≡ Poll (Some reg) write → (vcpu_of made.found).kick ≡ false → IsTrue (has_done_none (doing_of at.track actor).done) → IsTrue (clause at.ideal at.track (Cpu actor reg write))
          at_access reg write step_is unkicked none =
              access early actor made reg write next step_is unkicked
              (owes_itself_none guest number good early actor made next (is_of_vcpu guest number early actor made next reg write step_is) both.0 none)

          by_event :
              (o : Option Happened) → stands_for guest.shape actor (seat_at (end_of_moments guest.shape (opening guest number) early) actor).local (seat_at (end_of_moments guest.shape (opening guest number) early) actor).own made.step made.found ≡ o
              → IsTrue (clause_from is_access_first at (event_moments actor o)) → IsTrue (clause_from (of_event clause) at (event_moments actor o))
          by_event None e now = refl
          by_event (Some one) e now =
              alone (clause at.ideal at.track one.event)
              (elim (access_so guest.shape actor (seat_at (end_of_moments guest.shape (opening guest number) early) actor).local (seat_at (end_of_moments guest.shape (opening guest number) early) actor).own made.step made.found one e) [
                | inl still ↦ quiet at one.event still
                | inr polls ↦
                    subst (λ ev. IsTrue (clause at.ideal at.track ev)) (sym polls.event_is)
                    (at_access polls.reg polls.write polls.step_is polls.unkicked
                    (and_parts (has_done_none (doing_of at.track actor).done) true (subst (λ ev. IsTrue (is_access_first at.ideal at.track (Happens actor ev one.found) && true)) polls.event_is now)).0)
              ])

  kept_so : (moments : List CoreMoment) → IsProperRun guest number moments → KeptSo moments
  kept_so = runs_on guest number good KeptSo one_more (λ first. refl)

-- The first interrupt.

acknowledged_so :
    (guest : IdealGuest) (number : ℕ) → CanOpen guest → (early late : List CoreMoment) (vcpu : ℕ) (made : Made) (key : Key) → IsProperRun guest number (early ++ (record { actor = vcpu; act = makes made }) ∷ late) → Asks guest vcpu made → IsTrue (has_interrupt guest.shape key)
    → (IsExcused guest.shape (end_of_moments guest.shape (opening guest number) early) (followed_in guest number early).track vcpu key → ⊥) → (IsWantedBy guest.shape (progress_in guest number early) key → ⊥)
    → comes_first (followed_in guest number early).ideal vcpu key ≡ false
acknowledged_so guest number good early late vcpu made key proper asks there told unwanted = of (record_in guest.shape (end_of_moments guest.shape (opening guest number) early) key).want refl
  where
    one : CoreMoment
    one = record { actor = vcpu; act = makes made }

    next : IsNextOf guest number early vcpu (makes made)
    next = next_at guest number good early vcpu (makes made) (proper_before guest number (early ++ one ∷ []) late (subst (IsProperRun guest number) (sym (append_assoc early (one ∷ []) late)) proper))

    of : (want : Bool) → (record_in guest.shape (end_of_moments guest.shape (opening guest number) early) key).want ≡ want → comes_first (followed_in guest number early).ideal vcpu key ≡ false
    of true w = absurd (unwanted (wants_are_kept guest number early good next.before.parted key there w))
    of false w = none_first guest number early vcpu good next.before asks.few (may_ask guest number early vcpu made asks.reg None good next asks.step_is asks.unkicked asks.asks) key there told w

pub fresh_so_far : FreshSoFar
fresh_so_far guest number moments good proper first = record {
  acknowledge = λ early late vcpu made key is. acknowledged_so guest number good early late vcpu made key (subst (IsProperRun guest number) is proper);
  interface =
      kept_so guest number good is_fresh_at_interface (λ at event still. (quiet_fresh [] at event still).interface)
      (λ early actor made reg write next step_is unkicked free. interface_fresh guest number early actor made reg write good next step_is unkicked free) moments proper first;
  end =
      kept_so guest number good is_fresh_at_end (λ at event still. (quiet_fresh [] at event still).end)
      (λ early actor made reg write next step_is unkicked free. end_fresh guest number early actor made reg write good next step_is unkicked free) moments proper first;
  deactivation = deactivations_are_fresh guest number moments good proper first;
}
