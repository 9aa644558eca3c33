-- What an actor wants it touches further on in the run, before its call or command is over.
use Rattle.std.proofs.Common.{◌≡◌, ℕ, ◌<◌, ◌==◌, ◌&&◌, ◌||◌, inl, inr, not, true≢false, Bool, true, false, IsTrue, List, [], ◌∷◌, ◌++◌, Option, Some, None, is_some, if◌then◌else◌, refl, sym, ap, ◌∙◌, subst}
use Rattle.std.proofs.lemmas.Bool.{and_parts, and_from, cases_eq, eq-eqb, ne_eqb}
use Rattle.std.proofs.lemmas.List.{append-nil, append_assoc}
use Rattle.law_serial_is_eager.specs.Words.{Key, GuestShape, is_same_key}
use Rattle.law_serial_is_eager.proofs.GicBase.KeyLemmas.{same_itself}
use Rattle.law_serial_is_eager.specs.Calls.{Moment, Happens, Happened}
use Rattle.law_serial_is_eager.specs.Core.{Local, Made, CoreStep, Touch, actor_count, succeeds, CoreState, Seat, opening, seat_at, event_done, stands_for, after_moment, end_of_moments, event_moments, ideal_moments, ideal_of, Act, begins, makes, ends, CoreMoment, has_registers, Progress, opening_progress, progress_in, IsProperEnd, IsProperRun, has_key}
use Rattle.law_serial_is_eager.specs.CoreProper.Progress.{changed_by}
use Rattle.law_serial_is_eager.proofs.CoreProper.ScanLemmas.{wants_on}
use Rattle.law_serial_is_eager.specs.LawCoreIsHistory.Whole.{AreEnded}
use Rattle.law_serial_is_eager.proofs.LawScansMissNone.Frame.{progress_is}
use Rattle.law_serial_is_eager.proofs.LawScansMissNone.RunFrame.{IsNextOf, end_more, progress_more, progress_still, proper_before}
use Rattle.law_serial_is_eager.proofs.LawScansMissNone.ScanSteps.{with_made}
use Rattle.law_serial_is_eager.proofs.LawScansMissNone.WantSteps.{as_touch, is_touch_of, wants_kept}
use Rattle.law_serial_is_eager.proofs.LawLateOnesLeave.PollLemmas.{proper_so, seat_so}
use Rattle.law_serial_is_eager.proofs.AloneRuns.{next_at, none_wanted}
use Rattle.law_serial_is_eager.specs.Histories.{ends_turn, is_event_of, is_to_come, IdealGuest, CanOpen}
use Rattle.law_runs_are_fresh.proofs.OwnLemmas.{ended_none, own_wants}
use Rattle.law_runs_are_fresh.proofs.TurnLemmas.{unwanting}

-- One moment.

-- what another actor does leaves it to come
pub other_comes : (shape : GuestShape) (seat : Seat) (other actor : ℕ) (key : Key) (act : Act) (rest : List Moment) → (other ≡ actor → ⊥) → IsTrue (is_to_come actor key rest) → IsTrue (is_to_come actor key (ideal_moments shape seat other act ++ rest))
other_comes shape seat other actor key (begins operation lrs) rest differ h = and_from (not (other == actor)) (is_to_come actor key rest) (ap not (ne_eqb other actor differ)) h
other_comes shape seat other actor key (ends answer) rest differ h = and_from (not (other == actor)) (is_to_come actor key rest) (ap not (ne_eqb other actor differ)) h
other_comes shape seat other actor key (makes made) rest differ h = of (stands_for shape other seat.local seat.own made.step made.found)
  where
    of : (o : Option Happened) → IsTrue (is_to_come actor key (event_moments other o ++ rest))
    of None = h
    of (Some one) = subst (λ b. IsTrue (if b then is_event_of key one.event || (not (ends_turn one.event) && is_to_come actor key rest) else is_to_come actor key rest)) (sym (ne_eqb other actor differ)) h

-- an event of it, or one with which the call or command goes on until then
own_comes : (actor : ℕ) (key : Key) (one : Happened) (rest : List Moment) → IsTrue (is_event_of key one.event || (not (ends_turn one.event) && is_to_come actor key rest)) → IsTrue (is_to_come actor key (Happens actor one.event one.found ∷ rest))
own_comes actor key one rest h = subst (λ b. IsTrue (if b then is_event_of key one.event || (not (ends_turn one.event) && is_to_come actor key rest) else is_to_come actor key rest)) (sym (eq-eqb actor actor refl)) h

-- a touch that is made is an event of it
touch_comes : (shape : GuestShape) (actor : ℕ) (local : Local) (own : List Made) (step : CoreStep) (found : ℕ) (key : Key) (rest : List Moment) → IsTrue (is_touch_of key step) → succeeds shape actor local step found ≡ true
    → IsTrue (is_to_come actor key (event_moments actor (stands_for shape actor local own step found) ++ rest))
touch_comes shape actor local own step found key rest touches done =
    let touch = as_touch key step touches in
    let now : succeeds shape actor local (Touch key touch.seen touch.kind) found ≡ true = sym (ap (λ s. succeeds shape actor local s found) touch.is) ∙ done in
    subst (λ s. IsTrue (is_to_come actor key (event_moments actor (stands_for shape actor local own s found) ++ rest))) (sym touch.is)
    (subst (λ b. IsTrue (is_to_come actor key (event_moments actor (if b then event_done shape actor local own (Touch key touch.seen touch.kind) found else None) ++ rest))) (sym now)
    (subst (λ b. IsTrue (if b then is_same_key key key || is_to_come actor key rest else is_to_come actor key rest)) (sym (eq-eqb actor actor refl)) (ap (λ b. b || is_to_come actor key rest) (same_itself key))))

-- Along a run.

module _ (guest : IdealGuest) (number : ℕ) (good : CanOpen guest) (actor : ℕ) (there : actor < actor_count guest.shape) (key : Key) where
  abbrev shape : GuestShape
  shape = guest.shape

  abbrev StateOf : List CoreMoment → CoreState
  StateOf moments = end_of_moments guest.shape (opening guest number) moments

  abbrev Wants : List CoreMoment → Type 0
  Wants moments = IsTrue (has_key key (progress_in guest number moments actor).wants)

  -- who wants nothing does not want it
  never : (moments : List CoreMoment) → Wants moments → (progress_in guest number moments actor).wants ≡ [] → ⊥
  never moments wants none = true≢false (sym wants ∙ ap (has_key key) none)

  out_of : {X : Type 0} (o : Option X) → IsTrue (not (is_some o)) → o ≡ None
  out_of None h = refl
  out_of (Some x) h = absurd (true≢false (sym h))

  -- a step of its own
  made_comes : (early : List CoreMoment) (made : Made) → IsNextOf guest number early actor (makes made) → Wants early → (rest : List Moment) → (Wants (early ++ record { actor = actor; act = makes made } ∷ []) → IsTrue (is_to_come actor key rest))
      → IsTrue (is_to_come actor key (event_moments actor (stands_for shape actor (seat_at (StateOf early) actor).local (seat_at (StateOf early) actor).own made.step made.found) ++ rest))
  made_comes early made next wants rest later = by (is_touch_of key made.step) refl (succeeds shape actor local made.step made.found) refl
    where
      p : Progress
      p = progress_in guest number early actor

      local : Local
      local = (seat_at (StateOf early) actor).local

      own : List Made
      own = (seat_at (StateOf early) actor).own

      same : succeeds shape actor (progress_in guest number early actor).local made.step made.found ≡ succeeds shape actor (seat_at (StateOf early) actor).local made.step made.found
      same = ap (λ l. succeeds shape actor l made.step made.found) (seat_so guest number actor good early made next).local

      kept : (IsTrue (is_touch_of key made.step) → succeeds shape actor (seat_at (StateOf early) actor).local made.step made.found ≡ false) → Wants (early ++ record { actor = actor; act = makes made } ∷ [])
      kept still =
          subst (λ keys. IsTrue (has_key key keys))
          (sym
          (ap (λ (q : Progress). q.wants) (progress_more guest number early actor (makes made))
          ∙ wants_on shape actor (with_made shape actor made (progress_in guest number early actor) (changed_by shape actor made.step made.found (succeeds shape actor (progress_in guest number early actor).local made.step made.found) (progress_in guest number early actor)))))
          (wants_kept shape actor made.step made.found (succeeds shape actor (progress_in guest number early actor).local made.step made.found) (progress_in guest number early actor) key (λ touches. same ∙ still touches) wants)

      goes_on : (o : Option Happened) → stands_for shape actor (seat_at (StateOf early) actor).local (seat_at (StateOf early) actor).own made.step made.found ≡ o → IsTrue (is_to_come actor key rest) → IsTrue (is_to_come actor key (event_moments actor o ++ rest))
      goes_on None e h = h
      goes_on (Some one) e h = own_comes actor key one rest (of (is_event_of key one.event) (ends_turn one.event) refl)
        where
          of : (b c : Bool) → ends_turn one.event ≡ c → IsTrue (b || (not c && is_to_come actor key rest))
          of true c f = refl
          of false false f = h
          of false true f =
              absurd (never early wants (unwanting shape actor (seat_at (StateOf early) actor).local (seat_at (StateOf early) actor).own made.step made.found one (progress_in guest number early actor) e f (proper_so guest number actor good early made next).want))

      by : (b : Bool) → is_touch_of key made.step ≡ b → (c : Bool) → succeeds shape actor (seat_at (StateOf early) actor).local made.step made.found ≡ c
          → IsTrue (is_to_come actor key (event_moments actor (stands_for shape actor (seat_at (StateOf early) actor).local (seat_at (StateOf early) actor).own made.step made.found) ++ rest))
      by true e true f = touch_comes shape actor (seat_at (StateOf early) actor).local (seat_at (StateOf early) actor).own made.step made.found key rest e f
      by b e false f = goes_on (stands_for shape actor (seat_at (StateOf early) actor).local (seat_at (StateOf early) actor).own made.step made.found) refl (later (kept (λ touches. f)))
      by false e c f = goes_on (stands_for shape actor (seat_at (StateOf early) actor).local (seat_at (StateOf early) actor).own made.step made.found) refl (later (kept (λ touches. absurd (true≢false (sym touches ∙ e)))))

  own_moment : (early : List CoreMoment) (act : Act) → IsNextOf guest number early actor act → Wants early → (rest : List Moment) → (Wants (early ++ record { actor = actor; act = act } ∷ []) → IsTrue (is_to_come actor key rest))
      → IsTrue (is_to_come actor key (ideal_moments shape (seat_at (StateOf early) actor) actor act ++ rest))
  own_moment early (begins operation lrs) next wants rest later =
      let fit = subst (λ (q : Progress). IsTrue (not (is_some q.operation) && has_registers shape actor lrs)) (progress_is shape early (opening_progress guest number) actor) next.acts.fit in
      absurd (never early wants ((own_wants guest number early next.before actor there).out (out_of (progress_in guest number early actor).operation (and_parts (not (is_some (progress_in guest number early actor).operation)) (has_registers shape actor lrs) fit).0)))
  own_moment early (makes made) next wants rest later = made_comes early made next wants rest later
  own_moment early (ends answer) next wants rest later =
      let end : IsProperEnd (progress_in guest number early actor) = subst IsProperEnd (progress_is shape early (opening_progress guest number) actor) next.acts.proper in
      absurd (never early wants (none_wanted (progress_in guest number early actor).wants end.want))

  one_moment : (early : List CoreMoment) (other : ℕ) (act : Act) → IsNextOf guest number early other act → Wants early → (rest : List Moment) → (Wants (early ++ record { actor = other; act = act } ∷ []) → IsTrue (is_to_come actor key rest))
      → IsTrue (is_to_come actor key (ideal_moments shape (seat_at (StateOf early) other) other act ++ rest))
  one_moment early other act next wants rest later = elim (cases_eq other actor) [
    | inl e ↦
        subst (λ n. IsNextOf guest number early n act → (Wants (early ++ record { actor = n; act = act } ∷ []) → IsTrue (is_to_come actor key rest)) → IsTrue (is_to_come actor key (ideal_moments shape (seat_at (StateOf early) n) n act ++ rest))) (sym e)
        (λ next later. own_moment early act next wants rest later) next later
    | inr differ ↦
        other_comes shape (seat_at (StateOf early) other) other actor key act rest differ
        (later (subst (λ (q : Progress). IsTrue (has_key key q.wants)) (sym (progress_still guest number early other actor act (λ e. differ (sym e)))) wants))
  ]

  -- where all parts end
  pub coming : (late early : List CoreMoment) → IsProperRun guest number (early ++ late) → AreEnded guest.shape (early ++ late) → Wants early → IsTrue (is_to_come actor key (ideal_of guest.shape (end_of_moments guest.shape (opening guest number) early) late))
  coming [] early proper ended wants =
      let none = ended_none guest number early actor there (subst (AreEnded shape) (append-nil early) ended) in
      absurd (never early wants ((own_wants guest number early (subst (IsProperRun guest number) (append-nil early) proper) actor there).out none))
  coming (moment ∷ late) early proper ended wants =
      let all = sym (append_assoc early (moment ∷ []) late) in
      let whole = subst (IsProperRun guest number) all proper in
      let next = next_at guest number good early moment.actor moment.act (proper_before guest number (early ++ moment ∷ []) late whole) in
      one_moment early moment.actor moment.act next wants (ideal_of shape (after_moment shape (StateOf early) moment) late)
      (λ now. subst (λ s. IsTrue (is_to_come actor key (ideal_of shape s late))) (end_more shape (opening guest number) early moment) (coming late (early ++ moment ∷ []) whole (subst (AreEnded shape) all ended) now))
