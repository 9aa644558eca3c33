-- Late interrupts leave their vCPU's interface in time, at every moment of every proper run in which accesses come first.
use Rattle.std.proofs.Common.{◌≡◌, ◌≢◌, ℕ, ◌+◌, ◌<◌, ◌==◌, ◌&&◌, ◌||◌, ◌⊎◌, inl, inr, true≢false, not, Bool, true, false, IsTrue, All, List, [], ◌∷◌, ◌++◌, length, fold, Option, Some, None, refl, sym, ap, ◌∙◌, subst}
use Rattle.std.specs.List.{list_any}
use Rattle.std.proofs.lemmas.Bool.{and_parts, cases_eq, eqb-true}
use Rattle.std.proofs.lemmas.List.Elements.{All-nil, All-head, All-tail, All-weaker}
use Rattle.law_scans_miss_none.specs.Words.{Key, GuestShape}
use Rattle.law_scans_miss_none.specs.Calls.{Happens, Happened}
use Rattle.law_scans_miss_none.specs.Histories.{Doing, doing_of, left_behind, with_doing, after_doing, IdealGuest, CanOpen}
use Rattle.law_scans_miss_none.specs.Core.{AtIrq, Local, Made, Poll, local_after, Meets, succeeds, is_at, CoreState, opening, seat_at, end_of_moments, event_moments, ideal_moments, IsSeatOf, Act, begins, makes, ends, CoreMoment, Progress, is_paid, opening_progress, progressed, progress_in, stepped, IsProperRun, is_empty}
use Rattle.law_scans_miss_none.specs.LawCoreIsHistory.Simulates.{IsSimulatedAs}
use Rattle.law_scans_miss_none.proofs.LawCoreIsHistory.AfterLemmas.{later}
use Rattle.law_scans_miss_none.proofs.LawCoreIsHistory.StepContext.{IsStep}
use Rattle.law_scans_miss_none.proofs.LawRegistersStand.StandRuns.{paid_begun, paid_ended}
use Rattle.law_scans_miss_none.specs.Excuse.{followed_in}
use Rattle.law_scans_miss_none.specs.LawRegistersStand.Followed.{Followed, follows}
use Rattle.law_scans_miss_none.specs.Index.{owes_kick}
use Rattle.law_scans_miss_none.proofs.Frame.{ends_command, event, follow, is_part, is_step, owing_goes_on, part_settled, progress_is, progress_on, settled_owes, simulated}
use Rattle.law_scans_miss_none.proofs.ProgressLemmas.{local_on}
use Rattle.law_scans_miss_none.proofs.RunFrame.{IsNextOf, followed_more, progress_more, progress_still, runs_on}
use Rattle.law_scans_miss_none.proofs.TrackLemmas.{doing_other, happens_here, happens_other, is_queue}
use Rattle.law_late_ones_leave.specs.Late.{AccessesComeFirst, LateOnesLeave, has_done_none, has_scanned, is_access_first}
use Rattle.law_late_ones_leave.proofs.HistoryLemmas.{clause_from, history_more}
use Rattle.law_late_ones_leave.proofs.LateDebts.{debt_now, late_stands, owes_then, seat_now}
use Rattle.law_late_ones_leave.proofs.LeavingLemmas.{done_before, left_by, leaving_event, makes_one, none_before, none_left, stays_in}
use Rattle.law_late_ones_leave.proofs.StayLemmas.{IsAccess, access_so, kick_before, owed_on, stays_at}

-- What is kept.

-- an interrupt that is to leave stands at the interface, and a scan is owed
record IsStaying (p : Progress) (key : Key) : Type 0 where
  pub at : is_at key p.local.at ≡ true
  pub owed : is_paid p.debt ≡ false

abbrev Staying : ℕ → Progress → ℕ × Key → Type 0
Staying vcpu p pair = pair.0 ≡ vcpu → IsStaying p pair.1

-- a vCPU that owes itself a kick has made an event of an interrupt in its call
record Kept (vcpu : ℕ) (at : Followed) (p : Progress) : Type 0 where
  pub told : IsTrue (owes_kick vcpu p.local) → IsTrue (has_done_none (doing_of at.track vcpu).done) → ⊥
  pub late : All (Staying vcpu p) at.track.leaving

unpaid : (before after : Bool) → (IsTrue after → IsTrue before) → before ≡ false → after ≡ false
unpaid before true paid e = absurd (true≢false (sym (paid refl) ∙ e))
unpaid before false paid e = refl

module _ (guest : IdealGuest) (number vcpu : ℕ) (good : CanOpen guest) (within : vcpu < guest.shape.vcpus) where
  abbrev shape : GuestShape
  shape = guest.shape

  abbrev StateOf : List CoreMoment → CoreState
  StateOf moments = end_of_moments shape (opening guest number) moments

  abbrev ProgressOf : List CoreMoment → ℕ → Progress
  ProgressOf moments = progress_on shape (opening_progress guest number) moments

  abbrev NowFirst : List CoreMoment → ℕ → Act → Type 0
  NowFirst early actor act = IsTrue (clause_from is_access_first (followed_in guest number early) (ideal_moments shape (seat_at (StateOf early) actor) actor act))

  -- a step of another actor
  others : (early : List CoreMoment) (actor : ℕ) (made : Made) → actor ≢ vcpu → (next : IsNextOf guest number early actor (makes made)) → (p : Progress) → Kept vcpu (followed_in guest number early) p
      → Kept vcpu (follow shape (StateOf early) (followed_in guest number early) (record { actor = actor; act = makes made })) p
  others early actor made apart next p kept = of what refl sim
    where
      at : Followed
      at = followed_in guest number early

      what : Option Happened
      what = event shape good.sound.shape (StateOf early) (followed_in guest number early) (ProgressOf early) actor made next.at next.acts

      sim : IsSimulatedAs guest.shape (later (is_step shape good.sound.shape (StateOf early) (followed_in guest number early) (ProgressOf early) actor made next.at next.acts)) (followed_in guest number early).ideal actor
          (event shape good.sound.shape (StateOf early) (followed_in guest number early) (ProgressOf early) actor made next.at next.acts)
      sim = simulated shape good.sound.shape (StateOf early) (followed_in guest number early) (ProgressOf early) actor made next.at next.acts

      new : (one : Happened) → event shape good.sound.shape (StateOf early) (followed_in guest number early) (ProgressOf early) actor made next.at next.acts ≡ Some one → All (Staying vcpu p) (left_behind (followed_in guest number early).ideal (followed_in guest number early).track one.event)
      new one e = elim (access_so shape actor (seat_at (StateOf early) actor).local (seat_at (StateOf early) actor).own made.step made.found one e) [
        | inl quiet ↦ subst (All (Staying vcpu p)) (sym (none_left (followed_in guest number early).ideal (followed_in guest number early).track one.event quiet)) (All-nil (Staying vcpu p))
        | inr access ↦
            subst (λ ev. All (Staying vcpu p) (left_behind (followed_in guest number early).ideal (followed_in guest number early).track ev)) (sym access.event_is)
            (left_by (Staying vcpu p) (followed_in guest number early).ideal (followed_in guest number early).track actor access.reg access.write (λ key left same. absurd (apart same)))
      ]

      of : (o : Option Happened) → event shape good.sound.shape (StateOf early) (followed_in guest number early) (ProgressOf early) actor made next.at next.acts ≡ o
          → IsSimulatedAs guest.shape (later (is_step shape good.sound.shape (StateOf early) (followed_in guest number early) (ProgressOf early) actor made next.at next.acts)) (followed_in guest number early).ideal actor o
          → Kept vcpu (fold follows (followed_in guest number early) (event_moments actor o)) p
      of None e sim = kept
      of (Some one) e sim = record {
        told = λ owes none. kept.told owes
            (subst (λ (d : Doing). IsTrue (has_done_none d.done))
            (happens_other shape good.sound.shape (followed_in guest number early).ideal actor one.event one.found (followed_in guest number early).track vcpu next.at.related.shape_is sim.can (λ same. apart (sym same))) none);
        late = leaving_event (Staying vcpu p) (Staying vcpu p) (followed_in guest number early).ideal actor one.found (followed_in guest number early).track one.event (λ pair h stays. h) (new one e) kept.late;
      }

  -- the begin or the end of a part, of another actor
  other_part : (early : List CoreMoment) (actor : ℕ) (doing : Doing) (p : Progress) → actor ≢ vcpu → Kept vcpu (followed_in guest number early) p → Kept vcpu (record { ideal = (followed_in guest number early).ideal; track = with_doing actor doing (followed_in guest number early).track }) p
  other_part early actor doing p apart kept = record {
    told = λ owes none. kept.told owes (subst (λ (d : Doing). IsTrue (has_done_none d.done)) (doing_other actor vcpu doing (followed_in guest number early).track (λ same. apart (sym same))) none);
    late = kept.late;
  }

  other : (early : List CoreMoment) (actor : ℕ) (act : Act) → actor ≢ vcpu → IsNextOf guest number early actor act → (p : Progress) → Kept vcpu (followed_in guest number early) p
      → Kept vcpu (follow shape (StateOf early) (followed_in guest number early) (record { actor = actor; act = act })) p
  other early actor (begins operation lrs) apart next p kept = other_part early actor (record { operation = Some operation; number = (doing_of (followed_in guest number early).track actor).number + 1; done = []; fetched = false }) p apart kept
  other early actor (makes made) apart next p kept = others early actor made apart next p kept
  other early actor (ends answer) apart next p kept = other_part early actor (record (doing_of (followed_in guest number early).track actor) { operation = None }) p apart kept

  -- one of its own
  own_part :
      (early : List CoreMoment) (doing : Doing) (p q : Progress) → q.local ≡ p.local → (IsTrue (owes_kick vcpu p.local) → ⊥) → (IsTrue (is_paid q.debt) → IsTrue (is_paid p.debt)) → Kept vcpu (followed_in guest number early) p
      → Kept vcpu (record { ideal = (followed_in guest number early).ideal; track = with_doing vcpu doing (followed_in guest number early).track }) q
  own_part early doing p q local none paid kept = record {
    told = λ owes done. none (subst (λ l. IsTrue (owes_kick vcpu l)) local owes);
    late =
        All-weaker (Staying vcpu p) (Staying vcpu q)
        (λ pair staying mine. record { at = ap (λ (l : Local). is_at pair.1 l.at) local ∙ (staying mine).at; owed = unpaid (is_paid p.debt) (is_paid q.debt) paid (staying mine).owed }) (followed_in guest number early).track.leaving kept.late;
  }

  -- a step of its own
  module _ (early : List CoreMoment) (made : Made) (next : IsNextOf guest number early vcpu (makes made)) (kept : Kept vcpu (followed_in guest number early) (progress_in guest number early vcpu)) (now : NowFirst early vcpu (makes made)) where
    abbrev At : Followed
    At = followed_in guest number early

    abbrev p : Progress
    p = progress_in guest number early vcpu

    abbrev q : Progress
    q = stepped shape vcpu made p

    abbrev is : IsStep shape (StateOf early) At.ideal vcpu made.step made.found made.left made.tables
    is = is_step shape good.sound.shape (StateOf early) At (ProgressOf early) vcpu made next.at next.acts

    abbrev what : Option Happened
    what = event shape good.sound.shape (StateOf early) At (ProgressOf early) vcpu made next.at next.acts

    local_now : q.local ≡ local_after shape vcpu (seat_at (StateOf early) vcpu).local made.step made.found
    local_now = local_on shape vcpu made p ∙ ap (λ l. local_after shape vcpu l made.step made.found) (seat_now guest number vcpu good within early made next).local

    in_doings : vcpu < length At.track.doings
    in_doings = subst (λ n. vcpu < n) (sym next.at.doings_each) next.acts.there

    never : {T : Type 0} → true ≡ false → T
    never e = absurd (true≢false e)

    -- it owes itself a kick
    told_event : (o : Option Happened) → what ≡ o → IsSimulatedAs shape (later is) At.ideal vcpu o → IsTrue (owes_kick vcpu q.local) → IsTrue (has_done_none (doing_of (fold follows At (event_moments vcpu o)).track vcpu).done) → ⊥
    told_event o e sim owes none = by_kick o e sim none (kick_before shape vcpu (seat_at (StateOf early) vcpu).local (seat_at (StateOf early) vcpu).own made.step made.found (subst (λ l. IsTrue (owes_kick vcpu l)) local_now owes))
      where
        before : IsTrue (owes_kick vcpu (seat_at (StateOf early) vcpu).local) → IsTrue (owes_kick vcpu p.local)
        before h = subst (λ l. IsTrue (owes_kick vcpu l)) (sym (seat_now guest number vcpu good within early made next).local) h

        here : (one : Happened) → IsSimulatedAs shape (later is) At.ideal vcpu (Some one) → doing_of (fold follows At (event_moments vcpu (Some one))).track vcpu ≡ after_doing At.ideal vcpu one.event (doing_of At.track vcpu)
        here one sim = happens_here shape good.sound.shape At.ideal vcpu one.event one.found At.track next.at.related.shape_is sim.can in_doings

        by_kick : (o : Option Happened) → what ≡ o → IsSimulatedAs shape (later is) At.ideal vcpu o → IsTrue (has_done_none (doing_of (fold follows At (event_moments vcpu o)).track vcpu).done) → IsTrue (owes_kick vcpu (seat_at (StateOf early) vcpu).local) ⊎ (makes_one what ≡ true) → ⊥
        by_kick None e sim none (inl owes) = kept.told (before owes) none
        by_kick None e sim none (inr one_made) = true≢false (sym one_made ∙ ap makes_one e)
        by_kick (Some one) e sim none (inl owes) =
            let goes : is_queue one.event ≡ false = sym (ap ends_command e) ∙ owing_goes_on shape good.sound.shape (StateOf early) At (ProgressOf early) vcpu made next.at next.acts vcpu vcpu owes refl in
            kept.told (before owes) (none_before At.ideal vcpu one.event (doing_of At.track vcpu) goes (subst (λ (d : Doing). IsTrue (has_done_none d.done)) (here one sim) none))
        by_kick (Some one) e sim none (inr one_made) =
            done_before At.ideal vcpu one.event (doing_of At.track vcpu) (subst (λ (d : Doing). IsTrue (has_done_none d.done)) (here one sim) none) (sym (ap makes_one e) ∙ one_made)

    -- what is to leave stays so
    stays_on : (pair : ℕ × Key) → Staying vcpu p pair → stays_in what pair ≡ true → Staying vcpu q pair
    stays_on pair staying stays mine =
        let before : is_at pair.1 (seat_at (StateOf early) vcpu).local.at ≡ true = ap (λ (l : Local). is_at pair.1 l.at) (sym (seat_now guest number vcpu good within early made next).local) ∙ (staying mine).at in
        record {
          at =
              ap (λ (l : Local). is_at pair.1 l.at) local_now
              ∙ stays_at shape vcpu (seat_at (StateOf early) vcpu).local (seat_at (StateOf early) vcpu).own made.step made.found pair mine before stays;
          owed =
              ap is_paid (debt_now shape vcpu made p)
              ∙ owed_on shape vcpu made.step made.found (succeeds shape vcpu p.local made.step made.found) p (λ write e. empty_there write e (seat_at (StateOf early) vcpu).local.at refl before) (staying mine).owed;
        }
      where
        empty_there : (write : Option ℕ) → made.step ≡ Poll None write → (at : List AtIrq) → at ≡ (seat_at (StateOf early) vcpu).local.at → is_at pair.1 (seat_at (StateOf early) vcpu).local.at ≡ true → ⊥
        empty_there write e at same h =
            let empty : (seat_at (StateOf early) vcpu).local.at ≡ [] = subst (λ s. Meets shape vcpu (seat_at (StateOf early) vcpu).local (seat_at (StateOf early) vcpu).own s) e is.takes.meets in
            true≢false (sym h ∙ ap (is_at pair.1) empty)

    -- an access leaves one behind
    new : (one : Happened) → what ≡ Some one → All (Staying vcpu q) (left_behind At.ideal At.track one.event)
    new one e = elim (access_so shape vcpu (seat_at (StateOf early) vcpu).local (seat_at (StateOf early) vcpu).own made.step made.found one e) [
      | inl quiet ↦ subst (All (Staying vcpu q)) (sym (none_left At.ideal At.track one.event quiet)) (All-nil (Staying vcpu q))
      | inr access ↦
          subst (λ ev. All (Staying vcpu q) (left_behind At.ideal At.track ev)) (sym access.event_is)
          (left_by (Staying vcpu q) At.ideal At.track vcpu access.reg access.write
          (λ key left mine.
          let unowed : IsTrue (owes_kick vcpu p.local) → ⊥ = λ owes. kept.told owes (first_now one e access) in
          let stands = late_stands guest number vcpu good within early made next access.reg access.write access.step_is access.unkicked key left unowed in
          let before : is_at key (seat_at (StateOf early) vcpu).local.at ≡ true = ap (λ (l : Local). is_at key l.at) (sym (seat_now guest number vcpu good within early made next).local) ∙ stands in
          record {
            at =
                ap (λ (l : Local). is_at key l.at) local_now
                ∙ stays_at shape vcpu (seat_at (StateOf early) vcpu).local (seat_at (StateOf early) vcpu).own made.step made.found (vcpu, key) refl before
                (ap (λ o. stays_in o (vcpu, key)) e ∙ ap (λ ev. stays_in (Some (record { event = ev; found = one.found })) (vcpu, key)) access.event_is);
            owed = owes_then guest number vcpu good within early made next access.reg access.write access.step_is access.unkicked key left unowed;
          }))
    ]
      where
        first_now : (one : Happened) → what ≡ Some one → IsAccess vcpu made.step made.found one.event → IsTrue (has_done_none (doing_of At.track vcpu).done)
        first_now one e access =
            let whole : IsTrue (clause_from is_access_first At (event_moments vcpu (Some one))) = subst (λ o. IsTrue (clause_from is_access_first At (event_moments vcpu o))) e now in
            (and_parts (has_done_none (doing_of At.track vcpu).done) true (subst (λ ev. IsTrue (is_access_first At.ideal At.track (Happens vcpu ev one.found) && true)) access.event_is whole)).0

    mine : Kept vcpu (follow shape (StateOf early) At (record { actor = vcpu; act = makes made })) q
    mine = of what refl (simulated shape good.sound.shape (StateOf early) At (ProgressOf early) vcpu made next.at next.acts)
      where
        of : (o : Option Happened) → what ≡ o → IsSimulatedAs shape (later is) At.ideal vcpu o → Kept vcpu (fold follows At (event_moments vcpu o)) q
        of None e sim = record {
          told = told_event None e sim;
          late = All-weaker (Staying vcpu p) (Staying vcpu q) (λ pair h. stays_on pair h (ap (λ o. stays_in o pair) e)) At.track.leaving kept.late;
        }
        of (Some one) e sim = record {
          told = told_event (Some one) e sim;
          late = leaving_event (Staying vcpu p) (Staying vcpu q) At.ideal vcpu one.found At.track one.event (λ pair h stays. stays_on pair h (ap (λ o. stays_in o pair) e ∙ stays)) (new one e) kept.late;
        }

  -- at the begin and at the end of a part it owes no kick
  rests_so : (early : List CoreMoment) (act : Act) → IsNextOf guest number early vcpu act → is_part act ≡ true → IsTrue (owes_kick vcpu (progress_in guest number early vcpu).local) → ⊥
  rests_so early act next e owes =
      let seat = subst (λ r. IsSeatOf r (seat_at (StateOf early) vcpu)) (progress_is shape early (opening_progress guest number) vcpu) (next.at.seats vcpu next.acts.there) in
      settled_owes (seat_at (StateOf early) vcpu).local vcpu (part_settled shape (StateOf early) (followed_in guest number early) (ProgressOf early) vcpu act next.at next.acts e)
      (subst (λ l. IsTrue (owes_kick vcpu l)) seat.local owes)

  own : (early : List CoreMoment) (act : Act) → IsNextOf guest number early vcpu act → Kept vcpu (followed_in guest number early) (progress_in guest number early vcpu) → NowFirst early vcpu act
      → Kept vcpu (follow shape (StateOf early) (followed_in guest number early) (record { actor = vcpu; act = act })) (progressed shape vcpu (progress_in guest number early vcpu) act)
  own early (begins operation lrs) next kept now =
      let p = progress_in guest number early vcpu in
      own_part early (record { operation = Some operation; number = (doing_of (followed_in guest number early).track vcpu).number + 1; done = []; fetched = false }) p (progressed shape vcpu p (begins operation lrs)) refl (rests_so early (begins operation lrs) next refl) (paid_begun operation p.debt) kept
  own early (makes made) next kept now = mine early made next kept now
  own early (ends answer) next kept now =
      let p = progress_in guest number early vcpu in
      own_part early (record (doing_of (followed_in guest number early).track vcpu) { operation = None }) p (progressed shape vcpu p (ends answer)) refl (rests_so early (ends answer) next refl) (paid_ended p.debt) kept

  -- every moment

  abbrev KeptAt : List CoreMoment → Type 0
  KeptAt moments = AccessesComeFirst guest number moments → Kept vcpu (followed_in guest number moments) (progress_in guest number moments vcpu)

  one_more : (early : List CoreMoment) (actor : ℕ) (act : Act) → IsNextOf guest number early actor act → KeptAt early → KeptAt (early ++ record { actor = actor; act = act } ∷ [])
  one_more early actor act next kept first =
      let more = history_more is_access_first guest number early actor act first in
      subst (λ f. Kept vcpu f (progress_in guest number (early ++ record { actor = actor; act = act } ∷ []) vcpu)) (sym (followed_more guest number early (record { actor = actor; act = act })))
      (elim (cases_eq vcpu actor) [
        | inl same ↦ own_now same more
        | inr differ ↦
            subst (Kept vcpu (follow shape (StateOf early) (followed_in guest number early) (record { actor = actor; act = act }))) (sym (progress_still guest number early actor vcpu act differ))
            (other early actor act (λ e. differ (sym e)) next (progress_in guest number early vcpu) (kept more.0))
      ])
    where
      own_now : vcpu ≡ actor → AccessesComeFirst guest number early × NowFirst early actor act → Kept vcpu (follow shape (StateOf early) (followed_in guest number early) (record { actor = actor; act = act })) (progress_in guest number (early ++ record { actor = actor; act = act } ∷ []) vcpu)
      own_now same more =
          subst (λ n. Kept vcpu (follow shape (StateOf early) (followed_in guest number early) (record { actor = n; act = act })) (progress_in guest number (early ++ record { actor = n; act = act } ∷ []) vcpu)) same
          (subst (Kept vcpu (follow shape (StateOf early) (followed_in guest number early) (record { actor = vcpu; act = act }))) (sym (progress_more guest number early vcpu act))
          (own early act (subst (λ n. IsNextOf guest number early n act) (sym same) next) (kept more.0) (subst (λ n. NowFirst early n act) (sym same) more.1)))

  opens : KeptAt []
  opens first = record { told = λ owes none. absurd (settled_owes (opening_progress guest number vcpu).local vcpu refl owes); late = All-nil (Staying vcpu (opening_progress guest number vcpu)) }

-- none of them is the vCPU's where it has nothing at its interface, or owes no scan
all_left : (vcpu : ℕ) (p : Progress) (leaving : List (ℕ × Key)) → IsTrue (has_scanned p) → All (Staying vcpu p) leaving → IsTrue (not (list_any (λ (pair : ℕ × Key). pair.0 == vcpu) leaving))
all_left vcpu p [] scanned all = refl
all_left vcpu p (pair ∷ leaving) scanned all = of (pair.0 == vcpu) refl (all_left vcpu p leaving scanned (All-tail (Staying vcpu p) pair leaving all))
  where
    none : IsStaying p pair.1 → ⊥
    none staying = by_at p.local.at refl (is_paid p.debt) refl scanned
      where
        by_at : (at : List AtIrq) → p.local.at ≡ at → (b : Bool) → is_paid p.debt ≡ b → IsTrue (is_empty at || b) → ⊥
        by_at [] e b f h = true≢false (sym staying.at ∙ ap (is_at pair.1) e)
        by_at (one ∷ at) e true f h = true≢false (sym f ∙ staying.owed)
        by_at (one ∷ at) e false f h = true≢false (sym h)

    of : (b : Bool) → (pair.0 == vcpu) ≡ b → IsTrue (not (list_any (λ (pair : ℕ × Key). pair.0 == vcpu) leaving)) → IsTrue (not (b || list_any (λ (pair : ℕ × Key). pair.0 == vcpu) leaving))
    of true e rest = absurd (none (All-head (Staying vcpu p) pair leaving all (eqb-true pair.0 vcpu e)))
    of false e rest = rest

-- a vCPU that has made no event of an interrupt owes itself no kick
pub none_owed :
    (guest : IdealGuest) (number : ℕ) (moments : List CoreMoment) (vcpu : ℕ) → CanOpen guest → IsProperRun guest number moments → vcpu < guest.shape.vcpus → AccessesComeFirst guest number moments
    → IsTrue (has_done_none (doing_of (followed_in guest number moments).track vcpu).done) → IsTrue (owes_kick vcpu (progress_in guest number moments vcpu).local) → ⊥
none_owed guest number moments vcpu good proper within first none owes =
    (runs_on guest number good (KeptAt guest number vcpu good within) (one_more guest number vcpu good within) (opens guest number vcpu good within) moments proper first).told owes none

pub late_ones_leave : LateOnesLeave
late_ones_leave guest number moments vcpu good proper within first scanned =
    all_left vcpu (progress_in guest number moments vcpu) (followed_in guest number moments).track.leaving scanned
    (runs_on guest number good (KeptAt guest number vcpu good within) (one_more guest number vcpu good within) (opens guest number vcpu good within) moments proper first).late
