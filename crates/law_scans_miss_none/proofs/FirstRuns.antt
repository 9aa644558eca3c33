-- No interrupt that is due comes before the first at a vCPU's interface, at any moment of any proper run.
use Rattle.std.proofs.Common.{◌≡◌, ◌≢◌, ℕ, ◌<◌, ◌≤◌, ◌==◌, ◌&&◌, ◌||◌, inl, inr, true≢false, not, Bool, true, false, IsTrue, List, nat_le, if◌then◌else◌, refl, sym, ap, ◌∙◌, subst, arith}
use Rattle.std.specs.Option.{option_map_or}
use Rattle.std.proofs.lemmas.Bool.{and_parts, lt-ltb, leb-true}
use Rattle.std.proofs.lemmas.List.Folds.{Any-from_list_any}
use Rattle.law_registers_stand.specs.Words.{Key, GuestShape, Irq as IrqRecord}
use Rattle.law_registers_stand.specs.Histories.{Track, IdealGuest, CanOpen}
use Rattle.law_registers_stand.specs.Lists.{listed_of, is_pending, is_pending_state, LrState, Pending, state_has_pending, state_has_active, unpacked}
use Rattle.law_registers_stand.specs.Registers.{first_of, is_before, is_deliverable, candidates_at}
use Rattle.law_registers_stand.specs.Core.{Local, Made, actor_count, local_after, interface_of, is_ready, CoreState, opening, seat_at, after, IsLocal, after_moment, end_of_moments, IsSeatOf, Act, begins, makes, ends, CoreMoment, entry_by, has_registers, Progress, opening_progress, is_paid, progressed, progress_in, stepped, IsProperStep, IsProperRun, RegistersAgree, Scan, idle, taking, looking, claiming}
use Rattle.law_registers_stand.proofs.PortCore.StepLemmas.{steps_sound}
use Rattle.law_registers_stand.proofs.CoreProper.ScanLemmas.{failed_on, debt_on}
use Rattle.law_registers_stand.proofs.LawCoreIsHistory.AfterLemmas.{later, local_mine}
use Rattle.law_registers_stand.proofs.LawCoreIsHistory.KickSteps.{unkicked_before}
use Rattle.law_registers_stand.proofs.LawCoreIsHistory.StepContext.{one, IsStep}
use Rattle.law_registers_stand.proofs.AskLemmas.{Asks}
use Rattle.law_registers_stand.proofs.AskRuns.{asks_so, none_asserted}
use Rattle.law_registers_stand.proofs.AskSteps.{own_asks}
use Rattle.law_registers_stand.proofs.ScanSteps.{own_step}
use Rattle.law_registers_stand.proofs.StandLemmas.{Standing}
use Rattle.law_registers_stand.proofs.StandRuns.{ends_so, nothing_more, lrs_made, paid_begun, paid_ended, idle_is, registers_stand}
use Rattle.law_scans_miss_none.specs.Excuse.{followed_in}
use Rattle.law_registers_stand.specs.Followed.{Followed}
use Rattle.law_scans_miss_none.specs.First.{MayAsk, FirstComesFirst}
use Rattle.law_scans_miss_none.specs.Scan.{Covers}
use Rattle.law_scans_miss_none.specs.Waiting.{record_in, IsDue}
use Rattle.law_scans_miss_none.proofs.CalmSteps.{no_poll_by}
use Rattle.law_scans_miss_none.proofs.FirstLemmas.{unlisted, first_later}
use Rattle.law_scans_miss_none.proofs.Frame.{runs_keep, follow, IsAt, is_part, excused_part, is_step, lasts, progress_on, progress_is}
use Rattle.law_scans_miss_none.proofs.LeftAccess.{Now, made_leaves, made_began}
use Rattle.law_scans_miss_none.proofs.LeftLemmas.{as_candidate, IsBounded, HasPending, IsLater}
use Rattle.law_scans_miss_none.proofs.LeftMade.{LeavesIf}
use Rattle.law_scans_miss_none.proofs.LeftRuns.{Bounds, Leaves, BeganWith, began_like, leaves_on, began_on}
use Rattle.law_scans_miss_none.proofs.LeftSteps.{DueBefore, bounded_on}
use Rattle.law_scans_miss_none.proofs.RunFrame.{IsNextOf, IsKeptAlong, runs_along}
use Rattle.law_scans_miss_none.proofs.ScanRuns.{scans_overlook_none}
use Rattle.law_scans_miss_none.proofs.ScanSteps.{leaves}
use Rattle.law_scans_miss_none.proofs.WaitingSteps.{due_before}

-- what is kept of a vCPU
record Kept (shape : GuestShape) (vcpu : ℕ) (state : CoreState) (at : Followed) (p : Progress) : Type 0 where
  pub began : BeganWith p p.scan
  pub leaves : LeavesIf shape state at.track vcpu p

-- the same of one that is as far
leaves_due :
    (shape : GuestShape) (state later_state : CoreState) (track later_track : Track) (vcpu : ℕ) (p q : Progress) (scan : Scan) → q.local ≡ p.local → q.regs ≡ p.regs → q.trapping ≡ p.trapping → DueBefore shape state track later_state later_track vcpu → Leaves shape state track vcpu p scan
    → Leaves shape later_state later_track vcpu q scan
leaves_due shape state later_state track later_track vcpu p q scan local regs trapping due leaves = of scan leaves
  where
    bounds : Bounds shape state track vcpu p → Bounds shape later_state later_track vcpu q
    bounds was =
        subst (λ t. IsBounded shape later_state later_track vcpu t q.regs q.local.cpu) (sym trapping)
        (subst (λ r. IsBounded shape later_state later_track vcpu p.trapping r q.local.cpu) (sym regs)
        (subst (λ (l : Local). IsBounded shape later_state later_track vcpu p.trapping p.regs l.cpu) (sym local) (bounded_on shape state later_state track later_track vcpu p.trapping p.regs p.local.cpu due was)))

    of : (s : Scan) → Leaves shape state track vcpu p s → Leaves shape later_state later_track vcpu q s
    of idle h = λ ready. bounds (h (subst (λ (l : Local). IsTrue (is_ready l.phase)) local ready))
    of (taking purpose words) h = tt
    of (looking purpose from offers) h = tt
    of (claiming claims takes) h = bounds h

module _ (guest : IdealGuest) (number vcpu : ℕ) (good : CanOpen guest) (within : vcpu < guest.shape.vcpus) where
  abbrev shape : GuestShape
  shape = guest.shape

  abbrev StateOf : List CoreMoment → CoreState
  StateOf moments = end_of_moments shape (opening guest number) moments

  abbrev ProgressOf : List CoreMoment → ℕ → Progress
  ProgressOf moments = progress_on shape (opening_progress guest number) moments

  -- the begin or the end of a part
  part_due : (early : List CoreMoment) (actor : ℕ) (act : Act) (next : IsNextOf guest number early actor act) → is_part act ≡ true
      → DueBefore shape (StateOf early) (followed_in guest number early).track (StateOf early) (follow shape (StateOf early) (followed_in guest number early) (record { actor = actor; act = act })).track vcpu
  part_due early actor act next e key due =
      (record { waiting = due.waiting; told = λ x. due.told (excused_part shape (StateOf early) (followed_in guest number early) (ProgressOf early) actor act next.at next.acts e vcpu key x) }, refl)

  part_kept :
      (early : List CoreMoment) (actor : ℕ) (act : Act) (next : IsNextOf guest number early actor act) → is_part act ≡ true → (p q : Progress) → q.local ≡ p.local → q.regs ≡ p.regs → q.trapping ≡ p.trapping → q.scanned ≡ p.scanned → q.failed ≡ p.failed → q.scan ≡ p.scan
      → (IsTrue (is_paid q.debt) → IsTrue (is_paid p.debt)) → Kept shape vcpu (StateOf early) (followed_in guest number early) p
      → Kept shape vcpu (StateOf early) (follow shape (StateOf early) (followed_in guest number early) (record { actor = actor; act = act })) q
  part_kept early actor act next e p q local regs trapping scanned failed scan paid kept = record {
    began = subst (BeganWith q) (sym scan) (began_like p q p.scan scanned kept.began);
    leaves = λ free none owed asked.
        subst (Leaves shape (StateOf early) (follow shape (StateOf early) (followed_in guest number early) (record { actor = actor; act = act })).track vcpu q) (sym scan)
        (leaves_due shape (StateOf early) (StateOf early) (followed_in guest number early).track (follow shape (StateOf early) (followed_in guest number early) (record { actor = actor; act = act })).track vcpu p q p.scan local regs trapping (part_due early actor act next e)
        (kept.leaves free (sym failed ∙ none) (paid owed) (subst (λ b. IsTrue (not p.trapping || b)) scanned (subst (λ b. IsTrue (not b || q.scanned)) trapping asked))));
  }

  -- a step of another actor
  others :
      (early : List CoreMoment) (actor : ℕ) (made : Made) → actor ≢ vcpu → (next : IsNextOf guest number early actor (makes made)) → (p : Progress) → Kept shape vcpu (StateOf early) (followed_in guest number early) p
      → Kept shape vcpu (after shape (StateOf early) (entry_by actor made)) (follow shape (StateOf early) (followed_in guest number early) (record { actor = actor; act = makes made })) p
  others early actor made apart next p kept =
      let at = followed_in guest number early in
      let is = is_step shape good.sound.shape (StateOf early) at (ProgressOf early) actor made next.at next.acts in
      let later_track = (follow shape (StateOf early) at (record { actor = actor; act = makes made })).track in
      let lasted = lasts shape good.sound.shape (StateOf early) at (ProgressOf early) actor made next.at next.acts in
      let none = no_poll_by vcpu actor made.step apart in
      record {
        began = kept.began;
        leaves = λ free failed owed asked.
            leaves_due shape (StateOf early) (later is) at.track later_track vcpu p p p.scan refl refl refl
            (λ key due. let so = due_before is vcpu within at.track later_track lasted (λ own. apart own.1) none free key due in (so.due, so.same))
            (kept.leaves (unkicked_before is vcpu within none free).0 failed owed asked);
      }

  -- one of its own
  module _ (early : List CoreMoment) (made : Made) (next : IsNextOf guest number early vcpu (makes made)) (kept : Kept shape vcpu (StateOf early) (followed_in guest number early) (progress_in guest number early vcpu)) where
    abbrev p : Progress
    p = progress_in guest number early vcpu

    abbrev q : Progress
    q = Now shape vcpu made.found made.left made.tables p made.step

    p_is : ProgressOf early vcpu ≡ progress_in guest number early vcpu
    p_is = progress_is shape early (opening_progress guest number) vcpu

    abbrev is : IsStep shape (StateOf early) (followed_in guest number early).ideal vcpu made.step made.found made.left made.tables
    is = is_step shape good.sound.shape (StateOf early) (followed_in guest number early) (ProgressOf early) vcpu made next.at next.acts

    seat : IsSeatOf p (seat_at (StateOf early) vcpu)
    seat = subst (λ r. IsSeatOf r (seat_at (StateOf early) vcpu)) p_is (next.at.seats vcpu next.acts.there)

    proper : IsProperStep shape vcpu p made.step
    proper = subst (λ r. IsProperStep shape vcpu r made.step) p_is next.acts.proper

    registers : IsTrue (has_registers shape vcpu p.lrs)
    registers = subst (λ (r : Progress). IsTrue (has_registers shape vcpu r.lrs)) p_is (next.at.registers vcpu next.acts.there next.acts.fit)

    few_some : (1 ≤ p.lrs) × (p.lrs ≤ 16)
    few_some =
        let both = and_parts (nat_le 1 p.lrs) (nat_le p.lrs 16) (subst (λ b. IsTrue (if b then nat_le 1 p.lrs && nat_le p.lrs 16 else p.lrs == 0)) (lt-ltb vcpu shape.vcpus within) registers) in
        (leb-true 1 p.lrs both.0, leb-true p.lrs 16 both.1)

    stands : Standing false shape vcpu p p.scan
    stands = (ends_so false guest number early vcpu (λ telling state p. Unit {0}) good next.before within (nothing_more false shape vcpu) tt (λ f. absurd (true≢false (sym f)))).1.going.stands

    asks : Asks shape (StateOf early) vcpu p p.scan
    asks = asks_so guest number early vcpu good next.before within

    local : IsLocal shape vcpu p.local
    local = subst (IsLocal shape vcpu) (sym seat.local) (is.sound.locals vcpu is.takes.actor)

    after_local : IsLocal shape vcpu q.local
    after_local =
        subst (IsLocal shape vcpu) (local_mine is ∙ ap (λ l. local_after shape vcpu l made.step made.found) (sym seat.local))
        ((steps_sound shape (StateOf early) (one vcpu made.step made.found made.left made.tables) is.good is.sound is.takes).locals vcpu is.takes.actor)

    after_stands : Standing false shape vcpu q q.scan
    after_stands = own_step false shape (StateOf early) (followed_in guest number early).ideal vcpu made.found made.left made.tables within p seat few_some.0 few_some.1 made.step is proper (λ f. absurd (true≢false (sym f))) local after_local stands

    after_asks : Asks shape (later is) vcpu q q.scan
    after_asks = own_asks shape (StateOf early) (followed_in guest number early).ideal vcpu made.found made.left made.tables within p seat local stands made.step is proper after_local.points asks

    began : BeganWith q q.scan
    began = made_began shape vcpu made.found made.left made.tables p kept.began made.step proper

    leaves_so : LeavesIf shape (later is) (follow shape (StateOf early) (followed_in guest number early) (record { actor = vcpu; act = makes made })).track vcpu (stepped shape vcpu made p)
    leaves_so free failed owed asked =
        let later_track = (follow shape (StateOf early) (followed_in guest number early) (record { actor = vcpu; act = makes made })).track in
        let lasted = lasts shape good.sound.shape (StateOf early) (followed_in guest number early) (ProgressOf early) vcpu made next.at next.acts in
        let none : q.failed ≡ false = sym (failed_on shape vcpu q) ∙ failed in
        let settled : IsTrue (is_paid q.debt) = subst (λ d. IsTrue (is_paid d)) (debt_on shape vcpu q) owed in
        let lrs = lrs_made shape vcpu made p in
        let covers : Covers shape (later is) later_track vcpu q q.scan = leaves within (followed_in guest number early).track later_track next.at.told p seat made.step is lasted proper (λ f n. scans_overlook_none guest number early vcpu good next.before within f n) free none in
        leaves_on shape good.sound.shape (later is) later_track vcpu q (subst (λ n. 1 ≤ n) (sym lrs) few_some.0) (subst (λ n. n ≤ 16) (sym lrs) few_some.1) settled after_stands after_asks began covers
        (λ scanned. made_leaves within (followed_in guest number early).track later_track p seat stands asks kept.leaves made.step is proper lasted after_local after_stands free none settled scanned) asked

    mine : Kept shape vcpu (after shape (StateOf early) (entry_by vcpu made)) (follow shape (StateOf early) (followed_in guest number early) (record { actor = vcpu; act = makes made })) (stepped shape vcpu made p)
    mine = record { began = began_on shape vcpu q began; leaves = leaves_so }

  along : IsKeptAlong guest number vcpu (Kept shape vcpu)
  along = record { other = other; own = own }
    where
      other :
          (early : List CoreMoment) (actor : ℕ) (act : Act) → actor ≢ vcpu → IsNextOf guest number early actor act → Kept shape vcpu (StateOf early) (followed_in guest number early) (progress_in guest number early vcpu)
          → Kept shape vcpu (after_moment shape (StateOf early) (record { actor = actor; act = act })) (follow shape (StateOf early) (followed_in guest number early) (record { actor = actor; act = act })) (progress_in guest number early vcpu)
      other early actor (begins operation lrs) apart next kept = let p = progress_in guest number early vcpu in part_kept early actor (begins operation lrs) next refl p p refl refl refl refl refl refl (λ h. h) kept
      other early actor (makes made) apart next kept = others early actor made apart next (progress_in guest number early vcpu) kept
      other early actor (ends answer) apart next kept = let p = progress_in guest number early vcpu in part_kept early actor (ends answer) next refl p p refl refl refl refl refl refl (λ h. h) kept

      own :
          (early : List CoreMoment) (act : Act) → IsNextOf guest number early vcpu act → Kept shape vcpu (StateOf early) (followed_in guest number early) (progress_in guest number early vcpu)
          → Kept shape vcpu (after_moment shape (StateOf early) (record { actor = vcpu; act = act })) (follow shape (StateOf early) (followed_in guest number early) (record { actor = vcpu; act = act })) (progressed shape vcpu (progress_in guest number early vcpu) act)
      own early (begins operation lrs) next kept =
          let p = progress_in guest number early vcpu in part_kept early vcpu (begins operation lrs) next refl p (progressed shape vcpu p (begins operation lrs)) refl refl refl refl refl refl (paid_begun operation p.debt) kept
      own early (makes made) next kept = mine early made next kept
      own early (ends answer) next kept = let p = progress_in guest number early vcpu in part_kept early vcpu (ends answer) next refl p (progressed shape vcpu p (ends answer)) refl refl refl refl refl refl (paid_ended p.debt) kept

  -- every moment
  kept_so : (moments : List CoreMoment) → IsProperRun guest number moments → Kept shape vcpu (StateOf moments) (followed_in guest number moments) (progress_in guest number moments vcpu)
  kept_so = runs_along guest number vcpu good (Kept shape vcpu) along (record { began = tt; leaves = λ free none owed asked ready. absurd (true≢false (sym ready)) })

  module _ (moments : List CoreMoment) (proper_run : IsProperRun guest number moments) (may : MayAsk shape (StateOf moments) vcpu (progress_in guest number moments vcpu)) where
    bounds : Bounds shape (StateOf moments) (followed_in guest number moments).track vcpu (progress_in guest number moments vcpu)
    bounds =
        let r = progress_in guest number moments vcpu in
        subst (Leaves shape (StateOf moments) (followed_in guest number moments).track vcpu r) (idle_is r.scan may.loaded.scan) ((kept_so moments proper_run).leaves may.unkicked may.none_failed may.paid may.scanned) may.loaded.ready

    agrees : RegistersAgree (progress_in guest number moments vcpu).regs (progress_in guest number moments vcpu).local
    agrees = registers_stand guest number moments vcpu good proper_run within may.loaded (inl may.paid)

    -- where something may be left out, a list register has State 1
    more_pending : (trapping : Bool) → (progress_in guest number moments vcpu).trapping ≡ trapping → (key : Key) (irq : IrqRecord) → IsLater trapping (progress_in guest number moments vcpu).regs key irq → HasPending (progress_in guest number moments vcpu).regs
    more_pending true e key irq later = later.more
    more_pending false e key irq later =
        let r = progress_in guest number moments vcpu in
        let quiet = none_asserted guest number moments vcpu good proper_run within (record { loaded = may.loaded; untrapped = e; paid = may.paid }) (record { none_failed = may.none_failed; unkicked = may.unkicked }) in
        let some = Any-from_list_any is_pending (listed_of r.regs) (quiet.pending later.more) in
        let state = pending_state (unpacked some.1).state some.4 in
        record { word = some.1; among = (some.0, some.2, some.3); pending = state.0; inactive = state.1 }
      where
        pending_state : (state : LrState) → is_pending_state state ≡ true → (state_has_pending state ≡ true) × (state_has_active state ≡ false)
        pending_state Pending e = (refl, refl)
        pending_state state e = absurd (true≢false (sym e))

    at_end : IsAt shape (StateOf moments) (followed_in guest number moments) (ProgressOf moments)
    at_end = (runs_keep guest number vcpu (λ state at p. Unit {0}) good (record { other = λ state at progress actor act apart here acts h. tt; own = λ state at progress act here acts h. tt }) tt moments proper_run).at

    comes : (key : Key) → IsDue shape (StateOf moments) (followed_in guest number moments).track vcpu key
        → IsTrue (is_deliverable key (record_in shape (StateOf moments) key) vcpu (progress_in guest number moments vcpu).local.cpu shape)
        → option_map_or (is_before (as_candidate key (record_in shape (StateOf moments) key))) (first_of (candidates_at (interface_of (progress_in guest number moments vcpu).local))) true ≡ false
    comes key due deliverable = elim (bounds.left key due deliverable) [
      | inl listed ↦ absurd (unlisted shape (StateOf moments) (followed_in guest number moments).track vcpu r.local r.regs good.sound.shape at_end.sound there seat.local agrees key due listed)
      | inr later ↦
          first_later shape vcpu r.local r.regs r.trapping key (record_in shape (StateOf moments) key) good.sound.shape (subst (IsLocal shape vcpu) (sym seat.local) (at_end.sound.locals vcpu there)) agrees bounds.groups
          (more_pending r.trapping refl key (record_in shape (StateOf moments) key) later) later
    ]
      where
        r : Progress
        r = progress_in guest number moments vcpu

        there : vcpu < actor_count shape
        there = omega (arith, within)

        seat : IsSeatOf (progress_in guest number moments vcpu) (seat_at (StateOf moments) vcpu)
        seat = subst (λ p. IsSeatOf p (seat_at (StateOf moments) vcpu)) (progress_is shape moments (opening_progress guest number) vcpu) (at_end.seats vcpu there)

pub first_comes_first : FirstComesFirst
first_comes_first guest number moments vcpu key good proper within may due deliverable = comes guest number vcpu good within moments proper may key due deliverable
