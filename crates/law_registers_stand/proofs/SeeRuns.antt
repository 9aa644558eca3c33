-- Which ends a vCPU's list registers see at every moment of every proper run.
use Rattle.std.proofs.Common.{◌≡◌, ◌≢◌, ℕ, ◌<◌, ◌≤◌, ◌==◌, ◌&&◌, true≢false, Bool, true, false, IsTrue, List, [], fold, Option, Some, None, is_none, refl, sym, ap, subst, ◌∙◌, arith}
use Rattle.std.specs.Option.{option_map_or}
use Rattle.std.proofs.lemmas.Bool.{ne_eqb}
use Rattle.std.proofs.lemmas.List.{length-replicate}
use Rattle.law_core_is_history.specs.Words.{Key, GuestShape, has_interrupt, interrupt_count, IsShape, is_number, irq_of}
use Rattle.law_core_is_history.specs.Calls.{may_reach, may_take}
use Rattle.law_core_is_history.specs.Histories.{Changes, changes_of, Ideal}
use Rattle.law_core_is_history.specs.Registers.{Maps}
use Rattle.law_core_is_history.specs.Core.{AtIrq, Local, Made, CoreStep, Claim, Irq as IrqWord, is_ready, may_hold, moved_of, succeeds, entry_for, is_at, CoreState, Seat, opening, seat_at, word_in, after, Takes, word_of, IsLocal, end_of_moments, event_moments, ideal_of, IsSeatOf, begins, ends, entry_by, Progress, is_paid, opening_progress, progressed, progress_in, stepped, IsProperStep, Scan, idle, taking, looking, claiming}
use Rattle.law_core_is_history.proofs.CoreProper.ReachLemmas.{number_is}
use Rattle.law_core_is_history.proofs.CoreProper.ScanLemmas.{local_on}
use Rattle.law_core_is_history.specs.Known.{IsKnown}
use Rattle.law_core_is_history.specs.Simulates.{event_of}
use Rattle.law_core_is_history.proofs.AfterLemmas.{later, seat_other}
use Rattle.law_core_is_history.proofs.KickSteps.{unkicked_before}
use Rattle.law_core_is_history.proofs.StepContext.{one, IsStep}
use Rattle.law_registers_stand.specs.Asks.{HasAll}
use Rattle.law_registers_stand.specs.Ends.{EndsAreSeen}
use Rattle.law_registers_stand.specs.Followed.{Followed, opening_followed, follows}
use Rattle.law_registers_stand.specs.Stands.{takes_active}
use Rattle.law_registers_stand.proofs.AskLemmas.{Asks}
use Rattle.law_registers_stand.proofs.AskRuns.{asks_kept, not_own}
use Rattle.law_registers_stand.proofs.AskSteps.{own_asks}
use Rattle.law_registers_stand.proofs.HeldSteps.{record_same}
use Rattle.law_registers_stand.proofs.SeeLemmas.{IsSeeing, Seeing, Sees, seeing_on, sees_on}
use Rattle.law_registers_stand.proofs.SeeClaims.{own_sees}
use Rattle.law_registers_stand.proofs.StandRuns.{IsGoing, IsKept, ends_so, idle_is, lrs_made, paid_begun, paid_ended, told}
use Rattle.law_registers_stand.proofs.ScanSteps.{own_step}
use Rattle.law_registers_stand.proofs.StandSteps.{after_made}
use Rattle.law_registers_stand.proofs.TellLemmas.{IsTold, told_event}

-- what is kept, beside what the registers ask for
pub record IsKeptSo (shape : GuestShape) (vcpu : ℕ) (telling : Followed) (state : CoreState) (p : Progress) : Type 0 where
  pub asks : Asks shape state vcpu p p.scan
  pub told : IsTold shape telling
  pub sees : Sees shape state vcpu telling p p.scan

-- A step of another actor.

-- it claims nothing that the vCPU has at its interface
others_claim : (actor vcpu : ℕ) → actor ≢ vcpu → (shape : GuestShape) (local : Local) (key : Key) (seen found : ℕ) → (irq_of found).holder ≡ Some vcpu → succeeds shape actor local (Claim key seen) found ≡ false
others_claim actor vcpu apart shape local key seen found held =
    ap (λ b. (found == seen) && b)
    (ap (λ o. option_map_or (λ entry. is_number actor o && may_take shape key (moved_of (irq_of found) entry) actor local.cpu) (entry_for key local.at) (is_none o && may_reach shape key (irq_of found) actor local.cpu && may_hold actor (irq_of found))) held
    ∙ of (entry_for key local.at)) ∙ and_false (found == seen)
  where
    and_false : (b : Bool) → (b && false) ≡ false
    and_false true = refl
    and_false false = refl

    of : (o : Option AtIrq) → option_map_or (λ entry. is_number actor (Some vcpu) && may_take shape key (moved_of (irq_of found) entry) actor local.cpu) o (is_none (Some vcpu) && may_reach shape key (irq_of found) actor local.cpu && may_hold actor (irq_of found)) ≡ false
    of None = refl
    of (Some entry) = ap (λ b. b && may_take shape key (moved_of (irq_of found) entry) actor local.cpu) (ne_eqb vcpu actor (λ e. apart (sym e)))

module _ (shape : GuestShape) (state : CoreState) (ideal : Ideal) (actor : ℕ) (step : CoreStep) (found left : ℕ) (tables : Option Maps) (is : IsStep shape state ideal actor step found left tables) (known_its : IsKnown shape state) (vcpu : ℕ) (within : vcpu < shape.vcpus) (apart : actor ≢ vcpu) (p : Progress) (seat : IsSeatOf p (seat_at state vcpu))
    (telling : Followed) (told_so : IsTold shape telling) where
  abbrev told_now : Followed
  told_now = fold follows telling (event_moments actor (event_of shape state (one actor step found left tables)))

  mine : p.local ≡ (seat_at (later is) vcpu).local
  mine = seat.local ∙ sym (ap (λ (s : Seat). s.local) (seat_other is vcpu (λ e. apart (sym e))))

  fails : (key : Key) → IsTrue (has_interrupt shape key) → is_at key p.local.at ≡ true → (seen : ℕ) → step ≡ Claim key seen → succeeds shape actor (seat_at state actor).local step found ≡ false
  fails key there at seen e =
      let holds = is.sound.ties vcpu (IrqWord key) (omega (arith, within)) there ∙ ap (λ (l : Local). is_at key l.at) (sym seat.local) ∙ at in
      let word : word_in shape state (IrqWord key) ≡ found = ap (λ s. word_in shape state (word_of shape actor s)) (sym e) ∙ sym is.takes.found in
      let held : (irq_of found).holder ≡ Some vcpu = ap (λ n. (irq_of n).holder) (sym word) ∙ number_is vcpu (irq_of (word_in shape state (IrqWord key))).holder holds in
      ap (λ s. succeeds shape actor (seat_at state actor).local s found) e ∙ others_claim actor vcpu apart shape (seat_at state actor).local key seen found held

  other_seeing : (claims takes : List Key) → Seeing shape state vcpu telling p claims takes → Seeing shape (later is) vcpu told_now p claims takes
  other_seeing claims takes seeing = λ ready untrapped owed all.
      seeing_on shape vcpu state (later is) telling told_now p.local p.local p.own p.own p.regs p.regs claims takes (λ key h. h) (λ key sees. sees) (λ key h word among. among) (λ key h. refl)
      (λ key there at none. record_same is known_its vcpu within key there (ap (λ (l : Local). is_at key l.at) (sym mine) ∙ at) (subst (λ (l : Local). IsTrue (is_ready l.phase)) mine ready) (ap (λ (l : Local). is_at key l.at) (sym seat.local) ∙ at) (subst (λ (l : Local). IsTrue (is_ready l.phase)) seat.local ready) (fails key there at) telling told_so none)
      (seeing ready untrapped owed (record { none_failed = all.none_failed; unkicked = (unkicked_before is vcpu within (not_own vcpu actor step apart) all.unkicked).0 }))

  other_sees : (scan : Scan) → Sees shape state vcpu telling p scan → Sees shape (later is) vcpu told_now p scan
  other_sees idle sees = other_seeing [] [] sees
  other_sees (taking purpose words) sees = tt
  other_sees (looking purpose from offers) sees = tt
  other_sees (claiming claims takes) sees = other_seeing claims takes sees

-- The begin and the end of a part.

same_seeing :
    (shape : GuestShape) (state : CoreState) (vcpu : ℕ) (telling now : Followed) (p q : Progress) → ((key : Key) → changes_of shape now.track key ≡ changes_of shape telling.track key) → q.local ≡ p.local → q.own ≡ p.own → q.regs ≡ p.regs → q.trapping ≡ p.trapping → (IsTrue (is_paid q.debt) → IsTrue (is_paid p.debt)) → (HasAll shape state vcpu q → HasAll shape state vcpu p)
    → (claims takes : List Key) → Seeing shape state vcpu telling p claims takes → Seeing shape state vcpu now q claims takes
same_seeing shape state vcpu telling now p q changes local own regs trapping debt all claims takes seeing = λ ready untrapped owed has.
    subst (λ l. IsSeeing shape vcpu state now l q.own q.regs claims takes) (sym local)
    (subst (λ o. IsSeeing shape vcpu state now p.local o q.regs claims takes) (sym own)
    (subst (λ r. IsSeeing shape vcpu state now p.local p.own r claims takes) (sym regs)
    (seeing_on shape vcpu state state telling now p.local p.local p.own p.own p.regs p.regs claims takes (λ key h. h) (λ key sees. sees) (λ key h word among. among) (λ key h. refl) (λ key there at none. (ap (λ (c : Changes). c.since) (sym (changes key)) ∙ none, refl))
    (seeing (subst (λ (l : Local). IsTrue (is_ready l.phase)) local ready) (sym trapping ∙ untrapped) (debt owed) (all has)))))

same_sees :
    (shape : GuestShape) (state : CoreState) (vcpu : ℕ) (telling now : Followed) (p q : Progress) → ((key : Key) → changes_of shape now.track key ≡ changes_of shape telling.track key) → q.local ≡ p.local → q.own ≡ p.own → q.regs ≡ p.regs → q.trapping ≡ p.trapping → (IsTrue (is_paid q.debt) → IsTrue (is_paid p.debt)) → (HasAll shape state vcpu q → HasAll shape state vcpu p)
    → (scan : Scan) → Sees shape state vcpu telling p scan → Sees shape state vcpu now q scan
same_sees shape state vcpu telling now p q changes local own regs trapping debt all idle sees = same_seeing shape state vcpu telling now p q changes local own regs trapping debt all [] [] sees
same_sees shape state vcpu telling now p q changes local own regs trapping debt all (taking purpose words) sees = tt
same_sees shape state vcpu telling now p q changes local own regs trapping debt all (looking purpose from offers) sees = tt
same_sees shape state vcpu telling now p q changes local own regs trapping debt all (claiming claims takes) sees = same_seeing shape state vcpu telling now p q changes local own regs trapping debt all claims takes sees

-- Every moment.

ends_kept : (shape : GuestShape) (good : IsShape shape) (vcpu : ℕ) → vcpu < shape.vcpus → IsKept false shape vcpu (λ telling state p. IsKeptSo shape vcpu telling state p)
ends_kept shape good vcpu within = record {
  others = λ telling state inside p actor made apart takes going so.
      let is : IsStep shape state going.reached.ideal actor made.step made.found made.left made.tables = record { good = good; sound = going.reached.sound; related = going.reached.related; takes = takes } in
      record {
        asks = (asks_kept shape good vcpu within).others telling state inside p actor made apart takes going so.asks;
        told = told_event shape telling actor (event_of shape state (entry_by actor made)) so.told;
        sees = other_sees shape state going.reached.ideal actor made.step made.found made.left made.tables is going.reached.known vcpu within apart p going.seat telling so.told p.scan so.sees;
      };
  other_begun = λ telling state p actor operation lrs so.
      record {
        asks = so.asks;
        told = record { shape_is = so.told.shape_is; each = so.told.each };
        sees = same_sees shape state vcpu telling (told shape telling state actor (begins operation lrs)) p p (λ key. refl) refl refl refl refl (λ h. h) (λ h. h) p.scan so.sees;
      };
  other_ended = λ telling state p actor answer so.
      record {
        asks = so.asks;
        told = record { shape_is = so.told.shape_is; each = so.told.each };
        sees = same_sees shape state vcpu telling (told shape telling state actor (ends answer)) p p (λ key. refl) refl refl refl refl (λ h. h) (λ h. h) p.scan so.sees;
      };
  begun = λ telling state p operation lrs so.
      record {
        asks = (asks_kept shape good vcpu within).begun telling state p operation lrs so.asks;
        told = record { shape_is = so.told.shape_is; each = so.told.each };
        sees =
            same_sees shape state vcpu telling (told shape telling state vcpu (begins operation lrs)) p (progressed shape vcpu p (begins operation lrs)) (λ key. refl) refl refl refl refl (paid_begun operation p.debt)
            (λ all. record { none_failed = all.none_failed; unkicked = all.unkicked }) p.scan so.sees;
      };
  ended = λ telling state p answer proper so.
      record {
        asks = (asks_kept shape good vcpu within).ended telling state p answer proper so.asks;
        told = record { shape_is = so.told.shape_is; each = so.told.each };
        sees =
            same_sees shape state vcpu telling (told shape telling state vcpu (ends answer)) p (progressed shape vcpu p (ends answer)) (λ key. refl) refl refl refl refl (paid_ended p.debt)
            (λ all. record { none_failed = all.none_failed; unkicked = all.unkicked }) p.scan so.sees;
      };
  own = λ telling state p made proper active takes going next so.
      record {
        asks = (asks_kept shape good vcpu within).own telling state p made proper active takes going next so.asks;
        told = told_event shape telling vcpu (event_of shape state (entry_by vcpu made)) so.told;
        sees = own_kept telling state p made proper active takes going next so;
      };
}
  where
    own_kept :
        (telling : Followed) (state : CoreState) (p : Progress) (made : Made) → IsProperStep shape vcpu p made.step → (IsTrue false → IsTrue (takes_active vcpu p.scan made.step made.found)) → Takes shape state (entry_by vcpu made) → IsGoing false shape state vcpu true p
        → IsGoing false shape (after shape state (entry_by vcpu made)) vcpu true (stepped shape vcpu made p) → IsKeptSo shape vcpu telling state p
        → let q = stepped shape vcpu made p in Sees shape (after shape state (entry_by vcpu made)) vcpu (fold follows telling (event_moments vcpu (event_of shape state (entry_by vcpu made)))) q q.scan
    own_kept telling state p made proper active takes going next so =
        let is : IsStep shape state going.reached.ideal vcpu made.step made.found made.left made.tables = record { good = good; sound = going.reached.sound; related = going.reached.related; takes = takes } in
        let q = after_made shape vcpu made p in
        let local : IsLocal shape vcpu p.local = subst (IsLocal shape vcpu) (sym going.seat.local) (going.reached.sound.locals vcpu takes.actor) in
        let mine : q.local ≡ (seat_at (later is) vcpu).local = sym (local_on shape vcpu q) ∙ next.seat.local in
        let after_local : IsLocal shape vcpu q.local = subst (IsLocal shape vcpu) (sym mine) (next.reached.sound.locals vcpu takes.actor) in
        let few : q.lrs ≤ 16 = subst (λ n. n ≤ 16) (sym (lrs_made shape vcpu made p)) going.few in
        sees_on false shape (later is) vcpu (fold follows telling (event_moments vcpu (event_of shape state (entry_by vcpu made)))) q good few
        (own_step false shape state going.reached.ideal vcpu made.found made.left made.tables within p going.seat (going.some refl) going.few made.step is proper active local after_local going.stands)
        (own_asks shape state going.reached.ideal vcpu made.found made.left made.tables within p going.seat local going.stands made.step is proper after_local.points so.asks)
        (own_sees shape state going.reached.ideal vcpu made.found made.left made.tables within p going.seat (going.some refl) going.few local going.stands going.reached.known telling so.told made.step is mine proper so.sees)

pub ends_are_seen : EndsAreSeen
ends_are_seen guest number moments vcpu key good proper within filled all behind =
    let p = progress_in guest number moments vcpu in
    let state = end_of_moments guest.shape (opening guest number) moments in
    let telling = fold follows (opening_followed guest) (ideal_of guest.shape (opening guest number) moments) in
    let so = (ends_so false guest number moments vcpu (λ telling state p. IsKeptSo guest.shape vcpu telling state p) good proper within (ends_kept guest.shape good.sound.shape vcpu within) first (λ f. absurd (true≢false (sym f)))).1.more in
    (subst (Sees guest.shape state vcpu telling p) (idle_is p.scan filled.loaded.scan) so.sees filled.loaded.ready filled.untrapped filled.paid all).here key behind.there behind.at behind.unchanged behind.pending
  where
    first : IsKeptSo guest.shape vcpu (opening_followed guest) (opening guest number) (opening_progress guest number vcpu)
    first = record {
      asks = λ ready. absurd (true≢false (sym ready));
      told = record { shape_is = refl; each = length-replicate (interrupt_count guest.shape) _ };
      sees = λ ready. absurd (true≢false (sym ready));
    }
