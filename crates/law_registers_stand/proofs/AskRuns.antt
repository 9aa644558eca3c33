-- What a vCPU's registers ask for at every moment of every proper run.
use Rattle.std.proofs.Common.{◌≡◌, ◌≢◌, ℕ, ◌<◌, ◌≤◌, ◌&&◌, true≢false, inl, Bool, true, false, IsTrue, List, refl, sym, ap, subst, ◌∙◌}
use Rattle.std.proofs.lemmas.Bool.{ne_eqb}
use Rattle.law_core_is_history.specs.Words.{GuestShape, IsShape}
use Rattle.law_core_is_history.specs.Lists.{misr_of}
use Rattle.law_core_is_history.specs.Histories.{IdealGuest, CanOpen}
use Rattle.law_core_is_history.specs.Core.{Local, Made, CoreStep, is_ready, CoreState, opening, after, Takes, IsLocal, end_of_moments, begins, ends, CoreMoment, entry_by, Progress, is_paid, progressed, progress_in, stepped, IsProperRun, IsProperStep, Purpose, planned, trapped, bare, Scan, idle, taking, looking, claiming}
use Rattle.law_core_is_history.proofs.CoreProper.ScanLemmas.{local_on}
use Rattle.law_core_is_history.proofs.AfterLemmas.{later}
use Rattle.law_core_is_history.proofs.KickSteps.{is_poll, is_poll_by, unkicked_before}
use Rattle.law_core_is_history.proofs.StepContext.{IsStep}
use Rattle.law_registers_stand.specs.Asks.{GroupsMirrored, NoneAsserted, HasAll, IsFilled, IsMirrored}
use Rattle.law_registers_stand.specs.Stands.{takes_active}
use Rattle.law_registers_stand.proofs.AskLemmas.{Asks, IsMeant, asking_as, asks_on}
use Rattle.law_registers_stand.proofs.AskSteps.{own_asks}
use Rattle.law_registers_stand.proofs.MisrLemmas.{quiet_regs}
use Rattle.law_registers_stand.proofs.StandRuns.{IsGoing, IsKept, ends_so, idle_is, lrs_made, paid_begun, paid_ended, registers_stand}
use Rattle.law_registers_stand.proofs.ScanSteps.{own_step}
use Rattle.law_registers_stand.proofs.StandSteps.{after_made}

-- the same registers ask alike, in another state of the core, or with another debt
unpaid : (a b : Bool) → (a ≡ true → b ≡ true) → b ≡ false → a ≡ false
unpaid true b h e = absurd (true≢false (sym (h refl) ∙ e))
unpaid false b h e = refl

meant_as : (p q : Progress) → q.trapping ≡ p.trapping → (IsTrue (is_paid q.debt) → IsTrue (is_paid p.debt)) → (purpose : Purpose) → IsMeant purpose p → IsMeant purpose q
meant_as p q trapping debt planned h = h
meant_as p q trapping debt trapped h = trapping ∙ h
meant_as p q trapping debt bare h = unpaid (is_paid q.debt) (is_paid p.debt) debt h

asks_as : (shape : GuestShape) (state later : CoreState) (vcpu : ℕ) (p q : Progress) (scan : Scan) → q.regs ≡ p.regs → q.local ≡ p.local → q.trapping ≡ p.trapping → (IsTrue (is_paid q.debt) → IsTrue (is_paid p.debt)) → (HasAll shape later vcpu q → HasAll shape state vcpu p) → Asks shape state vcpu p scan → Asks shape later vcpu q scan
asks_as shape state later vcpu p q idle regs local trapping debt all asks =
    asking_as shape state later vcpu (is_ready p.local.phase) (is_ready q.local.phase) p q regs (ap (λ (l : Local). l.cpu) local) trapping debt (subst (λ (l : Local). IsTrue (is_ready l.phase)) local) all asks
asks_as shape state later vcpu p q (taking purpose words) regs local trapping debt all asks = meant_as p q trapping debt purpose asks
asks_as shape state later vcpu p q (looking purpose from offers) regs local trapping debt all asks = meant_as p q trapping debt purpose asks
asks_as shape state later vcpu p q (claiming claims takes) regs local trapping debt all asks = asking_as shape state later vcpu true true p q regs (ap (λ (l : Local). l.cpu) local) trapping debt (λ h. h) all asks

-- a step of another actor is no look of the vCPU's for a kick
pub not_own : (vcpu actor : ℕ) (step : CoreStep) → actor ≢ vcpu → is_poll_by vcpu actor step ≡ false
not_own vcpu actor step apart = ap (λ b. is_poll step && b) (ne_eqb actor vcpu apart) ∙ and_false (is_poll step)
  where
    and_false : (b : Bool) → (b && false) ≡ false
    and_false true = refl
    and_false false = refl

-- every moment keeps it
pub asks_kept : (shape : GuestShape) (good : IsShape shape) (vcpu : ℕ) → vcpu < shape.vcpus → IsKept false shape vcpu (λ telling state p. Asks shape state vcpu p p.scan)
asks_kept shape good vcpu within = record {
  others = λ telling state inside p actor made apart takes going asks.
      let is : IsStep shape state going.reached.ideal actor made.step made.found made.left made.tables = record { good = good; sound = going.reached.sound; related = going.reached.related; takes = takes } in
      asks_as shape state (later is) vcpu p p p.scan refl refl refl (λ h. h) (λ all. record { none_failed = all.none_failed; unkicked = (unkicked_before is vcpu within (not_own vcpu actor made.step apart) all.unkicked).0 }) asks;
  other_begun = λ telling state p actor operation lrs asks. asks;
  other_ended = λ telling state p actor answer asks. asks;
  begun = λ telling state p operation lrs asks. asks_as shape state state vcpu p (progressed shape vcpu p (begins operation lrs)) p.scan refl refl refl (paid_begun operation p.debt) (λ all. record { none_failed = all.none_failed; unkicked = all.unkicked }) asks;
  ended = λ telling state p answer proper asks. asks_as shape state state vcpu p (progressed shape vcpu p (ends answer)) p.scan refl refl refl (paid_ended p.debt) (λ all. record { none_failed = all.none_failed; unkicked = all.unkicked }) asks;
  own = λ telling state p made proper active takes going next asks. own_kept state p made proper active takes going next asks;
}
  where
    own_kept :
        (state : CoreState) (p : Progress) (made : Made) → IsProperStep shape vcpu p made.step → (IsTrue false → IsTrue (takes_active vcpu p.scan made.step made.found)) → Takes shape state (entry_by vcpu made) → IsGoing false shape state vcpu true p → IsGoing false shape (after shape state (entry_by vcpu made)) vcpu true (stepped shape vcpu made p)
        → Asks shape state vcpu p p.scan → let q = stepped shape vcpu made p in Asks shape (after shape state (entry_by vcpu made)) vcpu q q.scan
    own_kept state p made proper active takes going next asks =
        let is : IsStep shape state going.reached.ideal vcpu made.step made.found made.left made.tables = record { good = good; sound = going.reached.sound; related = going.reached.related; takes = takes } in
        let q = after_made shape vcpu made p in
        let local : IsLocal shape vcpu p.local = subst (IsLocal shape vcpu) (sym going.seat.local) (going.reached.sound.locals vcpu takes.actor) in
        let after_local : IsLocal shape vcpu q.local = subst (IsLocal shape vcpu) (sym next.seat.local ∙ local_on shape vcpu q) (next.reached.sound.locals vcpu takes.actor) in
        let few : q.lrs ≤ 16 = subst (λ n. n ≤ 16) (sym (lrs_made shape vcpu made p)) going.few in
        asks_on false shape (later is) vcpu q good few after_local
        (own_step false shape state going.reached.ideal vcpu made.found made.left made.tables within p going.seat (going.some refl) going.few made.step is proper active local after_local going.stands)
        (own_asks shape state going.reached.ideal vcpu made.found made.left made.tables within p going.seat local going.stands made.step is proper after_local.points asks)

-- so it is at the end of a proper run
pub asks_so : (guest : IdealGuest) (number : ℕ) (moments : List CoreMoment) (vcpu : ℕ) → CanOpen guest → IsProperRun guest number moments → vcpu < guest.shape.vcpus
    → let p = progress_in guest number moments vcpu in Asks guest.shape (end_of_moments guest.shape (opening guest number) moments) vcpu p p.scan
asks_so guest number moments vcpu good proper within =
    (ends_so false guest number moments vcpu (λ telling state p. Asks guest.shape state vcpu p p.scan) good proper within (asks_kept guest.shape good.sound.shape vcpu within) (λ ready. absurd (true≢false (sym ready))) (λ f. absurd (true≢false (sym f)))).1.more

module _ (guest : IdealGuest) (number : ℕ) (moments : List CoreMoment) (vcpu : ℕ) (good : CanOpen guest) (proper : IsProperRun guest number moments) (within : vcpu < guest.shape.vcpus) (filled : IsFilled (progress_in guest number moments vcpu)) where
  asking : let p = progress_in guest number moments vcpu in IsMirrored p.regs.hcr p.local.cpu × (HasAll guest.shape (end_of_moments guest.shape (opening guest number) moments) vcpu p → misr_of p.regs ≡ 0)
  asking =
      let p = progress_in guest number moments vcpu in
      subst (Asks guest.shape (end_of_moments guest.shape (opening guest number) moments) vcpu p) (idle_is p.scan filled.loaded.scan) (asks_so guest number moments vcpu good proper within) filled.loaded.ready filled.untrapped filled.paid

pub groups_mirrored : GroupsMirrored
groups_mirrored guest number moments vcpu good proper within filled = (asking guest number moments vcpu good proper within filled).0

pub none_asserted : NoneAsserted
none_asserted guest number moments vcpu good proper within filled all =
    let p = progress_in guest number moments vcpu in
    quiet_regs p.regs (registers_stand guest number moments vcpu good proper within filled.loaded (inl filled.paid)).holds.enabled ((asking guest number moments vcpu good proper within filled).1 all)
