-- What a vCPU's own step leaves of what its registers leave out, before its scan goes on.
use Rattle.std.proofs.Common.{◌≡◌, ℕ, ◌<◌, ◌==◌, ◌&&◌, ◌||◌, not, false, IsTrue, List, Option, sym, ap, ◌∙◌, subst}
use Rattle.law_registers_stand.specs.Words.{Key, GuestShape}
use Rattle.law_registers_stand.specs.Histories.{Track, Ideal}
use Rattle.law_registers_stand.specs.Registers.{Maps}
use Rattle.law_registers_stand.specs.Core.{Local, CoreStep, local_after, is_ready, CoreState, seat_at, IsSeatOf, Progress, is_paid, idle, claiming}
use Rattle.law_registers_stand.specs.LawCoreIsHistory.Related.{is_folding}
use Rattle.law_registers_stand.proofs.LawCoreIsHistory.AfterLemmas.{later}
use Rattle.law_registers_stand.proofs.LawCoreIsHistory.KickSteps.{is_poll, unkicked_before}
use Rattle.law_registers_stand.proofs.LawCoreIsHistory.StepContext.{IsStep}
use Rattle.law_registers_stand.specs.Asks.{IsUnkicked}
use Rattle.law_scans_miss_none.proofs.CalmSteps.{takes_index, cpu_kept, ready_stays}
use Rattle.law_scans_miss_none.proofs.FarSteps.{no_release}
use Rattle.law_scans_miss_none.proofs.LeftLemmas.{IsBounded}
use Rattle.law_scans_miss_none.proofs.LeftRuns.{Bounds, Leaves}
use Rattle.law_scans_miss_none.proofs.LeftSteps.{DueBefore, bounded_on}
use Rattle.law_scans_miss_none.proofs.ToldLemmas.{is_release, Lasts}
use Rattle.law_scans_miss_none.proofs.WaitingSteps.{last_in, due_before}

-- what its registers leave out, where a vCPU is not kicked, no claim failed, it owes no scan, and in trap mode it scanned
abbrev pub LeavesIf : GuestShape → CoreState → Track → ℕ → Progress → Type 0
LeavesIf shape state track vcpu p = IsUnkicked shape state vcpu → p.failed ≡ false → IsTrue (is_paid p.debt) → IsTrue (not p.trapping || p.scanned) → Leaves shape state track vcpu p p.scan

module _ {shape : GuestShape} {state : CoreState} {ideal : Ideal} {vcpu found left : ℕ} {tables : Option Maps} (within : vcpu < shape.vcpus) (track later_track : Track) (p : Progress) (seat : IsSeatOf p (seat_at state vcpu)) where
  -- what is due after a step of its own that is no release was due before it
  own_due : (step : CoreStep) (is : IsStep shape state ideal vcpu step found left tables) → Lasts is (last_in shape track) (last_in shape later_track) → (IsTrue (is_release step) → ⊥) → is_poll step ≡ false → IsUnkicked shape (later is) vcpu
      → DueBefore shape state track (later is) later_track vcpu
  own_due step is lasted other no_poll free key due =
      let so = due_before is vcpu within track later_track lasted (λ own. other own.0) (ap (λ b. b && vcpu == vcpu) no_poll) free key due in
      (so.due, so.same)

  -- a step with no scan in progress that changes nothing of that
  pub quiet_leaves :
      (step : CoreStep) (is : IsStep shape state ideal vcpu step found left tables) (q : Progress) → Lasts is (last_in shape track) (last_in shape later_track) → takes_index step ≡ false → is_poll step ≡ false → p.scan ≡ idle → q.scan ≡ p.scan → q.regs ≡ p.regs → q.trapping ≡ p.trapping → q.debt ≡ p.debt
      → (q.failed ≡ false → p.failed ≡ false) → q.scanned ≡ p.scanned → q.local ≡ local_after shape vcpu p.local step found → LeavesIf shape state track vcpu p → LeavesIf shape (later is) later_track vcpu q
  quiet_leaves step is q lasted no_take no_poll e scan regs trapping debt failed scanned local before free none owed asked =
      subst (Leaves shape (later is) later_track vcpu q) (sym (scan ∙ e))
      (λ ready.
      let kept = cpu_kept shape vcpu p.local step found no_poll in
      let was_ready : IsTrue (is_ready p.local.phase) = kept.ready no_take (subst (λ (l : Local). IsTrue (is_ready l.phase)) local ready) in
      let was = subst (Leaves shape state track vcpu p) e
      (before (unkicked_before is vcpu within (ap (λ b. b && vcpu == vcpu) no_poll) free).0 (failed none) (subst (λ d. IsTrue (is_paid d)) debt owed) (subst (λ b. IsTrue (not p.trapping || b)) scanned (subst (λ b. IsTrue (not b || q.scanned)) trapping asked))) was_ready in
      let due = own_due step is lasted (no_release step is within (ap (λ (l : Local). is_folding l.phase) (sym seat.local) ∙ ready_stays p.local.phase was_ready)) no_poll free in
      same_bounds (later is) q regs trapping (ap (λ (l : Local). l.cpu) local ∙ kept.cpu) (bounded_on shape state (later is) track later_track vcpu p.trapping p.regs p.local.cpu due was))
    where
      same_bounds : (s : CoreState) (q : Progress) → q.regs ≡ p.regs → q.trapping ≡ p.trapping → q.local.cpu ≡ p.local.cpu → IsBounded shape s later_track vcpu p.trapping p.regs p.local.cpu → Bounds shape s later_track vcpu q
      same_bounds s q regs trapping cpu bounds =
          subst (λ t. IsBounded shape s later_track vcpu t q.regs q.local.cpu) (sym trapping)
          (subst (λ r. IsBounded shape s later_track vcpu p.trapping r q.local.cpu) (sym regs) (subst (λ c. IsBounded shape s later_track vcpu p.trapping p.regs c) (sym cpu) bounds))

  -- one of a scan that claims, where none failed
  pub claiming_leaves :
      (step : CoreStep) (is : IsStep shape state ideal vcpu step found left tables) (q : Progress) (claims takes now left_takes : List Key) → Lasts is (last_in shape track) (last_in shape later_track) → (IsTrue (is_release step) → ⊥) → is_poll step ≡ false → p.scan ≡ claiming claims takes
      → q.scan ≡ claiming now left_takes → q.regs ≡ p.regs → q.trapping ≡ p.trapping → q.debt ≡ p.debt → (q.failed ≡ false → p.failed ≡ false) → q.scanned ≡ p.scanned → q.local.cpu ≡ p.local.cpu → LeavesIf shape state track vcpu p → LeavesIf shape (later is) later_track vcpu q
  claiming_leaves step is q claims takes now left_takes lasted other no_poll e scan regs trapping debt failed scanned cpu before free none owed asked =
      let was = subst (Leaves shape state track vcpu p) e
      (before (unkicked_before is vcpu within (ap (λ b. b && vcpu == vcpu) no_poll) free).0 (failed none) (subst (λ d. IsTrue (is_paid d)) debt owed) (subst (λ b. IsTrue (not p.trapping || b)) scanned (subst (λ b. IsTrue (not b || q.scanned)) trapping asked))) in
      subst (Leaves shape (later is) later_track vcpu q) (sym scan)
      (subst (λ t. IsBounded shape (later is) later_track vcpu t q.regs q.local.cpu) (sym trapping)
      (subst (λ r. IsBounded shape (later is) later_track vcpu p.trapping r q.local.cpu) (sym regs)
      (subst (λ c. IsBounded shape (later is) later_track vcpu p.trapping p.regs c) (sym cpu) (bounded_on shape state (later is) track later_track vcpu p.trapping p.regs p.local.cpu (own_due step is lasted other no_poll free) was))))
