-- An access of a CPU interface in a proper run: what its vCPU is then.
use Rattle.std.proofs.Common.{◌≡◌, ℕ, true≢false, not, Bool, true, false, IsTrue, List, Option, Some, refl, sym, ap, ◌∙◌, subst}
use Rattle.law_scans_miss_none.specs.Words.{IccReg, GuestShape}
use Rattle.law_scans_miss_none.specs.Histories.{IdealGuest, CanOpen}
use Rattle.law_scans_miss_none.specs.Core.{Local, Made, Poll, Meets, is_ready, vcpu_of, CoreState, opening, seat_at, word_in, word_of, end_of_moments, IsSeatOf, CoreMoment, makes, Progress, opening_progress, progress_in, IsProperStep, is_idle}
use Rattle.law_scans_miss_none.proofs.LawCoreIsHistory.StepContext.{IsStep}
use Rattle.law_scans_miss_none.specs.LawRegistersStand.Asks.{IsUnkicked}
use Rattle.law_scans_miss_none.specs.LawRegistersStand.Stands.{IsLoaded}
use Rattle.law_scans_miss_none.specs.Excuse.{followed_in}
use Rattle.law_scans_miss_none.proofs.Frame.{is_step, progress_is, progress_on}
use Rattle.law_scans_miss_none.proofs.RunFrame.{IsNextOf}
use Rattle.law_scans_miss_none.proofs.ScanSteps.{only_idle}

pub inverse : (b : Bool) → IsTrue (not b) → b ≡ false
inverse true h = absurd (true≢false (sym h))
inverse false h = refl

-- a vCPU looks for a kick with a register and finds none: it may do accesses, and no claim of it failed
pub record IsPolled (shape : GuestShape) (state : CoreState) (vcpu : ℕ) (p : Progress) (reg : IccReg) (write : Option ℕ) : Type 0 where
  pub proper : IsProperStep shape vcpu p (Poll (Some reg) write)
  pub ready : IsTrue (is_ready p.local.phase)
  pub loaded : IsLoaded p
  pub free : IsUnkicked shape state vcpu
  pub none_failed : p.failed ≡ false

module _ (guest : IdealGuest) (number vcpu : ℕ) (good : CanOpen guest) (early : List CoreMoment) (made : Made) (next : IsNextOf guest number early vcpu (makes made)) where
  abbrev State : CoreState
  State = end_of_moments guest.shape (opening guest number) early

  abbrev is : IsStep guest.shape (end_of_moments guest.shape (opening guest number) early) (followed_in guest number early).ideal vcpu made.step made.found made.left made.tables
  is = is_step guest.shape good.sound.shape (end_of_moments guest.shape (opening guest number) early) (followed_in guest number early) (progress_on guest.shape (opening_progress guest number) early) vcpu made next.at next.acts

  p_is : progress_on guest.shape (opening_progress guest number) early vcpu ≡ progress_in guest number early vcpu
  p_is = progress_is guest.shape early (opening_progress guest number) vcpu

  pub seat_so : IsSeatOf (progress_in guest number early vcpu) (seat_at (end_of_moments guest.shape (opening guest number) early) vcpu)
  seat_so = subst (λ r. IsSeatOf r (seat_at (end_of_moments guest.shape (opening guest number) early) vcpu)) p_is (next.at.seats vcpu next.acts.there)

  pub proper_so : IsProperStep guest.shape vcpu (progress_in guest number early vcpu) made.step
  proper_so = subst (λ r. IsProperStep guest.shape vcpu r made.step) p_is next.acts.proper

  pub polled : (reg : IccReg) (write : Option ℕ) → made.step ≡ Poll (Some reg) write → (vcpu_of made.found).kick ≡ false → IsPolled guest.shape State vcpu (progress_in guest number early vcpu) reg write
  polled reg write step_is unkicked =
      let p = progress_in guest number early vcpu in
      let polls : IsProperStep guest.shape vcpu p (Poll (Some reg) write) = subst (IsProperStep guest.shape vcpu p) step_is proper_so in
      let ready : IsTrue (is_ready p.local.phase) = subst (λ (l : Local). IsTrue (is_ready l.phase)) (sym seat_so.local) (subst (λ s. Meets guest.shape vcpu (seat_at State vcpu).local (seat_at State vcpu).own s) step_is is.takes.meets) in
      record {
        proper = polls;
        ready = ready;
        loaded = record { scan = ap is_idle (only_idle guest.shape vcpu p.local (Poll (Some reg) write) refl p.scan polls.scan); ready = ready };
        free = ap (λ n. (vcpu_of n).kick) (sym (is.takes.found ∙ ap (λ s. word_in guest.shape State (word_of guest.shape vcpu s)) step_is)) ∙ unkicked;
        none_failed = inverse p.failed polls.failed;
      }
