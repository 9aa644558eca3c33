-- Runs of the core that go on are fresh so far (own choice).
use Rattle.std.specs.Prelude.{◌≡◌, ℕ, false, IsTrue, List, ◌∷◌, ◌++◌}
use Rattle.law_serial_is_eager.specs.Words.{Key, has_interrupt}
use Rattle.law_serial_is_eager.specs.Histories.{comes_first, is_fresh_at_end, is_fresh_at_interface, is_kept, of_end, of_event, IdealGuest, CanOpen}
use Rattle.law_serial_is_eager.specs.Core.{Made, opening, end_of_moments, ideal_of, makes, CoreMoment, progress_in, IsProperRun}
use Rattle.law_serial_is_eager.specs.LawScansMissNone.Excuse.{IsExcused, followed_in}
use Rattle.law_serial_is_eager.specs.LawScansMissNone.Wants.{IsWantedBy}
use Rattle.law_serial_is_eager.specs.LawLateOnesLeave.Late.{AccessesComeFirst}
use Rattle.law_runs_are_fresh.specs.First.{Asks}

-- at an acknowledge an interrupt comes first only where the call that changed it last is open and its actor still owes the vCPU a kick, or where an open call wants it and has not
-- touched it since; the other three clauses are those of a fresh history
pub record IsFreshSoFar (guest : IdealGuest) (number : ℕ) (moments : List CoreMoment) : Type 0 where
  pub acknowledge :
      (early late : List CoreMoment) (vcpu : ℕ) (made : Made) (key : Key) → moments ≡ early ++ (record { actor = vcpu; act = makes made }) ∷ late → Asks guest vcpu made → IsTrue (has_interrupt guest.shape key)
      → (IsExcused guest.shape (end_of_moments guest.shape (opening guest number) early) (followed_in guest number early).track vcpu key → ⊥) → (IsWantedBy guest.shape (progress_in guest number early) key → ⊥)
      → comes_first (followed_in guest number early).ideal vcpu key ≡ false
  pub interface : IsTrue (is_kept (of_event is_fresh_at_interface) guest (ideal_of guest.shape (opening guest number) moments))
  pub end : IsTrue (is_kept (of_event is_fresh_at_end) guest (ideal_of guest.shape (opening guest number) moments))
  pub deactivation : IsTrue (is_kept of_end guest (ideal_of guest.shape (opening guest number) moments))

-- so is every proper run in which each access comes first in its call, whether its calls have ended or go on
abbrev pub FreshSoFar : Type 0
FreshSoFar = (guest : IdealGuest) (number : ℕ) (moments : List CoreMoment) → CanOpen guest → IsProperRun guest number moments → AccessesComeFirst guest number moments → IsFreshSoFar guest number moments
