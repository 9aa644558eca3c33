-- A vCPU at an access of its CPU interface, in a run whose accesses are made in calls for them and come first: its part is for the access, and it owes itself no kick.
use Rattle.std.proofs.Common.{◌≡◌, ℕ, ◌<◌, IsTrue, List, ◌∷◌, ◌++◌, Option, Some, sym, ap, ◌∙◌, subst}
use Rattle.std.proofs.lemmas.Bool.{and_parts, ltb-true}
use Rattle.law_serial_is_eager.specs.Words.{IccReg, Icc}
use Rattle.law_serial_is_eager.specs.Calls.{Cpu, Found, Moment, Happens, Access}
use Rattle.law_serial_is_eager.specs.Histories.{doing_of, IdealGuest, CanOpen}
use Rattle.law_serial_is_eager.specs.Core.{Local, Made, Poll, is_vcpu, opening, seat_at, CanStep, is_poll, end_of_moments, ideal_of, makes, CoreMoment, Progress, opening_progress, progress_in}
use Rattle.law_serial_is_eager.specs.LawRegistersStand.Followed.{opening_followed}
use Rattle.law_serial_is_eager.specs.LawScansMissNone.Excuse.{followed_in}
use Rattle.law_serial_is_eager.specs.LawScansMissNone.Index.{owes_kick}
use Rattle.law_serial_is_eager.proofs.LawScansMissNone.Frame.{progress_is}
use Rattle.law_serial_is_eager.proofs.LawScansMissNone.RunFrame.{IsNextOf}
use Rattle.law_serial_is_eager.specs.LawLateOnesLeave.Late.{AccessesComeFirst, has_done_none}
use Rattle.law_serial_is_eager.proofs.LawLateOnesLeave.LateRuns.{none_owed}
use Rattle.law_serial_is_eager.proofs.LawLateOnesLeave.PollLemmas.{seat_so}
use Rattle.law_serial_is_eager.proofs.AccessRuns.{AccessAt, AllAccess, access_before, access_there, accesses_first}

pub is_of_vcpu : (guest : IdealGuest) (number : ℕ) (early : List CoreMoment) (v : ℕ) (made : Made) → IsNextOf guest number early v (makes made) → (reg : IccReg) (write : Option ℕ) → made.step ≡ Poll (Some reg) write → v < guest.shape.vcpus
is_of_vcpu guest number early v made next reg write step_is = ltb-true v guest.shape.vcpus (and_parts (is_vcpu guest.shape v) (is_poll (Some reg) write) (subst (CanStep guest.shape v) step_is next.acts.run.0.can)).0

pub owes_itself_none :
    (guest : IdealGuest) (number : ℕ) → CanOpen guest → (early : List CoreMoment) (v : ℕ) (made : Made) → IsNextOf guest number early v (makes made) → v < guest.shape.vcpus → AccessesComeFirst guest number early
    → IsTrue (has_done_none (doing_of (followed_in guest number early).track v).done) → IsTrue (owes_kick v (seat_at (end_of_moments guest.shape (opening guest number) early) v).local) → ⊥
owes_itself_none guest number good early v made next few first none owes =
    none_owed guest number early v good next.before few first none (subst (λ (l : Local). IsTrue (owes_kick v l)) (sym (seat_so guest number v good early made next).local) owes)

pub record IsAtAccess (guest : IdealGuest) (number : ℕ) (early : List CoreMoment) (v : ℕ) (reg : IccReg) (write : Option ℕ) : Type 0 where
  pub few : v < guest.shape.vcpus
  pub first : AccessesComeFirst guest number early
  pub free : IsTrue (owes_kick v (seat_at (end_of_moments guest.shape (opening guest number) early) v).local) → ⊥
  pub operation : (progress_in guest number early v).operation ≡ Some (Access (Icc reg write))

pub at_access :
    (guest : IdealGuest) (number : ℕ) → CanOpen guest → (early : List CoreMoment) (v : ℕ) (made : Made) → IsNextOf guest number early v (makes made) → (reg : IccReg) (write : Option ℕ) → made.step ≡ Poll (Some reg) write → (found : Found) (rest : List Moment)
    → AllAccess (opening_followed guest) (ideal_of guest.shape (opening guest number) early ++ (Happens v (Cpu v reg write) found ∷ rest)) → IsAtAccess guest number early v reg write
at_access guest number good early v made next reg write step_is found rest all = record {
  few = few;
  first = first;
  free = owes_itself_none guest number good early v made next few first now.0;
  operation = sym (next.at.calls v next.acts.there ∙ ap (λ (q : Progress). q.operation) (progress_is guest.shape early (opening_progress guest number) v)) ∙ now.1;
}
  where
    few : v < guest.shape.vcpus
    few = is_of_vcpu guest number early v made next reg write step_is

    now : AccessAt (followed_in guest number early) (Happens v (Cpu v reg write) found)
    now = access_there (ideal_of guest.shape (opening guest number) early) rest (opening_followed guest) (Happens v (Cpu v reg write) found) all

    first : AccessesComeFirst guest number early
    first =
        accesses_first (ideal_of guest.shape (opening guest number) early) (opening_followed guest) (access_before (ideal_of guest.shape (opening guest number) early) (Happens v (Cpu v reg write) found ∷ rest) (opening_followed guest) all)
