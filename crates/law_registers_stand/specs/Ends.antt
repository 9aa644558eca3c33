-- The end of an interrupt that is pending behind its list register is seen (own choice; IHI 0069, ICH_LR<n>_EL2.EOI).
use Rattle.std.specs.Prelude.{◌≡◌, ℕ, ◌<◌, true, IsTrue, List, [], Contains}
use Rattle.law_core_is_history.specs.Words.{Key, GuestShape, has_interrupt, intid_of, is_pending, irq_of}
use Rattle.law_core_is_history.specs.Histories.{changes_of, IdealGuest, CanOpen}
use Rattle.law_core_is_history.specs.Lists.{IchRegs, seen_in, listed_of, is_live, unpacked}
use Rattle.law_core_is_history.specs.Core.{Irq, is_at, CoreState, opening, word_in, end_of_moments, ideal_of, CoreMoment, Progress, progress_in, IsProperRun}
use Rattle.law_registers_stand.specs.Asks.{HasAll, IsFilled}
use Rattle.law_registers_stand.specs.Followed.{Followed, followed_by}

-- an interrupt at a vCPU's interface is pending in its record, and nobody changed it since it got there
pub record IsBehind (shape : GuestShape) (state : CoreState) (telling : Followed) (p : Progress) (key : Key) : Type 0 where
  pub there : IsTrue (has_interrupt shape key)
  pub at : is_at key p.local.at ≡ true
  pub pending : is_pending (irq_of (word_in shape state (Irq key))) ≡ true
  pub unchanged : (changes_of shape telling.track key).since ≡ []

-- each list register in which an interrupt is pending or active asks for its end to be seen
abbrev pub SeesEnd : IchRegs → Key → Type 0
SeesEnd regs key = (word : ℕ) → Contains (listed_of regs) word → is_live (intid_of key) (seen_in word) ≡ true → (unpacked word).eoi ≡ true

-- so it is of each such interrupt, at every moment of every proper run, where the vCPU may do accesses, is not in trap mode, owes no scan, and has all that it
-- chose
abbrev pub EndsAreSeen : Type 0
EndsAreSeen =
    (guest : IdealGuest) (number : ℕ) (moments : List CoreMoment) (vcpu : ℕ) (key : Key) → CanOpen guest → IsProperRun guest number moments → vcpu < guest.shape.vcpus → IsFilled (progress_in guest number moments vcpu)
    → HasAll guest.shape (end_of_moments guest.shape (opening guest number) moments) vcpu (progress_in guest number moments vcpu)
    → IsBehind guest.shape (end_of_moments guest.shape (opening guest number) moments) (followed_by guest (ideal_of guest.shape (opening guest number) moments)) (progress_in guest number moments vcpu) key
    → SeesEnd (progress_in guest number moments vcpu).regs key
