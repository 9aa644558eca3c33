-- Interrupts that an access waits for (own choice).
use Rattle.std.specs.Prelude.{◌≡◌, ℕ, ◌<◌, true, IsTrue, List}
use Rattle.law_registers_stand.specs.Words.{Key, GuestShape, has_interrupt}
use Rattle.law_registers_stand.specs.Histories.{IdealGuest, CanOpen}
use Rattle.law_registers_stand.specs.Core.{actor_count, CoreState, opening, end_of_moments, CoreMoment, IsPartedRun, Progress, progress_in, has_key}
use Rattle.law_scans_miss_none.specs.Waiting.{record_in}

-- an actor asked for an interrupt, and did not touch it since
pub record IsWantedBy (shape : GuestShape) (progress : ℕ → Progress) (key : Key) : Type 0 where
  pub actor : ℕ
  pub there : actor < actor_count shape
  pub wants : IsTrue (has_key key (progress actor).wants)

-- each interrupt for which an access waits is wanted by an actor
abbrev pub AreWanted : GuestShape → CoreState → (ℕ → Progress) → Type 0
AreWanted shape state progress = (key : Key) → IsTrue (has_interrupt shape key) → (record_in shape state key).want ≡ true → IsWantedBy shape progress key

-- so it is at every moment of every run with its parts; in a proper one no part ends while its actor wants an interrupt
abbrev pub WantsAreKept : Type 0
WantsAreKept =
    (guest : IdealGuest) (number : ℕ) (moments : List CoreMoment) → CanOpen guest → IsPartedRun guest number moments
    → AreWanted guest.shape (end_of_moments guest.shape (opening guest number) moments) (progress_in guest number moments)
