-- The verdict on a trace: whether it can be a record of a guest's actors (own choice).
use Rattle.std.specs.Prelude.{◌≡◌, ℕ, ◌<◌, ◌≤◌, List, length, take, Some}
use Rattle.trace_read.specs.declared.trace.TraceEvent.{TraceEvent}
use Rattle.legal_play.specs.Calls.{Moment}
use Rattle.legal_play.specs.Histories.{IdealGuest, opening_course}
use Rattle.legal_play.specs.LegalLists.Legal.{IsLegal}
use Rattle.trace_told.specs.declared.verdict.Verdict.{Verdict}
use Rattle.trace_told.specs.declared.verdict.Verdict.TheVariants.{Yes, No}
use Rattle.trace_told.specs.Told.{told_from}

-- events can be: they say moments of the guest, which are a legal list
pub record CanBe (guest : IdealGuest) (events : List TraceEvent) : Type 0 where
  pub moments : List Moment
  pub told : told_from (opening_course guest) events ≡ Some moments
  pub legal : IsLegal guest moments

-- the least number of first events that cannot be
pub record IsLeastRefused (guest : IdealGuest) (events : List TraceEvent) (index : ℕ) : Type 0 where
  pub within : index ≤ length events
  pub refused : CanBe guest (take index events) → ⊥
  pub before : (count : ℕ) → count < index → CanBe guest (take count events)

abbrev pub IsVerdict : IdealGuest → List TraceEvent → Verdict → Type 0
IsVerdict guest events Yes = CanBe guest events
IsVerdict guest events (No index) = IsLeastRefused guest events index
