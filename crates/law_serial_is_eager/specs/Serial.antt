-- Runs of the core in which one part follows the other (own choice).
use Rattle.std.specs.Prelude.{◌≡◌, ℕ, ◌<◌, Bool, true, false, List, [], ◌∷◌, ◌++◌, map, Option}
use Rattle.law_lone_calls_are_eager.specs.Words.{GuestShape, Icc}
use Rattle.law_lone_calls_are_eager.specs.Calls.{Operation, Access, Happened}
use Rattle.law_lone_calls_are_eager.specs.Histories.{home, last_of, opening_course, IdealGuest, CanOpen}
use Rattle.law_lone_accesses_find_all.specs.Core.{Made, events_of, CoreState, opening, seat_at, end_of_moments, ideal_of, Act, CoreMoment, part_of, IsProperRun, progress_in}
use Rattle.law_lone_accesses_find_all.specs.LawCoreIsHistory.Laws.{AreCalls}
use Rattle.law_lone_accesses_find_all.specs.Lone.{IsAtEase}
use Rattle.law_lone_calls_are_eager.specs.Runs.{LoneCall, IsGoodCall, eager_after_all, AnswerEagerly}

-- a whole part: what an actor does for a call, on a PE with so many list registers (0 for a device), with these steps and this answer
pub record WholePart : Type 0 where
  pub actor : ℕ
  pub operation : Operation
  pub lrs : ℕ
  pub steps : List Made
  pub answer : Option ℕ

-- the moments of a run in which each part ends before the next one begins
abbrev pub moment_by : ℕ → Act → CoreMoment
moment_by actor act = record { actor = actor; act = act }

abbrev pub moments_in : WholePart → List CoreMoment
moments_in part = map (moment_by part.actor) (part_of part.operation part.lrs part.steps part.answer)

abbrev pub moments_of : List WholePart → List CoreMoment
moments_of [] = []
moments_of (part ∷ parts) = moments_in part ++ moments_of parts

-- the events of a part that is made from a state, and the calls of some parts
abbrev pub piece_of : GuestShape → CoreState → WholePart → List Happened
piece_of shape state part = events_of shape part.actor (seat_at state part.actor).local (seat_at state part.actor).own part.steps

abbrev pub call_of : GuestShape → CoreState → WholePart → LoneCall
call_of shape state part = record { actor = part.actor; operation = part.operation; piece = piece_of shape state part; answer = part.answer }

abbrev pub calls_of : GuestShape → CoreState → List WholePart → List LoneCall
calls_of shape state [] = []
calls_of shape state (part ∷ parts) = call_of shape state part ∷ calls_of shape (end_of_moments shape state (moments_in part)) parts

-- an operation is an access of a register of the CPU interface
abbrev pub is_icc : Operation → Bool
is_icc (Access (Icc reg write)) = true
is_icc operation = false

-- what a part has to be after other moments: where it is for an access of a CPU interface, each vCPU is at ease as it begins; and it is for an operation that its actor
-- can ask for
pub record IsFit (guest : IdealGuest) (number : ℕ) (early : List CoreMoment) (part : WholePart) : Type 0 where
  pub ease : is_icc part.operation ≡ true → (vcpu : ℕ) → vcpu < guest.shape.vcpus → IsAtEase guest.shape (end_of_moments guest.shape (opening guest number) early) vcpu (progress_in guest number early vcpu)
  pub good : IsGoodCall guest.shape part.actor part.operation

abbrev pub AreFit : IdealGuest → ℕ → List CoreMoment → List WholePart → Type 0
AreFit guest number early [] = Unit {0}
AreFit guest number early (part ∷ parts) = IsFit guest number early part × AreFit guest number (early ++ moments_in part) parts

-- with all that stands at interfaces taken back, the guest ends as the eager controller's does, and each part answers what that answers
pub record IsEager (guest : IdealGuest) (number : ℕ) (parts : List WholePart) : Type 0 where
  pub ends : home (last_of guest (ideal_of guest.shape (opening guest number) (moments_of parts))) ≡ eager_after_all (calls_of guest.shape (opening guest number) parts) guest
  pub answers : AnswerEagerly (calls_of guest.shape (opening guest number) parts) guest

-- so it is of every proper run of such parts that make their calls
abbrev pub SerialRunsAreEager : Type 0
SerialRunsAreEager =
    (guest : IdealGuest) (number : ℕ) (parts : List WholePart) → CanOpen guest → IsProperRun guest number (moments_of parts) → AreCalls guest.shape (opening guest number) (opening_course guest) (moments_of parts) → AreFit guest number [] parts → IsEager guest number parts
