-- The lines that a vCPU on a PE tells are those that the ideal controller signals (IHI 0069, "Interrupt signaling").
use Rattle.std.specs.Prelude.{◌≡◌, ℕ, ◌<◌, ◌++◌, false, IsTrue, List, [], All}
use Rattle.gic_line.specs.declared.lines.Lines.{Lines}
use Rattle.gic_line.specs.Lines.{lines_by}
use Rattle.law_serial_is_eager.specs.Words.{GuestShape}
use Rattle.law_serial_is_eager.specs.Registers.{candidates_at}
use Rattle.law_serial_is_eager.specs.Histories.{IdealGuest, CanOpen, candidates, cpu_at, home, opening_course}
use Rattle.law_serial_is_eager.specs.Core.{Made, seat_at, word_in, word_of, CoreState, CoreMoment, Progress, interface_of, opening, end_of_moments, progress_in, is_paid, IsProperRun}
use Rattle.law_serial_is_eager.specs.LawCoreIsHistory.Laws.{AreCalls}
use Rattle.law_serial_is_eager.specs.LawRegistersStand.Asks.{IsUnkicked}
use Rattle.law_serial_is_eager.specs.LawRegistersStand.Stands.{IsLoaded}
use Rattle.law_serial_is_eager.specs.LawScansMissNone.Excuse.{followed_in}
use Rattle.law_serial_is_eager.specs.LawLateOnesLeave.Late.{AccessesComeFirst}
use Rattle.law_serial_is_eager.specs.LawLoneAccessesFindAll.Lone.{AreAtEase}
use Rattle.pe_icc.specs.Core.{Seen, shape_of}
use Rattle.pe_icc.specs.Lines.{LooksByIndex, candidates_found}

-- the lines that the ideal controller signals to a vCPU at the end of some moments, with all that stands at interfaces taken back
abbrev pub signalled_in : IdealGuest → ℕ → List CoreMoment → ℕ → Lines
signalled_in guest number moments vcpu = let back = home (followed_in guest number moments).ideal in lines_by (cpu_at back vcpu) (candidates back vcpu)

-- a vCPU may tell its lines by its interface: it is not kicked, no claim of it failed, it may do accesses, owes no scan, and is not in trap mode
pub record MayTell (shape : GuestShape) (state : CoreState) (vcpu : ℕ) (p : Progress) : Type 0 where
  pub unkicked : IsUnkicked shape state vcpu
  pub none_failed : p.failed ≡ false
  pub loaded : IsLoaded p
  pub paid : IsTrue (is_paid p.debt)
  pub free : p.trapping ≡ false

abbrev pub LinesAreSignalled : Type 0
LinesAreSignalled =
    (guest : IdealGuest) (number : ℕ) (moments : List CoreMoment) (vcpu : ℕ) → CanOpen guest → IsProperRun guest number moments → AreCalls guest.shape (opening guest number) (opening_course guest) moments → AccessesComeFirst guest number moments
    → AreAtEase guest number moments → vcpu < guest.shape.vcpus → MayTell guest.shape (end_of_moments guest.shape (opening guest number) moments) vcpu (progress_in guest number moments vcpu)
    → let local = (progress_in guest number moments vcpu).local in lines_by local.cpu (candidates_at (interface_of local)) ≡ signalled_in guest number moments vcpu

-- in trap mode it may tell them by looks: it is not kicked, may do accesses, and has nothing at its interface
pub record MayLook (shape : GuestShape) (state : CoreState) (vcpu : ℕ) (p : Progress) : Type 0 where
  pub unkicked : IsUnkicked shape state vcpu
  pub loaded : IsLoaded p
  pub empty : (seat_at state vcpu).local.at ≡ []

-- the looks of a vCPU by its index, of which each found what its word has
pub record LooksIn (shape : GuestShape) (state : CoreState) (vcpu : ℕ) (seen : Seen) (part : List Made) : Type 0 where
  pub shape_is : shape_of seen ≡ shape
  pub actor_is : seen.actor ≡ vcpu
  pub local_is : seen.local ≡ (seat_at state vcpu).local
  pub by_index : LooksByIndex seen part
  pub found : All (λ made. made.found ≡ word_in shape state (word_of shape vcpu made.step)) part

abbrev pub LooksAreSignalled : Type 0
LooksAreSignalled =
    (guest : IdealGuest) (number : ℕ) (moments : List CoreMoment) (vcpu : ℕ) (seen : Seen) (part : List Made) → CanOpen guest → IsProperRun guest number moments → AreCalls guest.shape (opening guest number) (opening_course guest) moments
    → AccessesComeFirst guest number moments → AreAtEase guest number moments → vcpu < guest.shape.vcpus → MayLook guest.shape (end_of_moments guest.shape (opening guest number) moments) vcpu (progress_in guest number moments vcpu)
    → LooksIn guest.shape (end_of_moments guest.shape (opening guest number) moments) vcpu seen part
    → lines_by seen.local.cpu (candidates_at (interface_of seen.local) ++ candidates_found seen part) ≡ signalled_in guest number moments vcpu
