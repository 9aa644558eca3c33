-- Changes of what stands at a vCPU's interface (own choice).
use Rattle.std.specs.Prelude.{◌≡◌, ℕ, ◌<◌, false, IsTrue, All, List, Some}
use Rattle.law_registers_stand.specs.Words.{Key, GuestShape, has_interrupt}
use Rattle.law_registers_stand.specs.Histories.{Turn, Track, changes_of, IdealGuest, CanOpen}
use Rattle.law_registers_stand.specs.Core.{actor_count, CoreState, opening, seat_at, end_of_moments, CoreMoment, progress_in, IsProperRun}
use Rattle.law_registers_stand.specs.LawCoreIsHistory.Related.{is_folding}
use Rattle.law_scans_miss_none.specs.Index.{owes_kick}
use Rattle.law_scans_miss_none.specs.Excuse.{followed_in, is_current}
use Rattle.law_scans_miss_none.specs.Waiting.{record_in}
use Rattle.law_registers_stand.specs.Asks.{IsUnkicked}

-- a call or a command goes on, and its actor owes the vCPU a kick
pub record IsOwing (shape : GuestShape) (state : CoreState) (track : Track) (vcpu : ℕ) (turn : Turn) : Type 0 where
  pub there : turn.actor < actor_count shape
  pub current : IsTrue (is_current track turn)
  pub owes : IsTrue (owes_kick vcpu (seat_at state turn.actor).local)

-- each change of an interrupt since it got to the interface where it is was made in a call that goes on, whose actor owes the vCPU a kick
abbrev pub AreOwed : GuestShape → CoreState → Track → ℕ → Key → Type 0
AreOwed shape state track vcpu key = All (IsOwing shape state track vcpu) (changes_of shape track key).since

-- so it is at every moment of every proper run, of an interrupt at the interface of a vCPU that is not kicked and does not give back what it has
abbrev pub ChangesAreOwed : Type 0
ChangesAreOwed =
    (guest : IdealGuest) (number : ℕ) (moments : List CoreMoment) (vcpu : ℕ) (key : Key) → CanOpen guest → IsProperRun guest number moments → vcpu < guest.shape.vcpus → IsTrue (has_interrupt guest.shape key)
    → IsUnkicked guest.shape (end_of_moments guest.shape (opening guest number) moments) vcpu → is_folding (progress_in guest number moments vcpu).local.phase ≡ false
    → (record_in guest.shape (end_of_moments guest.shape (opening guest number) moments) key).holder ≡ Some vcpu
    → AreOwed guest.shape (end_of_moments guest.shape (opening guest number) moments) (followed_in guest number moments).track vcpu key
