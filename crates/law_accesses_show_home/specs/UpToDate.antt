-- When an access of a CPU interface finds all that the guest has for it there (own choice).
use Rattle.std.specs.Prelude.{◌≡◌, ℕ, ◌<◌, ◌++◌, Bool, true, false, IsTrue, List, [], All, Option, Some}
use Rattle.law_home_commutes.specs.Words.{IccReg, Key, GuestShape, has_interrupt}
use Rattle.law_home_commutes.specs.Calls.{Event, Reach, Take, Leave, Moment, Happens}
use Rattle.law_home_commutes.specs.GicCall.declared.event.Event.TheVariants.{Read}
use Rattle.law_home_commutes.specs.Histories.{asks_first, changes_of, comes_first, ended_by, has_left_all, is_far_active, IsHistory, Ideal, is_home, IdealGuest, CanOpen}
use Rattle.law_home_commutes.specs.Home.{ShowsHome}
use Rattle.law_scans_miss_none.specs.LawRegistersStand.Followed.{Followed, followed_by}

-- no change is on its way to an interface, and nothing that is to leave one is late
pub record IsUpToDate (shape : GuestShape) (at : Followed) : Type 0 where
  pub unchanged : (key : Key) → IsTrue (has_interrupt shape key) → is_home at.ideal key ≡ false → (changes_of shape at.track key).since ≡ []
  pub none_late : (vcpu : ℕ) → vcpu < shape.vcpus → IsTrue (has_left_all at.track vcpu)

-- no home interrupt comes before the first at the interface where an access asks for that, and none that an access ends is active by the vCPU
pub record FindsAll (shape : GuestShape) (state : Ideal) (vcpu : ℕ) (reg : IccReg) (write : Option ℕ) : Type 0 where
  pub first : asks_first reg write ≡ true → (key : Key) → IsTrue (has_interrupt shape key) → comes_first state vcpu key ≡ false
  pub end : (key : Key) → ended_by shape vcpu reg write ≡ Some key → is_far_active state vcpu key ≡ false

-- such an access shows the guest with all taken back
abbrev pub UpToDateShowsHome : Type 0
UpToDateShowsHome =
    (guest : IdealGuest) (moments : List Moment) (vcpu : ℕ) (reg : IccReg) (write : Option ℕ) → CanOpen guest → IsHistory guest moments → vcpu < guest.shape.vcpus → IsUpToDate guest.shape (followed_by guest moments)
    → FindsAll guest.shape (followed_by guest moments).ideal vcpu reg write → ShowsHome (followed_by guest moments).ideal vcpu reg write

-- It stays so.

-- an event moves an interrupt to an interface or from it, or only reads
abbrev pub moves_or_reads : Event → Bool
moves_or_reads (Reach key vcpu) = true
moves_or_reads (Take key vcpu) = true
moves_or_reads (Leave key vcpu) = true
moves_or_reads (Read place) = true
moves_or_reads event = false

-- so does a moment, or a call begins or ends there
abbrev pub changes_nothing : Moment → Bool
changes_nothing (Happens actor event found) = moves_or_reads event
changes_nothing moment = true

-- what is up to date stays so through such moments
abbrev pub StaysUpToDate : Type 0
StaysUpToDate =
    (guest : IdealGuest) (moments more : List Moment) → CanOpen guest → IsHistory guest (moments ++ more) → All (λ moment. IsTrue (changes_nothing moment)) more → IsUpToDate guest.shape (followed_by guest moments)
    → IsUpToDate guest.shape (followed_by guest (moments ++ more))
