-- Laws of the guest with all that stands at an interface taken back, in each state of a history.
use Rattle.std.specs.Prelude.{◌≡◌, ℕ, ◌||◌, not, IsTrue, List, Option}
use Rattle.law_histories.specs.Words.{IccReg}
use Rattle.law_histories.specs.Calls.{Event, Cpu, Moment, CanHappen}
use Rattle.law_histories.specs.Histories.{IsHistory, last_of, is_allowed, happened, home, IdealGuest, CanOpen}
use Rattle.law_home_commutes.specs.Home.{is_move, is_cpu, PassesHome, ShowsHome, AccessPassesHome}

-- a move that is allowed changes nothing of it
abbrev pub MovesKeepHome : Type 0
MovesKeepHome =
    (guest : IdealGuest) (moments : List Moment) (actor : ℕ) (event : Event) → CanOpen guest → IsHistory guest moments → IsTrue (is_move event) → CanHappen guest.shape event
    → IsTrue (is_allowed (last_of guest moments) actor event) → home (happened actor event (last_of guest moments)) ≡ home (last_of guest moments)

-- any other event that is allowed, but an access of a CPU interface, passes through
abbrev pub EventsPassHome : Type 0
EventsPassHome =
    (guest : IdealGuest) (moments : List Moment) (actor : ℕ) (event : Event) → CanOpen guest → IsHistory guest moments → IsTrue (not (is_move event || is_cpu event)) → CanHappen guest.shape event
    → IsTrue (is_allowed (last_of guest moments) actor event) → PassesHome (last_of guest moments) actor event

-- and an access does where the interface shows it
abbrev pub AccessesPassHome : Type 0
AccessesPassHome =
    (guest : IdealGuest) (moments : List Moment) (actor vcpu : ℕ) (reg : IccReg) (write : Option ℕ) → CanOpen guest → IsHistory guest moments → CanHappen guest.shape (Cpu vcpu reg write)
    → ShowsHome (last_of guest moments) vcpu reg write → AccessPassesHome (last_of guest moments) actor vcpu reg write
