-- Changes of what stands at an interface, and what the calls that made them have done (own choice).
use Rattle.std.specs.Prelude.{◌≡◌, false, IsTrue, List, Contains}
use Rattle.law_home_commutes.specs.Words.{Key, has_interrupt}
use Rattle.law_home_commutes.specs.Calls.{Moment}
use Rattle.law_home_commutes.specs.Histories.{Turn, changes_of, doing_of, IsHistory, is_home, IdealGuest, CanOpen}
use Rattle.law_scans_miss_none.specs.Excuse.{is_current}
use Rattle.law_scans_miss_none.specs.LawRegistersStand.Followed.{followed_by}

-- an interrupt that is at an interface was changed, since it got there, in a call or a command that goes on: that has made an event of it
abbrev pub ChangesAreDone : Type 0
ChangesAreDone =
    (guest : IdealGuest) (moments : List Moment) (key : Key) (turn : Turn) → CanOpen guest → IsHistory guest moments → IsTrue (has_interrupt guest.shape key) → is_home (followed_by guest moments).ideal key ≡ false
    → Contains (changes_of guest.shape (followed_by guest moments).track key).since turn → IsTrue (is_current (followed_by guest moments).track turn) → Contains (doing_of (followed_by guest moments).track turn.actor).done key
