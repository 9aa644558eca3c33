-- Interrupts that are late at a vCPU's interface leave it in time (own choice).
use Rattle.std.specs.Prelude.{ℕ, ◌<◌, ◌||◌, Bool, true, false, IsTrue, List, [], ◌∷◌}
use Rattle.law_scans_miss_none.specs.Words.{Key}
use Rattle.law_scans_miss_none.specs.Calls.{Cpu, Moment, Happens}
use Rattle.law_scans_miss_none.specs.Histories.{Track, doing_of, has_left_all, is_kept, of_end, Ideal, IdealGuest, CanOpen}
use Rattle.law_scans_miss_none.specs.Core.{opening, ideal_of, CoreMoment, Progress, is_paid, progress_in, IsProperRun, is_empty}
use Rattle.law_scans_miss_none.specs.Excuse.{followed_in}

-- a call or a command has made no event of an interrupt
abbrev pub has_done_none : List Key → Bool
has_done_none [] = true
has_done_none (key ∷ keys) = false

-- an access of a register of the CPU interface comes first in its call: before any event of an interrupt
abbrev pub is_access_first : Ideal → Track → Moment → Bool
is_access_first state track (Happens actor (Cpu vcpu reg write) found) = has_done_none (doing_of track actor).done
is_access_first state track moment = true

-- so does each access of a run
abbrev pub AccessesComeFirst : IdealGuest → ℕ → List CoreMoment → Type 0
AccessesComeFirst guest number moments = IsTrue (is_kept is_access_first guest (ideal_of guest.shape (opening guest number) moments))

-- a vCPU has nothing at its interface, or owes no scan
abbrev pub has_scanned : Progress → Bool
has_scanned p = is_empty p.local.at || is_paid p.debt

-- at every moment of every proper run in which accesses come first, of such a vCPU: no interrupt is still to leave its interface
abbrev pub LateOnesLeave : Type 0
LateOnesLeave =
    (guest : IdealGuest) (number : ℕ) (moments : List CoreMoment) (vcpu : ℕ) → CanOpen guest → IsProperRun guest number moments → vcpu < guest.shape.vcpus → AccessesComeFirst guest number moments → IsTrue (has_scanned (progress_in guest number moments vcpu))
    → IsTrue (has_left_all (followed_in guest number moments).track vcpu)

-- so no call ends before each interrupt that is late there has left: what a fresh history asks of deactivations
abbrev pub DeactivationsAreFresh : Type 0
DeactivationsAreFresh = (guest : IdealGuest) (number : ℕ) (moments : List CoreMoment) → CanOpen guest → IsProperRun guest number moments → AccessesComeFirst guest number moments → IsTrue (is_kept of_end guest (ideal_of guest.shape (opening guest number) moments))
