-- How a guest of the core is told of at the end of a run, with no interrupt at a CPU interface (own choice).
use Rattle.std.specs.Prelude.{◌≡◌, ℕ, ◌<◌, List, [], map}
use Rattle.std.specs.List.{range_with_len}
use Rattle.port_ops.specs.Words.{GuestShape}
use Rattle.port_ops.specs.GuestWords.{words_at_end}
use Rattle.port_ops.specs.Registers.{CpuRec}
use Rattle.law_core_is_history.specs.Histories.{IdealGuest, last_of, opening_course, home, CanOpen}
use Rattle.guest_end.specs.GicIdeal.Ends.{end_of}
use Rattle.law_core_is_history.specs.Core.{GuestWords, CoreState, opening, seat_at, end_of_moments, ideal_of, CoreMoment, IsPartedRun}
use Rattle.law_core_is_history.specs.Laws.{AreCalls}
use Rattle.guest_end.specs.Home.{plain_at_home, guest_of, IsAtEnd}

-- no interrupt is at a CPU interface
abbrev pub AreEmpty : GuestShape → CoreState → Type 0
AreEmpty shape state = (vcpu : ℕ) → vcpu < shape.vcpus → (seat_at state vcpu).local.at ≡ []

-- what is told of a state: its words and maps, and the CPU record that each vCPU has, by number
abbrev pub words_in : GuestShape → CoreState → GuestWords
words_in shape state = words_at_end shape state.words state.maps

abbrev pub cpus_in : GuestShape → CoreState → List CpuRec
cpus_in shape state = map (λ vcpu. (seat_at state vcpu).local.cpu) (range_with_len 0 shape.vcpus)

-- the guest that they say
abbrev pub told_in : IdealGuest → CoreState → IdealGuest
told_in guest state = guest_of guest.shape (words_in guest.shape state) (cpus_in guest.shape state)

-- a guest without the number of a fault, unless its queue is stalled by it
abbrev pub without_past_fault : IdealGuest → IdealGuest
without_past_fault guest = record guest { words = plain_at_home guest.shape guest.is_stalled guest.words }

-- the state of the core, and the ideal controller's guest with all that stands at interfaces taken back, at the end of a run
abbrev pub state_after : IdealGuest → ℕ → List CoreMoment → CoreState
state_after guest number moments = end_of_moments guest.shape (opening guest number) moments

abbrev pub home_after : IdealGuest → ℕ → List CoreMoment → IdealGuest
home_after guest number moments = home (last_of guest (ideal_of guest.shape (opening guest number) moments))

-- an end can be told from the words and records of a run's end; the guest that they say is that one, but for a fault by which nothing is stalled; and it has
-- the same end lines, whichever state they are compared with
pub record EndsAtHome (guest : IdealGuest) (number : ℕ) (moments : List CoreMoment) : Type 0 where
  pub told : IsAtEnd guest.shape (words_in guest.shape (state_after guest number moments)) (cpus_in guest.shape (state_after guest number moments))
  pub guest_is : told_in guest (state_after guest number moments) ≡ without_past_fault (home_after guest number moments)
  pub lines : (opened : IdealGuest) → end_of opened (told_in guest (state_after guest number moments)) ≡ end_of opened (home_after guest number moments)

-- so ends every run whose parts make their calls, with no interrupt at a CPU interface
abbrev pub RunsEndAtHome : Type 0
RunsEndAtHome =
    (guest : IdealGuest) (number : ℕ) (moments : List CoreMoment) → CanOpen guest → IsPartedRun guest number moments → AreCalls guest.shape (opening guest number) (opening_course guest) moments
    → AreEmpty guest.shape (state_after guest number moments) → EndsAtHome guest number moments
