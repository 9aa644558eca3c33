-- Laws of runs with their parts.
use Rattle.std.specs.Prelude.{◌∷◌, replicate, ◌≡◌, ◌↔◌, ◌<◌, ℕ, List, ◌++◌, Option}
use Rattle.floor_histories.specs.Words.{GuestShape}
use Rattle.floor_histories.specs.Calls.{Operation}
use Rattle.floor_histories.specs.Histories.{IdealGuest}
use Rattle.port_core.specs.declared.run.Made.{Made}
use Rattle.port_core.specs.Port.{Seen, Adds, shape_of}
use Rattle.port_core.specs.Run.{CoreState, Seat, seat_at, opening, end_of}
use Rattle.port_core.specs.Actor.{actor_count}
use Rattle.core_proper.specs.Called.{IsAtRest}
use Rattle.core_proper.specs.Ideal.{ideal_of, end_of_moments}
use Rattle.core_proper.specs.Parts.{Act, CoreMoment, entries_of, part_of}
use Rattle.core_proper.specs.Progress.{Progress, progress_of, progress_in}
use Rattle.core_proper.specs.Proper.{IsProper, IsProperRun}
use Rattle.core_proper.specs.WorkedExit.{exit_run, exit_history}
use Rattle.core_proper.specs.WorkedAgain.{again_start, again_run, again_history}
use Rattle.core_proper.specs.WorkedClear.{clear_guest, clear_run, clear_history}
use Rattle.core_proper.specs.Worked.{worked_guest, worked_run, worked_history}

-- what an actor does is proper exactly where its beginning is, and the rest from where that ended
abbrev pub ProperExtends : Type 0
ProperExtends =
    (shape : GuestShape) (actor : ℕ) (p : Progress) (early late : List Act) → IsProper shape actor p (early ++ late) ↔ (IsProper shape actor p early × IsProper shape actor (progress_of shape actor p early) late)

-- the ideal events of a run are those of its beginning, and then those of the rest from where that ended
abbrev pub IdealOfAppends : Type 0
IdealOfAppends =
    (shape : GuestShape) (state : CoreState) (early late : List CoreMoment) → ideal_of shape state (early ++ late) ≡ ideal_of shape state early ++ ideal_of shape (end_of_moments shape state early) late

-- a run with its parts ends where its steps do
abbrev pub PartsKeepEnd : Type 0
PartsKeepEnd = (shape : GuestShape) (state : CoreState) (moments : List CoreMoment) → end_of_moments shape state moments ≡ end_of shape state (entries_of moments)

-- an actor's own list says what it has in a run: for itself, and the steps that it made
pub record IsSeatOf (p : Progress) (seat : Seat) : Type 0 where
  pub local : p.local ≡ seat.local
  pub own : p.own ≡ seat.own

-- so it is at the end of every run
abbrev pub ProgressFollows : Type 0
ProgressFollows =
    (guest : IdealGuest) (number : ℕ) (moments : List CoreMoment) (actor : ℕ) → actor < actor_count guest.shape → IsSeatOf (progress_in guest number moments actor) (seat_at (end_of_moments guest.shape (opening guest number) moments) actor)

-- an actor at rest is at rest again after a proper part of it
abbrev pub PartsRest : Type 0
PartsRest =
    (seen new : Seen) (p : Progress) (part : List Made) (operation : Operation) (lrs : ℕ) (answer : Option ℕ) → IsAtRest seen p → IsProper (shape_of seen) seen.actor p (part_of operation lrs part answer) → Adds seen new part
    → IsAtRest new (progress_of (shape_of seen) seen.actor p (part_of operation lrs part answer))

-- the worked run is a proper run of its guest, and stands for this history
pub record WorkedRunIsProper : Type 0 where
  pub proper : IsProperRun worked_guest 0 worked_run
  pub ideal : ideal_of worked_guest.shape (opening worked_guest 0) worked_run ≡ worked_history

-- the same of the run of a vCPU that goes to another PE
pub record ExitRunIsProper : Type 0 where
  pub proper : IsProperRun worked_guest 0 exit_run
  pub ideal : ideal_of worked_guest.shape (opening worked_guest 0) exit_run ≡ exit_history

-- the same of the run of an interrupt that is pending again, with list register 0 and ICH_HCR where it is active and pending there
pub record AgainRunIsProper : Type 0 where
  pub proper : IsProperRun worked_guest 0 again_run
  pub ideal : ideal_of worked_guest.shape (opening worked_guest 0) again_run ≡ again_history
  pub list : (progress_in worked_guest 0 again_start 0).regs.lr ≡ 0xd0a0000000000028 ∷ replicate 15 0
  pub hcr : (progress_in worked_guest 0 again_start 0).regs.hcr ≡ 0x91

-- the same of the run of a clear of an interrupt at another vCPU's interface
pub record ClearRunIsProper : Type 0 where
  pub proper : IsProperRun clear_guest 0 clear_run
  pub ideal : ideal_of clear_guest.shape (opening clear_guest 0) clear_run ≡ clear_history
