-- What is saved of states that are alike (own choice).
use Rattle.std.specs.Prelude.{◌≡◌, List, Option}
use Rattle.law_runs_split.specs.GicIdeal.IdealGuests.declared.guest.IdealGuest.{IdealGuest}
use Rattle.law_runs_split.specs.GicIdeal.IdealGuests.Calls.{GuestSpec}
use Rattle.law_runs_split.specs.GicIdeal.ScnBase.declared.standing.MovedWire.{MovedWire}
use Rattle.law_runs_split.specs.Faults.{IsAlike}
use Rattle.saved_take.specs.Taken.{taken_of}

-- law: of states that differ in the number of a fault by which nothing is stalled the same is saved
abbrev pub AlikeAreSavedAlike : Type 0
AlikeAreSavedAlike = (guest : GuestSpec) (wires : List (Option MovedWire)) (one other : IdealGuest) → IsAlike one other → taken_of guest wires one ≡ taken_of guest wires other
