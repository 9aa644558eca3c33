-- The world of a guest: its state after the steps of all its actors so far, and after one more.
use Rattle.std.specs.Prelude.{ℕ, ◌<◌, IsTrue, List, map}
use Rattle.port_core.specs.Words.{GuestShape}
use Rattle.port_core.specs.IdealGuests.declared.guest.IdealGuest.{IdealGuest}
use Rattle.port_core.specs.declared.local.Local.{Local}
use Rattle.port_core.specs.declared.run.Entry.{Entry}
use Rattle.port_core.specs.declared.step.CoreStep.{CoreStep}
use Rattle.port_core.specs.Actor.{actor_count}
use Rattle.port_core.specs.Effect.{word_after}
use Rattle.port_core.specs.Run.{CoreState, opening, end_of, seat_at, handed_maps}

-- the state after the steps so far
abbrev pub state_after : IdealGuest → ℕ → List Entry → CoreState
state_after guest number world = end_of guest.shape (opening guest number) world

-- what each actor has for itself
abbrev pub locals_in : CoreState → List Local
locals_in state = map (λ seat. seat.local) state.seats

-- a step of an actor that finds its word so, with what it leaves and hands out
abbrev pub entry_in : GuestShape → CoreState → ℕ → CoreStep → ℕ → Entry
entry_in shape state actor step found =
    record {
      actor = actor;
      made = record { step = step; found = found; left = word_after shape actor (seat_at state actor).local step found; tables = handed_maps shape actor state step found };
    }

-- an actor has the ITS
pub record HasTurn (shape : GuestShape) (state : CoreState) (actor : ℕ) : Type 0 where
  pub there : actor < actor_count shape
  pub turn : IsTrue (seat_at state actor).local.turn
