-- One call of a history while nobody else acts, and what the eager controller makes of its operation (own choice).
use Rattle.std.specs.Prelude.{◌≡◌, ℕ, List, [], ◌∷◌, ◌++◌, map, Option, None}
use Rattle.law_home_commutes.specs.Calls.{Event, Cpu, Moment, Begin, Operation, Access, Device, Residence, device_events, Happened}
use Rattle.law_home_commutes.specs.GicCall.declared.event.Moment.TheVariants.{End}
use Rattle.law_home_commutes.specs.Histories.{IdealGuest, view_of, after_events, IsQueueInOrder, IsSound, Ideal, happened, home, IsHistory, IsWhole, last_of, CanOpen}
use Rattle.law_eager_is_history.specs.GicIdeal.Deeds.{op_events}
use Rattle.law_eager_is_history.specs.Moments.{op_read, moment_of}
use Rattle.law_home_commutes.specs.Home.{ShowsHome}

-- What the eager controller does.

-- the events of an operation of an actor; a vCPU that enters or leaves a PE, or looks whether it was kicked, makes none
abbrev pub eager_events : Operation → ℕ → IdealGuest → List Event
eager_events (Access op) actor guest = op_events op guest actor
eager_events (Device op) actor guest = device_events (view_of guest) op
eager_events Residence actor guest = []

-- what it reads
abbrev pub eager_read : Operation → ℕ → IdealGuest → Option ℕ
eager_read (Access op) actor guest = op_read op guest actor
eager_read operation actor guest = None

-- One call of a history.

-- a call of an actor with these events, one after the other
abbrev pub lone_call : ℕ → Operation → List Happened → Option ℕ → List Moment
lone_call actor operation piece answer = Begin actor operation ∷ map (moment_of actor) piece ++ End actor answer ∷ []

-- at each access of a CPU interface register among them the interface shows the guest with all taken back
abbrev pub Shows : Ideal → Event → Type 0
Shows state (Cpu vcpu reg write) = ShowsHome state vcpu reg write
Shows state event = Unit {0}

abbrev pub AllShow : ℕ → Ideal → List Happened → Type 0
AllShow actor state [] = Unit {0}
AllShow actor state (one ∷ piece) = Shows state one.event × AllShow actor (happened actor one.event state) piece

-- after a history of a good guest in which all calls ended comes such a call
pub record IsLoneCall (guest : IdealGuest) (moments : List Moment) (actor : ℕ) (operation : Operation) (piece : List Happened) (answer : Option ℕ) : Type 0 where
  pub good : CanOpen guest
  pub whole : IsWhole guest moments
  pub history : IsHistory guest (moments ++ lone_call actor operation piece answer)
  pub shows : AllShow actor (last_of guest moments) piece

-- the call does to a guest what the eager controller does, and answers the same
pub record IsEagerCall (actor : ℕ) (operation : Operation) (answer : Option ℕ) (before after : IdealGuest) : Type 0 where
  pub goes : after ≡ after_events (eager_events operation actor before) before
  pub answers : answer ≡ eager_read operation actor before

-- so does each such call of an operation, to the guest with all taken back
abbrev pub PassesAlone : Operation → Type 0
PassesAlone operation =
    (guest : IdealGuest) (moments : List Moment) (actor : ℕ) (piece : List Happened) (answer : Option ℕ) → IsLoneCall guest moments actor operation piece answer
    → IsEagerCall actor operation answer (home (last_of guest moments)) (home (last_of guest (moments ++ lone_call actor operation piece answer)))

-- a guest with a valid record of all that it has, whose queue is in order; its ITS may have commands that no write has started yet
pub record IsAtRest (guest : IdealGuest) : Type 0 where
  pub sound : IsSound guest
  pub order : IsQueueInOrder guest

-- so does each such call of an operation, where that guest is at rest
abbrev pub PassesAtRest : Operation → Type 0
PassesAtRest operation =
    (guest : IdealGuest) (moments : List Moment) (actor : ℕ) (piece : List Happened) (answer : Option ℕ) → IsLoneCall guest moments actor operation piece answer
    → IsAtRest (home (last_of guest moments)) → IsEagerCall actor operation answer (home (last_of guest moments)) (home (last_of guest (moments ++ lone_call actor operation piece answer)))
