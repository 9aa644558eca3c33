-- A cause of an interrupt comes or goes, and the vCPUs that this concerns are told (own choice).
use Rattle.std.specs.Prelude.{◌≡◌, ℕ, ◌++◌, ◌≤◌, IsTrue, List, [], ◌∷◌, map, length}
use Rattle.floor_core.specs.Words.{Key, GuestShape, irq_of}
use Rattle.floor_core.specs.Registers.{Targets}
use Rattle.floor_core.specs.Calls.{Event}
use Rattle.floor_core.specs.GicCall.declared.event.Found.TheVariants.{Nothing}
use Rattle.floor_core.specs.Core.{Local, Made, CoreStep, Kick, Mark, concerned, no_vcpus, with_all, owing_both, Seen, Adds, shape_of, part_events}
use Rattle.port_call.specs.Piece.{steps_of, takes_none, IsPiece}
use Rattle.port_call.specs.Settle.{vcpus_in, marks_sent, kicks_sent}

-- the vCPUs that are told of an interrupt's cause, beside those that are to be told anyway, in rising order: those that it concerns, whose word was found so
abbrev pub told : GuestShape → Targets → ℕ → List ℕ
told shape owed found = vcpus_in (with_all owed (concerned shape (irq_of found)))

-- a step that changes a cause of an interrupt, then a mark of it for each vCPU that is told, and then a kick to each, and to those to which one was owed
pub record TellsOf (shape : GuestShape) (owed : Targets) (step : CoreStep) (key : Key) (part : List Made) : Type 0 where
  pub change : Made
  pub marks : List Made
  pub kicks : List Made
  pub part_is : part ≡ change ∷ marks ++ kicks
  pub change_is : change.step ≡ step
  pub marks_are : steps_of marks ≡ map (Mark key) (told shape no_vcpus change.found)
  pub kicks_are : steps_of kicks ≡ map Kick (told shape owed change.found)
  pub few : length (told shape no_vcpus change.found) ≤ 2

-- an actor once it has told the vCPUs
abbrev pub has_told : GuestShape → ℕ → Key → ℕ → Local → Local
has_told shape actor key found local = kicks_sent (marks_sent shape actor (owing_both key (concerned shape (irq_of found)) local))

-- an actor made such a step, and told the vCPUs: one event is to be seen of it, and it is proper where no scan is in progress
pub record Tells (old new : Seen) (step : CoreStep) (key : Key) (event : Event) : Type 0 where
  pub part : List Made
  pub form : TellsOf (shape_of old) old.local.owes step key part
  pub adds : Adds old new part
  pub local_is : new.local ≡ has_told (shape_of old) old.actor key form.change.found old.local
  pub none_taken : IsTrue (takes_none part)
  pub events : part_events old part ≡ (record { event = event; found = Nothing }) ∷ []
  pub piece : IsPiece old part
