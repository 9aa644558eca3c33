-- The rule of the words of a guest that is run in one thread, and what a step tells.
use Rattle.std.specs.Prelude.{◌≡◌, ℕ, List, [], ◌∷◌, ◌++◌}
use Rattle.atomic_table.specs.Table.{State, Me}
use Rattle.port_ops.specs.PortCore.declared.run.Entry.{Entry}
use Rattle.port_ops.specs.PortCore.declared.step.CoreStep.{CoreStep}
use Rattle.port_ops.specs.PortCore.Run.{IsRun, Takes, opening}
use Rattle.port_ops.specs.declared.opened.Opened.{Opened}
use Rattle.port_ops.specs.World.{state_after, entry_in}

-- one seat knows all steps so far, which are a run from the opening, and the words are those that they leave
pub record IsAfter (opened : Opened) (table : State (Unit {0}) (List Entry)) : Type 0 where
  pub world : List Entry
  pub view : table.views ≡ world ∷ []
  pub run : IsRun opened.guest.shape (opening opened.guest opened.number) world
  pub words : table.words ≡ (state_after opened.guest opened.number world).words

-- a step was made after the steps that the seat knew, and the seat knows it too
pub record IsMade (opened : Opened) (actor : ℕ) (step : CoreStep) (before : Me (Unit {0}) (List Entry)) (found : ℕ) (after : Me (Unit {0}) (List Entry)) : Type 0 where
  pub run : IsRun opened.guest.shape (opening opened.guest opened.number) before.0
  pub takes : Takes opened.guest.shape (state_after opened.guest opened.number before.0) (entry_in opened.guest.shape (state_after opened.guest opened.number before.0) actor step found)
  pub later : after.0 ≡ before.0 ++ entry_in opened.guest.shape (state_after opened.guest opened.number before.0) actor step found ∷ []
