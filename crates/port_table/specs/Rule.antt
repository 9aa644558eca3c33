-- The rule of the words that the actors of a guest share, and what a step tells its actor.
use Rattle.std.specs.Prelude.{◌≡◌, ℕ, false, IsTrue, List, [], ◌∷◌, ◌++◌, Option, Some}
use mathlib.Core.Option.{some}
use lib.ListN.{get_elem?}
use Rattle.atomic_table.specs.Table.{State, Me, rest}
use Rattle.port_ops.specs.Registers.{Maps}
use Rattle.port_ops.specs.PortCore.declared.local.Local.{Local}
use Rattle.port_ops.specs.PortCore.declared.run.Entry.{Entry}
use Rattle.port_ops.specs.PortCore.declared.run.Made.{Made}
use Rattle.port_ops.specs.PortCore.declared.step.CoreStep.{CoreStep}
use Rattle.port_ops.specs.PortCore.Port.{local_by}
use Rattle.port_ops.specs.PortCore.Run.{IsRun, Takes, opening, opening_local_of, own_steps}
use Rattle.port_ops.specs.declared.opened.Opened.{Opened}
use Rattle.port_ops.specs.World.{state_after, entry_in}
use Rattle.port_table.specs.declared.view.Account.{Account}
use Rattle.port_table.specs.declared.view.View.{View}
use Rattle.port_table.specs.declared.view.View.TheVariants.{Root, Out}
use Rattle.port_table.specs.Slot.{is_free, slots_after}
use Rattle.port_table.specs.View.{is_among, is_back, is_out, steps_of}

-- the root knows which actors are out; of every other one it has all steps: none of an actor that was never split off
pub record IsRoot (world : List Entry) (views : List View) (split : List ℕ) (joined : List Account) : Type 0 where
  pub out : (id actor : ℕ) (own : List Made) → get_elem? views id ≡ some (Out actor own) → IsTrue (is_out split joined actor)
  pub back : (actor : ℕ) → IsTrue (is_back actor joined) → IsTrue (is_among actor split)
  pub kept : (actor : ℕ) → is_out split joined actor ≡ false → steps_of actor joined ≡ own_steps actor world

-- the first seat is the root; each actor has one seat at most, which knows the actor's steps in the world
pub record AreViews (world : List Entry) (views : List View) : Type 0 where
  pub first : (id : ℕ) (split : List ℕ) (joined : List Account) → get_elem? views id ≡ some (Root split joined) → id ≡ 0
  pub own : (id actor : ℕ) (own : List Made) → get_elem? views id ≡ some (Out actor own) → own ≡ own_steps actor world
  pub apart : (one other actor : ℕ) (own more : List Made) → get_elem? views one ≡ some (Out actor own) → get_elem? views other ≡ some (Out actor more) → one ≡ other
  pub root : (id : ℕ) (split : List ℕ) (joined : List Account) → get_elem? views id ≡ some (Root split joined) → IsRoot world views split joined

-- the steps of all actors are a run from the opening: it leaves the words, and its maps lie in the slot while nobody has the ITS; the seats know the
-- parts of it
pub record IsShared (opened : Opened) (table : State (Option Maps) View) : Type 0 where
  pub world : List Entry
  pub run : IsRun opened.guest.shape (opening opened.guest opened.number) world
  pub words : table.words ≡ (state_after opened.guest opened.number world).words
  pub home : IsTrue (is_free opened.guest.shape (state_after opened.guest opened.number world)) → get_elem? table.homes 0 ≡ some (some (Some (state_after opened.guest opened.number world).maps))
  pub views : AreViews world table.views

-- what an actor has for itself, as its own steps made it
abbrev pub local_of : Opened → ℕ → List Made → Local
local_of opened actor own = local_by opened.guest.shape actor (opening_local_of opened.guest opened.number actor) own

-- a step was made after some steps of all actors, of which the seat knew the actor's; it knows this one too, and holds the slot as the step says
pub record IsMade (opened : Opened) (actor : ℕ) (step : CoreStep) (before : Me (Option Maps) View) (found : ℕ) (after : Me (Option Maps) View) : Type 0 where
  pub world : List Entry
  pub run : IsRun opened.guest.shape (opening opened.guest opened.number) world
  pub knew : before.0 ≡ Out actor (own_steps actor world)
  pub takes : Takes opened.guest.shape (state_after opened.guest opened.number world) (entry_in opened.guest.shape (state_after opened.guest opened.number world) actor step found)
  pub knows : after.0 ≡ Out actor (own_steps actor world ++ (entry_in opened.guest.shape (state_after opened.guest opened.number world) actor step found).made ∷ [])
  pub holds : after.1 ≡ slots_after step (entry_in opened.guest.shape (state_after opened.guest opened.number world) actor step found).made.tables before.1

-- a seat gave back the slot that it held
pub record IsReturned (before : Me (Option Maps) View) (found : ℕ) (after : Me (Option Maps) View) : Type 0 where
  pub knows : after.0 ≡ before.0
  pub holds : after.1 ≡ rest before.1
