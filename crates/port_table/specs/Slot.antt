-- The slot of a guest's table, in which the tables of the ITS lie, and what a seat holds of it.
use Rattle.std.specs.Prelude.{ℕ, Bool, true, false, List, [], ◌∷◌, if◌then◌else◌, Option, Some, None, is_none}
use Rattle.atomic_table.specs.Table.{Act, keeps, takes, gives, rest}
use Rattle.port_ops.specs.Words.{GuestShape}
use Rattle.port_ops.specs.Registers.{queue_of, Maps}
use Rattle.port_ops.specs.PortCore.declared.step.CoreStep.{CoreStep}
use Rattle.port_ops.specs.PortCore.declared.step.CoreStep.TheVariants.{TurnRelease}
use Rattle.port_ops.specs.PortCore.CoreWords.declared.word_id.WordId.TheVariants.{Queue}
use Rattle.port_ops.specs.PortCore.Run.{CoreState, word_in}

-- nobody has the ITS, as the queue's word says
abbrev pub is_free : GuestShape → CoreState → Bool
is_free shape state = is_none (queue_of (word_in shape state Queue)).turn

-- what a seat holds: the slot, where its actor has the ITS, with the tables unless they are taken out of it
abbrev pub held : Bool → Bool → Maps → List (ℕ × Option Maps)
held turn taken maps = if turn then (0, if taken then None else Some maps) ∷ [] else []

-- the tables are taken out of the slot that a seat holds
abbrev pub has_taken : List (ℕ × Option Maps) → Bool
has_taken [] = false
has_taken (slot ∷ slots) = is_none slot.1

-- a step gives the ITS back
abbrev pub is_release : CoreStep → Bool
is_release TurnRelease = true
is_release step = false

-- the slot is given back with the ITS, and taken where a step hands out the maps
abbrev pub act_by : Bool → Option Maps → Act (Option Maps)
act_by true tables = gives
act_by false None = keeps
act_by false (Some maps) = takes 0 (Some maps)

abbrev pub slots_by : Bool → Option Maps → List (ℕ × Option Maps) → List (ℕ × Option Maps)
slots_by true tables slots = rest slots
slots_by false None slots = slots
slots_by false (Some maps) slots = (0, Some maps) ∷ slots

-- what a seat holds after a step that handed out these maps, or none
abbrev pub slots_after : CoreStep → Option Maps → List (ℕ × Option Maps) → List (ℕ × Option Maps)
slots_after step tables slots = slots_by (is_release step) tables slots
