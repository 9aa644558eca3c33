-- The vector that is kept for the travellers at the end.
use Rattle.std.specs.Prelude.{◌≡◌, ℕ, ◌≤◌, [], Option, Vec, vec_capacity}
use Rattle.std.specs.declared.alloc.Global.{Global}
use mathlib.Core.Option.{some}
use lib.ListN.{get_elem?}
use Rattle.atomic_table.specs.Table.{State}

-- it is empty, and has room for so many
pub record HasRoom {T : Type 0} (places : ℕ) (room : Vec (Option T) Global) : Type 0 where
  pub empty : room.items ≡ []
  pub wide : places ≤ vec_capacity room

-- the rule of the table that has it
pub record IsReserve {T V : Type 0} (places : ℕ) (table : State (Vec (Option T) Global) V) : Type 0 where
  pub room : Vec (Option T) Global
  pub there : get_elem? table.homes 0 ≡ some (some room)
  pub fits : HasRoom places room
