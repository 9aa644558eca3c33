-- What images are made of: numbers and nulls, lists, and objects whose members stand in the order of the bytes of their names
-- (own choice; RFC 8259 for the values).
use Rattle.std.specs.Prelude.{ℕ, List, [], ◌∷◌, map, fold, Bool, Option, Some, None}
use Rattle.serde_json.specs.Data.{Data, null, number, unsigned, array, object, Members, no_members, put}
use Rattle.serde_json.specs.View.{items_of}
use Rattle.scn_saved.specs.Words.{bit_of}

-- a number
abbrev pub number_data : ℕ → Data
number_data n = number (unsigned n)

-- a number, or null for none
abbrev pub cell_data : Option ℕ → Data
cell_data None = null
cell_data (Some n) = number_data n

-- a flag among numbers: 0 or 1
abbrev pub flag_cell : Bool → Option ℕ
flag_cell flag = Some (bit_of flag)

-- a list of what each element is written as
abbrev pub list_data : {X : Type 0} → (X → Data) → List X → Data
list_data written xs = array (items_of (map written xs))

-- a list of numbers and nulls
abbrev pub row_data : List (Option ℕ) → Data
row_data cells = list_data cell_data cells

-- a member of an object: its name, and what it holds
pub record Member : Type 0 where
  pub name : List ℕ
  pub holds : Data

-- the members that an object has after one more
abbrev pub with_member : Members → Member → Members
with_member members member = put member.name member.holds members

-- an object with these members, each at its place in the order of the names
abbrev pub object_data : List Member → Data
object_data members = object (fold with_member no_members members)
