-- An actor looks at the guest's memory.
use Rattle.std.specs.Prelude.{◌≡◌, ℕ, IsTrue, List, [], ◌∷◌, map}
use Rattle.std.specs.Option.{option_map_or}
use Rattle.floor_core.specs.Words.{GuestShape}
use Rattle.floor_core.specs.Registers.{part_of}
use Rattle.floor_core.specs.GicCall.declared.event.Event.TheVariants.{Read}
use Rattle.floor_core.specs.Calls.{Place, Happened, held_at, memory_places, View, memory_at}
use Rattle.floor_core.specs.Core.{Made, CoreStep, RamLook, known_view, Seen, Adds, shape_of, part_events}
use Rattle.port_call.specs.Piece.{steps_of, takes_none, IsPiece}

-- the look at the word of memory that an access is in; none where it is outside
abbrev pub memory_looks : GuestShape → ℕ → ℕ → List CoreStep
memory_looks shape address size = option_map_or (λ part. RamLook part.index ∷ []) (part_of address size shape.ram) []

-- the guest as the actor knows it by its own steps
abbrev pub view_by : Seen → View
view_by seen = known_view (shape_of seen) seen.actor seen.own

-- a read of a place that found what the view has there
abbrev pub read_as : View → Place → Happened
read_as view place = record { event = Read place; found = held_at view place }

-- an actor looked at so many bytes of memory, and found this; 0 outside of it
pub record ReadsMemory (old new : Seen) (address size value : ℕ) : Type 0 where
  pub part : List Made
  pub adds : Adds old new part
  pub steps_are : steps_of part ≡ memory_looks (shape_of old) address size
  pub value_is : value ≡ memory_at (shape_of old) (view_by new) address size
  pub local_is : new.local ≡ old.local
  pub none_taken : IsTrue (takes_none part)
  pub events : part_events old part ≡ map (read_as (view_by new)) (memory_places (shape_of old) address size)
  pub piece : IsPiece old part
