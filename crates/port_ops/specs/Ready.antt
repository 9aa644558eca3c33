-- What one atomic operation on a word of a table asks of its caller.
use Rattle.std.specs.Prelude.{◌≡◌, ℕ, ◌<◌}
use Rattle.atomic_table.specs.Seated.{TableId}
use Rattle.atomic_table.specs.Table.{State, Me, Allows}
use Rattle.atomic_table.specs.declared.shared.Seat.{Seat}
use Rattle.port_core.specs.declared.atomic.Atomic.{Atomic}
use Rattle.port_core.specs.Atomic.{applied}

-- the seat is of the table, the place is there, and whatever the table is under its rule, the seat can pick a view and an act that keep the rule where
-- the word becomes what the operation leaves of it, and of which all is true that is told
pub record Ready {S V : Type 0} (holds : State S V → Type 0) (table : TableId) (seat : Seat S V) (place : ℕ) (atomic : Atomic) (told : ℕ → Me S V → Type 0) : Type 0 where
  pub home : seat.table_id ≡ table
  pub there : place < table.words
  pub allows : Allows holds table.slots seat.id seat.me place (applied atomic) told
