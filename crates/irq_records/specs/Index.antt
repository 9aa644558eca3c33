-- The index of pending interrupts (own choice).
use Rattle.std.specs.Prelude.{ℕ, ◌≡◌, ◌≤◌, ◌<◌, Bool, List, length, is_some, if◌then◌else◌}
use Rattle.std.specs.List.{AllByRecursion}
use Rattle.std.specs.List.Sorted.{IsStrictlySortedBy}
use Rattle.std.specs.Map.{lookup, keys_of, remove_entry}
use Rattle.std.specs.BTreeMap.{is_at, insert_entry}
use Rattle.std.specs.Ordering.{nat_cmp}
use Rattle.floor_words.specs.Words.{Irq}
use Rattle.irq_records.specs.Pending.{is_pending_at}

-- the index with a place in it, or without
abbrev pub marked : List (ℕ × Unit {0}) → ℕ → Bool → List (ℕ × Unit {0})
marked index place is_pending = if is_pending then insert_entry nat_cmp index place tt else remove_entry (is_at (nat_cmp place)) index

-- a place is in the index
abbrev pub is_listed : List (ℕ × Unit {0}) → ℕ → Bool
is_listed index place = is_some (lookup (is_at (nat_cmp place)) index)

-- the index has the places of those that are pending, of the first so many interrupts
pub record IsIndex (irqs : List Irq) (count : ℕ) (index : List (ℕ × Unit {0})) : Type 0 where
  pub ordered : IsStrictlySortedBy nat_cmp (keys_of index)
  pub within : AllByRecursion (λ place. place < count) (keys_of index)
  pub exact : (place : ℕ) → place < count → is_listed index place ≡ is_pending_at irqs place

-- the index is of all interrupts, and has room for all
pub record IsKept (irqs : List Irq) (index : List (ℕ × Unit {0})) (room : ℕ) : Type 0 where
  pub all : IsIndex irqs (length irqs) index
  pub fits : length irqs ≤ room
