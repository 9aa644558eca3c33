-- Which interrupts of a guest are pending, by their places in key order.
use Rattle.std.specs.Prelude.{ℕ, Bool, false, List, length, slice_get}
use Rattle.std.specs.List.{filter, range_with_len}
use Rattle.std.specs.Option.{option_map_or}
use Rattle.floor_words.specs.Words.{Irq, is_pending}

-- the interrupt at a place is pending (IHI 0069, "Interrupt handling state machine"); past the end there is none
abbrev pub is_pending_at : List Irq → ℕ → Bool
is_pending_at irqs place = option_map_or is_pending (slice_get irqs place) false

-- the places of those that are pending, in order
abbrev pub pending_places : List Irq → List ℕ
pending_places irqs = filter (is_pending_at irqs) (range_with_len 0 (length irqs))
