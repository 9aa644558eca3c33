use Rattle.std.proofs.Common.{◌≡◌, ◌<◌, ℕ, length, slice_index_or}
use Rattle.history_commands.specs.Calls.{Place, IsLastRead, held_at}
use Rattle.history_commands.specs.HistoryCalls.Found.{found_by}
use Rattle.history_commands.proofs.register.are_all_read.Given as goal

-- those so far were
abbrev pub invariant-loop-index : goal.invariant-loop-index
invariant-loop-index l =
    record {
      end : l.index-end ≡ length l.places;
      so_far : (k : ℕ) → k < l.index → (d : Place) → IsLastRead (slice_index_or l.places k d) (held_at (found_by l.piece) (slice_index_or l.places k d)) l.piece;
    }
