use Rattle.std.proofs.Common.{◌≡◌}
use Rattle.std.specs.List.{filter_map, range_with_len}
use Rattle.history_turns.specs.Risen.{touch_in}
use Rattle.history_turns.proofs.rise.touched_events.Given as goal

-- the touches so far
abbrev pub invariant-loop-number : goal.invariant-loop-number
invariant-loop-number l =
    record {
      end : l.number-end ≡ l.shape.lpis;
      so_far : l.events ≡ filter_map (touch_in l.piece) (range_with_len 0 l.number);
    }
