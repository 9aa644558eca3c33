use Rattle.std.proofs.Common.{◌≡◌, ◌∷◌, map}
use Rattle.std.specs.List.{range_with_len}
use Rattle.history_calls.specs.Words.{interrupt_count}
use Rattle.history_calls.specs.Calls.{CtlrBegin, copy_at}
use Rattle.history_calls.proofs.events.ctlr_events.Given as goal

-- the copies so far
abbrev pub invariant-loop-place : goal.invariant-loop-place
invariant-loop-place l =
    record {
      end : l.place-end ≡ interrupt_count l.shape;
      so_far : l.events ≡ CtlrBegin l.fn.enables ∷ map (copy_at l.shape l.fn.enables) (range_with_len 0 l.place);
    }
