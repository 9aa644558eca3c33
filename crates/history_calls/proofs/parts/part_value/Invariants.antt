use Rattle.std.proofs.Common.{◌≡◌, ◌*◌, ◌<◌, ◌^◌}
use Rattle.history_calls.specs.Registers.{part_bits}
use Rattle.history_calls.specs.Calls.{part_value}
use Rattle.history_calls.specs.Found.{found_by}
use Rattle.history_calls.proofs.parts.part_value.Given as goal

-- the parts so far
abbrev pub invariant-loop-number : goal.invariant-loop-number
invariant-loop-number l =
    record {
      so_far : l.value ≡ part_value l.shape (found_by l.piece) l.frame l.kind l.first l.number;
      below : l.value < 2 ^ (l.number * part_bits l.kind);
    }
