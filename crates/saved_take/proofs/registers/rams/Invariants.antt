use Rattle.std.proofs.Common.{◌≡◌, ◌/◌}
use Rattle.saved_take.specs.Taken.{rams_of}
use Rattle.saved_take.proofs.registers.rams.Given as goal

-- the words so far
abbrev pub invariant-loop-index : goal.invariant-loop-index
invariant-loop-index l =
    record {
      end : l.index-end ≡ l.state.shape.ram / 8;
      so_far : l.words ≡ rams_of l.state l.index;
    }
