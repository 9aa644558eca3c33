use Rattle.std.proofs.Common.{◌≡◌, ◌*◌, ◌<◌, ◌^◌}
use Rattle.floor_calls.specs.Registers.{part_bits}
use Rattle.floor_calls.specs.Calls.{part_value}
use Rattle.ideal_guest.specs.Ideal.{view_of}
use Rattle.ideal_guest.proofs.guest.IdealGuest.part_value.Given as goal

-- the parts so far
abbrev pub invariant-loop-number : goal.invariant-loop-number
invariant-loop-number l =
    record {
      so_far : l.value ≡ part_value l.self.shape (view_of l.self) l.frame l.kind l.first l.number;
      below : l.value < 2 ^ (l.number * part_bits l.kind);
    }
