use Rattle.std.proofs.Common.{◌≡◌, take, length}
use Rattle.saved_guest.specs.IdealGuests.Words.{interrupt_count}
use Rattle.saved_guest.specs.Standing.{wires_of}
use Rattle.saved_check.proofs.stand.wires.Given as goal

-- the wires with those so far
abbrev pub invariant-loop-rec : goal.invariant-loop-rec
invariant-loop-rec l =
    record {
      so_far : l.wires ≡ wires_of l.shape (take l.rec-index l.recs);
      each : length l.wires ≡ interrupt_count l.shape;
    }
