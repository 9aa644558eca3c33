use Rattle.std.proofs.Common.{◌≡◌}
use Rattle.saved_guest.specs.IdealGuests.Words.{interrupt_count}
use Rattle.saved_take.specs.Taken.{recs_of}
use Rattle.saved_take.proofs.rec.recs.Given as goal

-- the interrupts so far
abbrev pub invariant-loop-place : goal.invariant-loop-place
invariant-loop-place l =
    record {
      end : l.place-end ≡ interrupt_count l.state.shape;
      so_far : l.recs ≡ recs_of l.opened l.wires l.state l.place;
    }
