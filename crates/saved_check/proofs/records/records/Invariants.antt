use Rattle.std.proofs.Common.{◌≡◌, fold, length, take}
use Rattle.saved_guest.specs.IdealGuests.Words.{interrupt_count}
use Rattle.saved_guest.specs.IdealGuests.Calls.{irqs_of}
use Rattle.saved_guest.specs.State.{with_rec}
use Rattle.saved_check.proofs.records.records.Given as goal

-- the records with those so far
abbrev pub invariant-loop-rec : goal.invariant-loop-rec
invariant-loop-rec l =
    record {
      so_far : l.irqs ≡ fold (with_rec l.guest.shape) (irqs_of l.guest) (take l.rec-index l.recs);
      each : length l.irqs ≡ interrupt_count l.guest.shape;
    }
