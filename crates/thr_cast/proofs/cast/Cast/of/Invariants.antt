-- The first guests have all their actors.
use Rattle.std.proofs.Common.{◌≡◌, length, []}
use Rattle.thr_trip.specs.PortTable.All.{told_root}
use Rattle.thr_cast.specs.Cast.{HasCast}
use Rattle.thr_cast.specs.Split.{SplitTo}
use Rattle.thr_cast.proofs.cast.Cast.of.Given as goal

abbrev pub invariant-loop-guest : goal.invariant-loop-guest
invariant-loop-guest g l =
    record {
      end : l.guest-end ≡ length g.J.Naming.words;
      split : SplitTo g.J.Naming.words (told_root l.root) l.guest 0;
      cast : HasCast g.J.Naming.words l.cast l.guest 0 [];
    }
