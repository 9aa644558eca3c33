-- One more guest has all its actors.
use Rattle.thr_trip.specs.PortTable.All.{told_root}
use Rattle.thr_cast.proofs.ComingLemmas.{guest_came}
use Rattle.thr_cast.proofs.SplitLemmas.{split_next}
use Rattle.std.proofs.Common.{◌<◌, subst}
use Rattle.thr_cast.proofs.cast.Cast.of.Goals as goal

pub loop-guest-preserved : goal.loop-guest-preserved
loop-guest-preserved g c =
    let words = g.J.Naming.words in
    let guest = c.loop-guest.guest in
    let there = subst (λ n. guest < n) c.loop-guest.invariant.end c.loop-guest-test.true in
    record {
      end = c.loop-guest.invariant.end;
      split = split_next words (told_root c.add_devices.new.root) guest c.in_ok-add_devices.ensures.root;
      cast = guest_came words guest c.add_devices.new.self there (c.requires.set.number guest there) c.in_ok-add_devices.ensures.cast;
    }
