-- The first operations are done.
use Rattle.std.proofs.Common.{◌≡◌, length, take}
use Rattle.thr_trip.specs.Device.{Receives}
use Rattle.thr_trip.proofs.device.receive_all.Given as goal

abbrev pub invariant-loop-op : goal.invariant-loop-op
invariant-loop-op g l =
    record {
      end : l.op-index-end ≡ length l.script;
      so : Receives (take l.op-index l.script) (g.P.Port.seen l.initial.port) (g.P.Port.seen l.port);
    }
