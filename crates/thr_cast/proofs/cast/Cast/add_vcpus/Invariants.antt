-- The first vCPUs of the guest are there.
use Rattle.std.proofs.Common.{◌≡◌, []}
use Rattle.thr_trip.specs.PortTable.All.{told_root}
use Rattle.thr_trip.specs.PortTable.Told.{words_at}
use Rattle.thr_cast.specs.Cast.{HasCast}
use Rattle.thr_cast.specs.Split.{SplitTo}
use Rattle.thr_cast.proofs.cast.Cast.add_vcpus.Given as goal

abbrev pub invariant-loop-vcpu : goal.invariant-loop-vcpu
invariant-loop-vcpu g l =
    record {
      vcpus : l.vcpus ≡ (words_at g.J.Naming.words l.guest).guest.shape.vcpus;
      split : SplitTo g.J.Naming.words (told_root l.root) l.guest l.vcpu;
      cast : HasCast g.J.Naming.words l.self l.guest l.vcpu [];
    }
