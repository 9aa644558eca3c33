-- The records of the first guests.
use Rattle.std.proofs.Common.{◌≡◌, take}
use Rattle.std.specs.List.{flat_map}
use Rattle.law_one_thread_is_eager.specs.PortSeq.Ports.{told_all}
use Rattle.law_one_thread_is_eager.specs.SeqGuest.Guest.{cpus_of}
use Rattle.run_seq.specs.Run.{SamePorts}
use Rattle.run_seq.proofs.scheduled.all_cpus.Given as goal

abbrev pub invariant-loop-guest : goal.invariant-loop-guest
invariant-loop-guest l =
    SamePorts (told_all l.initial.port) (told_all l.port)
    × (l.cpus ≡ flat_map cpus_of (take l.guest (told_all l.initial.port).guests))
