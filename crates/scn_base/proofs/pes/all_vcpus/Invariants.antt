use Rattle.std.proofs.Common.{◌≡◌, ◌++◌, drop}
use Rattle.scn_base.specs.Standing.{vcpus_from}
use Rattle.gic_guest.specs.Good.{shapes_of}
use Rattle.scn_base.proofs.pes.all_vcpus.Given as goal

-- the vCPUs so far and those of the guests that are left are all
abbrev pub invariant-loop-guest : goal.invariant-loop-guest
invariant-loop-guest l = l.names ++ vcpus_from l.guest (shapes_of (drop l.guest l.guests)) ≡ vcpus_from 0 (shapes_of l.guests)
