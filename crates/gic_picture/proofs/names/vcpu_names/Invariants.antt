use Rattle.std.proofs.Common.{◌≡◌, ◌++◌, drop}
use Rattle.scn_base.specs.Standing.{vcpus_from}
use Rattle.gic_ideal.specs.Eager.{state_shapes}
use Rattle.gic_picture.proofs.names.vcpu_names.Given as goal

-- the vCPUs so far and those of the guests that are left are all
abbrev pub invariant-loop-number : goal.invariant-loop-number
invariant-loop-number l = l.names ++ vcpus_from l.number (state_shapes (drop l.number l.guests)) ≡ vcpus_from 0 (state_shapes l.guests)
