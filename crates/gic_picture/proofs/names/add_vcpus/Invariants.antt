use Rattle.std.proofs.Common.{◌≡◌, ◌++◌, map}
use Rattle.std.specs.List.{range_with_len}
use Rattle.scn_base.specs.Standing.{vcpu_name}
use Rattle.gic_picture.proofs.names.add_vcpus.Given as goal

-- the vCPUs so far
abbrev pub invariant-loop-vcpu : goal.invariant-loop-vcpu
invariant-loop-vcpu l = l.names ≡ l.initial.names ++ map (vcpu_name l.guest) (range_with_len 0 l.vcpu)
