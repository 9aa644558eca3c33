use Rattle.std.proofs.Common.{◌≡◌, drop}
use Rattle.port_core.specs.Local.{with_all as set_with_all}
use Rattle.port_core.proofs.owed.with_all.Given as goal

-- the set so far with the rest is the set with all
abbrev pub invariant-loop-vcpu : goal.invariant-loop-vcpu
invariant-loop-vcpu l = set_with_all l.all (drop l.vcpu-index l.vcpus) ≡ set_with_all l.fn.set l.vcpus
