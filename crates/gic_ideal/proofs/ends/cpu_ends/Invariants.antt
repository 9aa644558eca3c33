use Rattle.std.proofs.Common.{◌≡◌}
use Rattle.gic_ideal.specs.Ends.{cpu_end, is_same_cpu_end, changed}
use Rattle.gic_ideal.proofs.ends.cpu_ends.Given as goal

-- the changed ends so far
abbrev pub invariant-loop-vcpu : goal.invariant-loop-vcpu
invariant-loop-vcpu l =
    record {
      end : l.vcpu-end ≡ l.opened.shape.vcpus;
      so_far : l.ends ≡ changed is_same_cpu_end (cpu_end l.opened) (cpu_end l.closed) l.vcpu;
    }
