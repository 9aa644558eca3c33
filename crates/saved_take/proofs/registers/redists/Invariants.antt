use Rattle.std.proofs.Common.{◌≡◌, map}
use Rattle.std.specs.List.{range_with_len}
use Rattle.saved_take.specs.Taken.{redist_state}
use Rattle.saved_take.proofs.registers.redists.Given as goal

-- those so far
abbrev pub invariant-loop-vcpu : goal.invariant-loop-vcpu
invariant-loop-vcpu l =
    record {
      end : l.vcpu-end ≡ l.state.shape.vcpus;
      so_far : l.redists ≡ map (redist_state l.state) (range_with_len 0 l.vcpu);
    }
