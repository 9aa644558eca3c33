use Rattle.std.proofs.Common.{◌≡◌, ◌++◌}
use Rattle.std.specs.List.{filter_map, range_with_len}
use Rattle.history_calls.specs.Calls.{sgi_at}
use Rattle.history_calls.proofs.events.push_sgis.Given as goal

-- the SGIs at the vCPUs so far
abbrev pub invariant-loop-vcpu : goal.invariant-loop-vcpu
invariant-loop-vcpu l =
    record {
      end : l.vcpu-end ≡ l.shape.vcpus;
      so_far : l.events ≡ l.fn.events ++ filter_map (sgi_at l.value l.sender) (range_with_len 0 l.vcpu);
    }
