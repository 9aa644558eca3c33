use Rattle.std.proofs.Common.{◌≡◌, map, length}
use Rattle.std.specs.List.{range_with_len}
use Rattle.guest_end.specs.Home.{cpu_at_home}
use Rattle.guest_end.proofs.home.home_cpus.Given as goal

-- the CPU records so far
abbrev pub invariant-loop-vcpu : goal.invariant-loop-vcpu
invariant-loop-vcpu l =
    record {
      end : l.vcpu-end ≡ length l.words;
      so_far : l.list ≡ map (cpu_at_home l.words l.cpus) (range_with_len 0 l.vcpu);
    }
