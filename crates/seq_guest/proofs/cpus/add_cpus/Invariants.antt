-- The records so far.
use Rattle.std.proofs.Common.{◌≡◌, ◌++◌, map}
use Rattle.std.specs.List.{range_with_len}
use Rattle.port_seq.specs.Ports.{told}
use Rattle.seq_guest.specs.Guest.{seen_by}
use Rattle.seq_guest.proofs.cpus.add_cpus.Given as goal

abbrev pub invariant-loop-vcpu : goal.invariant-loop-vcpu
invariant-loop-vcpu l =
    (told l.port ≡ record (told l.initial.port) { actor = (told l.port).actor })
    × (l.cpus ≡ l.initial.cpus ++ map (λ vcpu. (seen_by (told l.initial.port) vcpu).local.cpu) (range_with_len 0 l.vcpu))
    × (l.vcpu-end ≡ (told l.initial.port).guest.shape.vcpus)
