use Rattle.std.proofs.Common.{◌≡◌}
use Rattle.guest_memory.specs.Memory.{has_table}
use Rattle.guest_memory.proofs.memory.is_first.Given as goal

-- whether one of the vCPUs so far has the table
abbrev pub invariant-loop-other : goal.invariant-loop-other
invariant-loop-other l = l.is_shared ≡ has_table l.bases l.address l.other
