use Rattle.std.proofs.Common.{◌≡◌, ◌<◌, ℕ, length, get_or}
use Rattle.guest_memory.specs.Wants.{no_span, table_span}
use Rattle.guest_memory.proofs.wants.spans_of_tables.Given as goal

-- the spans of the vCPUs so far
abbrev pub invariant-loop-vcpu : goal.invariant-loop-vcpu
invariant-loop-vcpu l =
    record {
      long : length l.spans ≡ 32;
      each : (i : ℕ) → i < l.vcpu → get_or l.spans i no_span ≡ table_span l.guest l.bases l.commands i;
    }
