-- All before a bit were marked.
use Rattle.std.proofs.Common.{◌≡◌, ◌-◌, ◌≤◌}
use Rattle.port_call.specs.Core.{index_bits, shape_of}
use Rattle.pe_loop.specs.Marking.{IsMarking}
use Rattle.pe_loop.proofs.scan.mark_rest.Given as goal

abbrev pub invariant-loop-bit : goal.invariant-loop-bit
invariant-loop-bit g l =
    record {
      shape : l.shape ≡ shape_of (g.P.Port.seen l.initial.port);
      vcpu : l.vcpu ≡ (g.P.Port.seen l.initial.port).actor;
      end : l.end ≡ index_bits l.shape;
      from : l.from ≤ l.end;
      marking : IsMarking (g.P.Port.seen l.initial.port) (g.P.Port.seen l.port) l.from;
    }

abbrev pub decreases-loop-bit : goal.decreases-loop-bit
decreases-loop-bit g l = l.end - l.from
