-- The lines so far are shut.
use Rattle.std.proofs.Common.{◌≡◌}
use Rattle.port_call.specs.Core.{line_count, shape_of}
use Rattle.its_exec.proofs.ShutLemmas.{Shutting}
use Rattle.its_exec.proofs.lines.shut.Given as goal

abbrev pub invariant-loop-line : goal.invariant-loop-line
invariant-loop-line g l =
    record {
      end : l.line-end ≡ line_count (shape_of (g.P.Port.seen l.initial.port));
      so_far : Shutting (g.P.Port.seen l.initial.port) (g.P.Port.seen l.port) l.line;
    }
