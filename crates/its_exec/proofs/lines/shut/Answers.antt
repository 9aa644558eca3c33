-- One line after the other.
use Rattle.std.proofs.Common.{◌≡◌, rules, ◌∙◌}
use Rattle.its_exec.proofs.ShutLemmas.{shutting_all, shutting_more}
use Rattle.its_exec.proofs.lines.shut.Goals as goal

pub loop-line-preserved : goal.loop-line-preserved
loop-line-preserved g c =
    record {
      end = c.loop-line.invariant.end;
      so_far = shutting_more (g.P.Port.seen c.args.port.now) (g.P.Port.seen c.loop-line.port) (g.P.Port.seen c.shut_line.new.port) c.loop-line.line c.loop-line.invariant.so_far c.shut_line.ensures;
    }

pub returns : goal.returns
returns g c =
    let over : c.loop-line.line ≡ c.line_count-line-end.result = search rules in
    shutting_all (g.P.Port.seen c.args.port.now) (g.P.Port.seen c.loop-line.port) c.loop-line.line (g.P.Port.is_port c.loop-line.port) c.requires.lpis (over ∙ c.loop-line.invariant.end) c.loop-line.invariant.so_far
