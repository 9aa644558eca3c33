-- The line is closed, and then looked at.
use Rattle.std.proofs.Common.{ap, ◌∙◌}
use Rattle.std.proofs.lemmas.Bool.{ne_eqb}
use Rattle.port_call.specs.Core.{line_of}
use Rattle.its_exec.proofs.ShutLemmas.{can_close, closed_left, left_looks, left_then_shut, shut_looks}
use Rattle.its_exec.proofs.lines.shut_line.Goals as goal

pub step-closed-requires : goal.step-closed-requires
step-closed-requires g c = can_close (g.P.Port.seen c.args.port.now) c.args.line c.requires.turn c.requires.there

pub returns-then-finds_empty : goal.returns-then-finds_empty
returns-then-finds_empty g c =
    let old = g.P.Port.seen c.args.port.now in
    let mid = g.P.Port.seen c.step-closed.new.self in
    let new = g.P.Port.seen c.finds_empty.new.port in
    left_then_shut old mid new c.args.line
    (closed_left old mid c.args.line c.step-closed.result (ne_eqb (line_of c.step-closed.result).inside 0 (λ e. c.if-of-eq0.false (ap (λ line. line.inside) c.of.ensures.value ∙ e))) c.step-closed.ensures.adds)
    (shut_looks mid (g.P.Port.seen c.loop.port) new c.args.line c.finds_empty.result c.if-finds_empty.true c.loop.invariant.2 c.finds_empty.ensures)

pub loop-preserved : goal.loop-preserved
loop-preserved g c =
    (tt, tt, left_looks (g.P.Port.seen c.step-closed.new.self) (g.P.Port.seen c.loop.port) (g.P.Port.seen c.finds_empty.new.port) c.args.line c.finds_empty.result c.if-finds_empty.false c.loop.invariant.2 c.finds_empty.ensures)
