use Rattle.std.proofs.Common.{sym, arith}
use Rattle.serde_json.specs.View.{view}
use Rattle.trace_read.proofs.EventLemmas.{events_more}
use Rattle.trace_read.proofs.read.events.Goals as goal

pub loop-index-preserved : goal.loop-index-preserved
loop-index-preserved c =
    rw c.in_ok-push-in-Ok.ensures.ok
    (events_more view c.args.shape.now c.args.values.now c.loop-index.events c.args.first c.loop-index.index c.index-values-index.result (omega arith) c.index-values-index.is _ c.loop-index.invariant c.in-Ok.event (sym c.in-Ok.ensures))
