use Rattle.std.proofs.Common.{sym, arith}
use Rattle.serde_json.specs.View.{view}
use Rattle.gic_host.proofs.StepLemmas.{steps_more}
use Rattle.gic_host.proofs.reading.steps.Goals as goal

pub loop-index-preserved : goal.loop-index-preserved
loop-index-preserved c =
    rw (c.in_ok-push-in-Ok.ensures.ok, c.loaded_after-loaded.ensures)
    (steps_more view c.args.links.now c.args.vcpus c.loop-index.loaded c.args.values.now c.loop-index.steps c.loop-index.index c.index-values-index.result (omega arith) c.index-values-index.is _ c.loop-index.invariant
    c.in-Ok.step (sym c.in-Ok.ensures))
