use Rattle.std.proofs.Common.{sym, arith}
use Rattle.serde_json.specs.View.{view}
use Rattle.scn_read.specs.Step.{step_said}
use Rattle.scn_read.proofs.NarrowLemmas.{said_is_clean}
use Rattle.scn_read.proofs.StepLemmas.{steps_more}
use Rattle.scn_read.proofs.reading.steps.Goals as goal

pub follow-requires-clause-good : goal.follow-requires-clause-good
follow-requires-clause-good c = (c.args.mode, said_is_clean c.args.mode c.loop-index.standing (step_said (view c.index-values-index.result)) c.in-Ok.step c.in-Ok.ensures)

pub loop-index-preserved : goal.loop-index-preserved
loop-index-preserved c =
    record {
      fine = c.follow.ensures.fine;
      steps = rw (c.in_ok-push-in-Ok.ensures.ok, c.follow.ensures.value)
          (steps_more view c.args.mode c.loop-index.standing c.args.values.now c.loop-index.steps c.args.first c.loop-index.index c.index-values-index.result (omega arith) c.index-values-index.is _ c.loop-index.invariant.steps
          c.in-Ok.step (sym c.in-Ok.ensures));
    }
