use Rattle.std.proofs.Common.{◌+◌, [], ◌∷◌, ◌++◌, ap, ◌∙◌}
use Rattle.trace_told.specs.Histories.{targets_in}
use Rattle.gic_check.proofs.LoopLemmas.{mapped_more}
use Rattle.gic_check.proofs.its.targets_now.Goals as goal

pub loop-number-preserved : goal.loop-number-preserved
loop-number-preserved c =
    mapped_more (λ number. targets_in c.args.state.now (8192 + number)) c.loop-number.number c.loop-number.all _ c.loop-number.invariant (c.in_ok-push.ensures.ok ∙ ap (λ x. c.loop-number.all ++ x ∷ []) c.target-of.ensures)
