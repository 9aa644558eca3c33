use Rattle.std.proofs.Common.{[], ◌∷◌, ◌++◌, ap, ◌∙◌}
use Rattle.history_turns.specs.Noted.{nothing_seen, with_target}
use Rattle.gic_check.specs.Notes.{first_seen}
use Rattle.gic_check.proofs.LoopLemmas.{mapped_more}
use Rattle.gic_check.proofs.seen.first_seen.Goals as goal

pub loop-number-preserved : goal.loop-number-preserved
loop-number-preserved c =
    mapped_more (first_seen c.args.state.now c.args.vcpu) c.loop-number.number c.loop-number.all _ c.loop-number.invariant
    (c.in_ok-push.ensures.ok ∙ ap (λ x. c.loop-number.all ++ x ∷ []) (c.with_target-seen.ensures ∙ ap (λ t. with_target c.args.vcpu t nothing_seen) c.target-of.ensures))
