use Rattle.std.proofs.Common.{◌+◌, [], ◌∷◌, ◌++◌, ap, ◌∙◌}
use Rattle.trace_told.specs.Histories.{targets_in}
use Rattle.history_turns.specs.Noted.{seen_on}
use Rattle.gic_check.specs.Notes.{later_seen}
use Rattle.gic_check.proofs.LoopLemmas.{mapped_more}
use Rattle.gic_check.proofs.seen.later_seen.Goals as goal

pub loop-number-preserved : goal.loop-number-preserved
loop-number-preserved c =
    let id = 8192 + c.loop-number.number in
    mapped_more (later_seen c.args.state.now c.args.vcpu c.place_by-place.result c.args.noted.now) c.loop-number.number c.loop-number.all _ c.loop-number.invariant
    (c.in_ok-push.ensures.ok
    ∙ ap (λ x. c.loop-number.all ++ x ∷ [])
    (c.seen_on-seen.ensures
    ∙ (ap (λ t. seen_on c.args.vcpu c.place_by-place.result id t c.seen_at-before.result) c.target-of.ensures ∙ ap (seen_on c.args.vcpu c.place_by-place.result id (targets_in c.args.state.now id)) c.seen_at-before.ensures)))
