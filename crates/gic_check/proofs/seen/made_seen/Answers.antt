use Rattle.std.proofs.Common.{◌+◌, [], ◌∷◌, ◌++◌, ap, ◌∙◌}
use Rattle.history_turns.specs.Noted.{seen_anew}
use Rattle.gic_check.specs.Notes.{made_seen}
use Rattle.gic_check.proofs.LoopLemmas.{mapped_more}
use Rattle.gic_check.proofs.seen.made_seen.Goals as goal

pub loop-number-preserved : goal.loop-number-preserved
loop-number-preserved c =
    mapped_more (made_seen c.place_by-place.result c.args.event.now c.args.noted.now) c.loop-number.number c.loop-number.all _ c.loop-number.invariant
    (c.in_ok-push.ensures.ok ∙ ap (λ x. c.loop-number.all ++ x ∷ []) (c.seen_anew-seen.ensures ∙ ap (seen_anew c.place_by-place.result c.args.event.now (8192 + c.loop-number.number)) c.seen_at-before.ensures))
