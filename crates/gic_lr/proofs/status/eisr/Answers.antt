use Rattle.std.proofs.Common.{◌∙◌, sym}
use Rattle.gic_lr.specs.Status.{has_ended}
use Rattle.gic_lr.proofs.StatusLemmas.{kept_set, kept_clear}
use Rattle.gic_lr.proofs.status.eisr.Goals as goal
use Rattle.gic_lr.proofs.status.eisr.Goals.{then-ended, else-ended}

pub loop-place-preserved : goal.loop-place-preserved
loop-place-preserved c =
    elim c.if-ended.branch [
      | then-ended w ↦
          kept_set has_ended c.args.lrs.now c.loop-place.place c.loop-place.bits c.if-ended.bits c.requires c.loop-place-test.true c.loop-place.invariant (sym c.ended.ensures ∙ w.if-ended.true) w.bits-is
      | else-ended w ↦ kept_clear has_ended c.args.lrs.now c.loop-place.place c.loop-place.bits c.if-ended.bits c.loop-place-test.true c.loop-place.invariant (sym c.ended.ensures ∙ w.if-ended.false) w.bits-is
    ]
