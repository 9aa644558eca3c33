use Rattle.std.proofs.Common.{◌∙◌, sym}
use Rattle.gic_lr.specs.Status.{is_empty}
use Rattle.gic_lr.proofs.StatusLemmas.{kept_set, kept_clear}
use Rattle.gic_lr.proofs.status.elrsr.Goals as goal
use Rattle.gic_lr.proofs.status.elrsr.Goals.{then-is_empty, else-is_empty}

pub loop-place-preserved : goal.loop-place-preserved
loop-place-preserved c =
    elim c.if-is_empty.branch [
      | then-is_empty w ↦
          kept_set is_empty c.args.lrs.now c.loop-place.place c.loop-place.bits c.if-is_empty.bits c.requires c.loop-place-test.true c.loop-place.invariant (sym c.is_empty.ensures ∙ w.if-is_empty.true) w.bits-is
      | else-is_empty w ↦ kept_clear is_empty c.args.lrs.now c.loop-place.place c.loop-place.bits c.if-is_empty.bits c.loop-place-test.true c.loop-place.invariant (sym c.is_empty.ensures ∙ w.if-is_empty.false) w.bits-is
    ]
