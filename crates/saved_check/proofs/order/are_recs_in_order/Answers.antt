use Rattle.std.proofs.Common.{refl, arith}
use Rattle.std.specs.Cmp.{nat_cmp_total}
use Rattle.saved_check.specs.Rows.{rec_place}
use Rattle.saved_check.proofs.OrderLemmas.{sorted_if_rising}
use Rattle.saved_check.proofs.RecOrder.{fallen}
use Rattle.saved_check.proofs.order.are_recs_in_order.Goals as goal

pub returns-then-place-next : goal.returns-then-place-next
returns-then-place-next c = (
  λ e. absurd (cc),
  λ sorted. absurd (fallen c.args.shape.now c.args.recs.now c.loop-rec.rec-index c.loop-rec.next _ c.loop-rec.invariant.next c.loop-rec.invariant.none (omega arith) c.place_of-place.result c.place_of-place.ensures.value (omega arith) sorted),
)

pub returns : goal.returns
returns c = (λ e. sorted_if_rising nat_cmp_total (rec_place c.args.shape.now) c.args.recs.now (λ k d below. c.loop-rec.invariant.rising k d (omega arith)), λ sorted. refl)
