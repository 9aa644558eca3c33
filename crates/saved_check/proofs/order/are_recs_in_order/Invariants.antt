use Rattle.std.proofs.Common.{◌≡◌, ◌+◌, get_or}
use Rattle.std.specs.List.{AllAdjacentBelow}
use Rattle.std.specs.Ordering.{nat_cmp}
use Rattle.std.specs.declared.cmp.Ordering.TheVariants.{Less}
use Rattle.saved_guest.specs.ScnSaved.declared.state.RecState.{RecState}
use Rattle.saved_check.specs.Rows.{rec_place}
use Rattle.saved_check.proofs.order.are_recs_in_order.Given as goal

-- those so far rise, and the next may have any place after the last one
abbrev pub invariant-loop-rec : goal.invariant-loop-rec
invariant-loop-rec l =
    record {
      rising : AllAdjacentBelow (λ x y. nat_cmp (rec_place l.shape x) (rec_place l.shape y) ≡ Less) l.recs l.rec-index;
      next : (k : _) (d : RecState) → k + 1 ≡ l.rec-index → l.next ≡ rec_place l.shape (get_or l.recs k d) + 1;
      none : l.rec-index ≡ 0 → l.next ≡ 0;
    }
