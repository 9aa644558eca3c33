use Rattle.std.proofs.Common.{◌∙◌, sym}
use Rattle.gic_ideal.specs.Ends.{irq_end, is_same_irq_end, changed_at}
use Rattle.ideal_guest.proofs.GicCall.RangeLemmas.{filter_map_pushed, filter_map_kept}
use Rattle.gic_ideal.proofs.ends.irq_ends.Goals as goal
use Rattle.gic_ideal.proofs.ends.irq_ends.Goals.{in-Some+in_ok-push, in_default}

pub loop-place-preserved : goal.loop-place-preserved
loop-place-preserved c =
    let at = changed_at is_same_irq_end (irq_end c.args.opened.now) (irq_end c.args.closed.now) in
    let n = c.loop-place.place in
    elim c.match-changed_irq.branch [
      | in-Some+in_ok-push w ↦
          record {
            end = c.interrupt_count-place-end.ensures.value;
            so_far = rw w.ends-is (filter_map_pushed at n c.loop-place.ends _ w.in-Some.end c.loop-place.invariant.so_far w.in_ok-push.ensures.ok (sym c.changed_irq.ensures ∙ w.in-Some.is));
          }
      | in_default w ↦ record { end = c.interrupt_count-place-end.ensures.value; so_far = rw w.ends-is (filter_map_kept at n c.loop-place.ends c.loop-place.invariant.so_far (sym c.changed_irq.ensures ∙ w.in_default.is)) }
    ]
