use Rattle.std.proofs.Common.{◌∙◌, sym}
use Rattle.saved_take.specs.Taken.{rec_at}
use Rattle.saved_guest.proofs.IdealGuests.GicCall.RangeLemmas.{filter_map_pushed, filter_map_kept}
use Rattle.saved_take.proofs.rec.recs.Goals as goal
use Rattle.saved_take.proofs.rec.recs.Goals.{in-Some+in_ok-push, in_default}

pub loop-place-preserved : goal.loop-place-preserved
loop-place-preserved c =
    let at = rec_at c.args.opened.now c.args.wires.now c.args.state.now in
    let n = c.loop-place.place in
    elim c.match-changed.branch [
      | in-Some+in_ok-push w ↦
          record {
            end = c.interrupt_count-place-end.ensures.value;
            so_far = rw w.recs-is (filter_map_pushed at n c.loop-place.recs _ w.in-Some.rec c.loop-place.invariant.so_far w.in_ok-push.ensures.ok (sym c.changed.ensures ∙ w.in-Some.is));
          }
      | in_default w ↦ record { end = c.interrupt_count-place-end.ensures.value; so_far = rw w.recs-is (filter_map_kept at n c.loop-place.recs c.loop-place.invariant.so_far (sym c.changed.ensures ∙ w.in_default.is)) }
    ]
