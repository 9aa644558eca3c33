use Rattle.std.proofs.Common.{◌∙◌, sym, refl}
use Rattle.saved_take.specs.Taken.{ram_at}
use Rattle.saved_guest.proofs.IdealGuests.GicCall.RangeLemmas.{filter_map_pushed, filter_map_kept}
use Rattle.saved_take.proofs.registers.rams.Goals as goal
use Rattle.saved_take.proofs.registers.rams.Goals.{in-Some+in_ok-push, in_default}

pub loop-index-preserved : goal.loop-index-preserved
loop-index-preserved c =
    let at = ram_at c.args.state.now in
    let n = c.loop-index.index in
    elim c.match-ram.branch [
      | in-Some+in_ok-push w ↦
          record {
            end = refl;
            so_far = rw w.words-is (filter_map_pushed at n c.loop-index.words _ w.in-Some.word c.loop-index.invariant.so_far w.in_ok-push.ensures.ok (sym c.ram.ensures ∙ w.in-Some.is));
          }
      | in_default w ↦ record { end = refl; so_far = rw w.words-is (filter_map_kept at n c.loop-index.words c.loop-index.invariant.so_far (sym c.ram.ensures ∙ w.in_default.is)) }
    ]
