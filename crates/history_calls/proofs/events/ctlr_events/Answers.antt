use Rattle.std.proofs.Common.{◌++◌, ◌∷◌, [], map, refl, sym, ap, ◌∙◌}
use Rattle.std.specs.List.{range_with_len}
use Rattle.history_calls.specs.Calls.{Touch, Enables, CtlrBegin, copy_at}
use Rattle.legal_lists.proofs.GicCall.RangeLemmas.{map_pushed}
use Rattle.history_calls.proofs.events.ctlr_events.Goals as goal

pub loop-place-preserved : goal.loop-place-preserved
loop-place-preserved c =
    let enables = c.args.enables in
    let at = copy_at c.args.shape.now enables in
    let n = c.loop-place.place in
    record {
      end = c.loop-place.invariant.end;
      so_far =
          c.in_ok-push-2.ensures.ok ∙ ap (λ es. es ++ Touch c.key_at-key.result (Enables enables.group0 enables.group1) ∷ []) c.loop-place.invariant.so_far
          ∙ ap (λ es. CtlrBegin enables ∷ es) (map_pushed at n (map at (range_with_len 0 n)) _ _ refl refl (ap (λ key. Touch key (Enables enables.group0 enables.group1)) (sym c.key_at-key.ensures.value)));
    }
