use Rattle.std.proofs.Common.{◌≡◌, Some, None, cond, sym, ap, ◌∙◌, arith}
use Rattle.std.specs.List.{filter_map, range_with_len}
use Rattle.history_commands.proofs.GicCall.RangeLemmas.{filter_map_pushed, filter_map_kept}
use Rattle.history_turns.specs.Risen.{touch_in}
use Rattle.history_turns.proofs.RiseLemmas.{touch_of}
use Rattle.history_turns.proofs.rise.touched_events.Goals.{then-is_touched+in_ok-push, else-is_touched}
use Rattle.history_turns.proofs.rise.touched_events.Goals as goal

pub returns : goal.returns
returns c =
    let same : c.loop-number.number ≡ c.args.shape.now.lpis = omega (arith, c.loop-number-test.false, c.loop-number.auto.number-end) in
    c.loop-number.invariant.so_far ∙ ap (λ n. filter_map (touch_in c.args.piece.now) (range_with_len 0 n)) same

pub loop-number-preserved : goal.loop-number-preserved
loop-number-preserved c =
    let n = c.loop-number.number in
    let at = touch_in c.args.piece.now in
    elim c.if-is_touched.branch [
      | then-is_touched+in_ok-push w ↦
          record {
            end = c.loop-number.invariant.end;
            so_far =
                rw w.events-is
                (filter_map_pushed at n c.loop-number.events _ _ c.loop-number.invariant.so_far w.in_ok-push.ensures.ok (ap (λ b. cond b (Some (touch_of n)) None) (sym c.is_touched.ensures ∙ w.if-is_touched.true)));
          }
      | else-is_touched w ↦
          record {
            end = c.loop-number.invariant.end;
            so_far = rw w.events-is (filter_map_kept at n c.loop-number.events c.loop-number.invariant.so_far (ap (λ b. cond b (Some (touch_of n)) None) (sym c.is_touched.ensures ∙ w.if-is_touched.false)));
          }
    ]
