use Rattle.std.proofs.Common.{◌≡◌, Some, None, true, false, cond, sym, ap, ◌∙◌, arith}
use Rattle.std.specs.List.{filter_map, range_with_len}
use Rattle.history_commands.proofs.GicCall.RangeLemmas.{filter_map_pushed, filter_map_kept}
use Rattle.history_turns.specs.Risen.{rising_by}
use Rattle.history_turns.proofs.RiseLemmas.{touch_of, touch_if, rises}
use Rattle.history_turns.proofs.RiseSteps.{rises_so, risen_events}
use Rattle.history_turns.proofs.rise.rising_events.Goals.{then-is_pended+in_ok-push, else-is_pended}
use Rattle.history_turns.proofs.rise.rising_events.Goals as goal

pub returns-then-stays : goal.returns-then-stays
returns-then-stays c = c.new-events.ensures ∙ sym (risen_events c.args.shape.now c.args.piece.now c.args.is_on c.args.vcpu true (sym c.stays.ensures ∙ c.if-stays.true))

pub returns : goal.returns
returns c =
    let same : c.loop-number.number ≡ c.args.shape.now.lpis = omega (arith, c.loop-number-test.false, c.loop-number.auto.number-end) in
    c.loop-number.invariant.so_far ∙ ap (λ n. filter_map (touch_if (rises c.args.shape.now c.args.vcpu (rising_by c.args.is_on c.args.vcpu c.args.piece.now))) (range_with_len 0 n)) same
    ∙ sym (risen_events c.args.shape.now c.args.piece.now c.args.is_on c.args.vcpu false (sym c.stays.ensures ∙ c.if-stays.false))

pub loop-number-preserved : goal.loop-number-preserved
loop-number-preserved c =
    let n = c.loop-number.number in
    let at = touch_if (rises c.args.shape.now c.args.vcpu (rising_by c.args.is_on c.args.vcpu c.args.piece.now)) in
    let so = rises_so c.args.shape.now c.args.piece.now c.args.is_on c.args.vcpu n c.is_pended.result (c.is_pended.ensures c.args.is_on) in
    elim c.if-is_pended.branch [
      | then-is_pended+in_ok-push w ↦
          record {
            end = c.loop-number.invariant.end;
            so_far =
                rw w.events-is
                (filter_map_pushed at n c.loop-number.events _ _ c.loop-number.invariant.so_far w.in_ok-push.ensures.ok (ap (λ b. cond b (Some (touch_of n)) None) (so ∙ w.if-is_pended.true)));
          }
      | else-is_pended w ↦
          record {
            end = c.loop-number.invariant.end;
            so_far = rw w.events-is (filter_map_kept at n c.loop-number.events c.loop-number.invariant.so_far (ap (λ b. cond b (Some (touch_of n)) None) (so ∙ w.if-is_pended.false)));
          }
    ]
