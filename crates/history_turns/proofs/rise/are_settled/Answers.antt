use Rattle.std.proofs.Common.{◌≡◌, true, ◌||◌, sym, ap₂, ◌∙◌, arith}
use Rattle.std.proofs.lemmas.Bool.{or_right}
use Rattle.std.specs.List.{list_all, range_with_len}
use Rattle.history_turns.specs.Risen.{stays, is_settled}
use Rattle.history_turns.proofs.RiseLemmas.{all_range}
use Rattle.history_turns.proofs.RiseSteps.{below_more, not_all}
use Rattle.history_turns.proofs.rise.are_settled.Goals as goal

pub returns-then-not-is_settled : goal.returns-then-not-is_settled
returns-then-not-is_settled c =
    sym
    (ap₂ (λ a b. a || b) (sym c.stays.ensures ∙ c.if-stays.false)
    (not_all (is_settled c.args.shape.now c.args.is_on c.args.vcpu c.args.noted.now c.args.piece.now) c.args.shape.now.lpis c.loop-number.number c.loop-number-test.true (sym (c.is_settled.ensures c.args.is_on) ∙ c.if-not-is_settled.true)))

pub returns : goal.returns
returns c =
    sym
    (or_right (stays c.args.is_on c.args.vcpu c.args.piece.now) (list_all (is_settled c.args.shape.now c.args.is_on c.args.vcpu c.args.noted.now c.args.piece.now) (range_with_len 0 c.args.shape.now.lpis))
    (all_range (is_settled c.args.shape.now c.args.is_on c.args.vcpu c.args.noted.now c.args.piece.now) 0 c.args.shape.now.lpis (λ n low high. c.loop-number.invariant.so_far n (omega (arith, high, c.loop-number-test.false)))))

pub loop-number-preserved : goal.loop-number-preserved
loop-number-preserved c = record {
  end = c.loop-number.invariant.end;
  so_far =
      below_more (λ n. is_settled c.args.shape.now c.args.is_on c.args.vcpu c.args.noted.now c.args.piece.now n ≡ true) c.loop-number.number c.loop-number.invariant.so_far (sym (c.is_settled.ensures c.args.is_on) ∙ c.if-not-is_settled.false);
}
