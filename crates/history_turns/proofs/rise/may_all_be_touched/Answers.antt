use Rattle.std.proofs.Common.{sym, ◌∙◌, arith}
use Rattle.history_turns.specs.Risen.{may_be_touched}
use Rattle.history_turns.proofs.RiseLemmas.{all_range}
use Rattle.history_turns.proofs.RiseSteps.{not_all}
use Rattle.history_turns.proofs.rise.may_all_be_touched.Goals as goal

pub returns-then-not-may_be_touched : goal.returns-then-not-may_be_touched
returns-then-not-may_be_touched c =
    sym (not_all (may_be_touched c.args.shape.now c.args.noted.now c.args.piece.now) c.args.shape.now.lpis c.loop-number.number c.loop-number-test.true (sym c.may_be_touched.ensures ∙ c.if-not-may_be_touched.true))

pub returns : goal.returns
returns c = sym (all_range (may_be_touched c.args.shape.now c.args.noted.now c.args.piece.now) 0 c.args.shape.now.lpis (λ n low high. c.loop-number.invariant.so_far n (omega (arith, high, c.loop-number-test.false))))
