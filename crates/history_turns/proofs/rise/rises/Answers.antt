use Rattle.std.proofs.Common.{◌↔◌, ◌-◌, IsTrue, take, drop, length, sym, ◌∙◌}
use Rattle.std.proofs.lemmas.Result.{IfOk-weaker}
use Rattle.history_turns.specs.Risen.{IsRisen, Rises}
use Rattle.history_turns.proofs.NamedLemmas.{none_left, some_left}
use Rattle.history_turns.proofs.RiseSteps.{rises_none, rises_other, rises_so_far}
use Rattle.history_turns.proofs.rise.rises.Goals as goal

pub returns-then-is_empty : goal.returns-then-is_empty
returns-then-is_empty c = rises_none c.args.shape.now c.args.actor c.args.vcpu c.args.noted.now c.args.piece.now c.from_named-from.result.now c.from_named-from.ensures (none_left c.from_named-from.result.now c.is_empty.result c.is_empty.ensures c.if-is_empty.true)

pub returns-in_default : goal.returns-in_default
returns-in_default c = rises_other c.args.shape.now c.args.actor c.args.vcpu c.args.noted.now c.args.piece.now c.from_named-from.result.now c.from_named-from.ensures c.index-from-0.result (take (length c.from_named-from.result.now - 1) (drop 1 c.from_named-from.result.now)) (some_left c.from_named-from.result.now c.index-from-0.result c.is_empty.result c.is_empty.ensures c.if-is_empty.false c.index-from-0.is) (sym c.stored_in.ensures ∙ c.in_default.is)

pub returns : goal.returns
returns c =
    IfOk-weaker c.is_risen.result (λ risen. IsTrue risen ↔ IsRisen c.args.shape.now c.args.actor c.args.vcpu c.args.noted.now c.in-Some.is_on (take (length c.from_named-from.result.now - 1) (drop 1 c.from_named-from.result.now))) (λ risen. IsTrue risen ↔ Rises c.args.shape.now c.args.actor c.args.vcpu c.args.noted.now c.args.piece.now)
    (λ risen is. rises_so_far c.args.shape.now c.args.actor c.args.vcpu c.args.noted.now c.args.piece.now c.from_named-from.result.now c.from_named-from.ensures c.index-from-0.result (take (length c.from_named-from.result.now - 1) (drop 1 c.from_named-from.result.now)) c.in-Some.is_on (some_left c.from_named-from.result.now c.index-from-0.result c.is_empty.result c.is_empty.ensures c.if-is_empty.false c.index-from-0.is) (sym c.stored_in.ensures ∙ c.in-Some.is) risen is) c.is_risen.ensures
