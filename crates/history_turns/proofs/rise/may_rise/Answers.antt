use Rattle.std.proofs.Common.{◌↔◌, ◌-◌, IsTrue, Some, true, false, take, drop, length, sym, ap, ◌∙◌}
use Rattle.std.proofs.lemmas.Result.{IfOk-weaker}
use Rattle.history_turns.specs.Risen.{IsRising, MayRise}
use Rattle.history_turns.proofs.NamedLemmas.{none_left, some_left}
use Rattle.history_turns.proofs.RiseSteps.{may_none, may_other, may_so_far}
use Rattle.history_turns.proofs.rise.may_rise.Goals as goal

pub returns-then-is_empty : goal.returns-then-is_empty
returns-then-is_empty c = may_none c.args.shape.now c.args.actor c.args.vcpu c.args.noted.now c.args.piece.now c.from_named-from.result.now c.from_named-from.ensures (none_left c.from_named-from.result.now c.is_empty.result c.is_empty.ensures c.if-is_empty.true)

pub returns-in_default : goal.returns-in_default
returns-in_default c = may_other c.args.shape.now c.args.actor c.args.vcpu c.args.noted.now c.args.piece.now c.from_named-from.result.now c.from_named-from.ensures c.index-from-0.result (take (length c.from_named-from.result.now - 1) (drop 1 c.from_named-from.result.now)) (some_left c.from_named-from.result.now c.index-from-0.result c.is_empty.result c.is_empty.ensures c.if-is_empty.false c.index-from-0.is) (sym c.stored_in.ensures ∙ c.in_default.is)

pub returns-then-is_on : goal.returns-then-is_on
returns-then-is_on c =
    may_so_far c.args.shape.now c.args.actor c.args.vcpu c.args.noted.now c.args.piece.now c.from_named-from.result.now c.from_named-from.ensures c.index-from-0.result (take (length c.from_named-from.result.now - 1) (drop 1 c.from_named-from.result.now)) true (some_left c.from_named-from.result.now c.index-from-0.result c.is_empty.result c.is_empty.ensures c.if-is_empty.false c.index-from-0.is) (sym c.stored_in.ensures ∙ c.in-Some.is ∙ ap Some c.if-is_on.true) c.is_idle.result (λ h. sym c.is_idle.ensures ∙ h, λ h. c.is_idle.ensures ∙ h)

pub returns : goal.returns
returns c =
    IfOk-weaker c.is_rising.result (λ rising. IsTrue rising ↔ IsRising c.args.shape.now c.args.actor c.args.noted.now (take (length c.from_named-from.result.now - 1) (drop 1 c.from_named-from.result.now))) (λ rising. IsTrue rising ↔ MayRise c.args.shape.now c.args.actor c.args.vcpu c.args.noted.now c.args.piece.now)
    (λ rising is. may_so_far c.args.shape.now c.args.actor c.args.vcpu c.args.noted.now c.args.piece.now c.from_named-from.result.now c.from_named-from.ensures c.index-from-0.result (take (length c.from_named-from.result.now - 1) (drop 1 c.from_named-from.result.now)) false (some_left c.from_named-from.result.now c.index-from-0.result c.is_empty.result c.is_empty.ensures c.if-is_empty.false c.index-from-0.is) (sym c.stored_in.ensures ∙ c.in-Some.is ∙ ap Some c.if-is_on.false) rising is) c.is_rising.ensures
