use Rattle.std.proofs.Common.{◌↔◌, Bool, IsTrue, None, subst, sym, ◌∙◌}
use Rattle.std.proofs.lemmas.Result.{IfOk-weaker}
use Rattle.history_turns.specs.Histories.{Call, IsEndedAs}
use Rattle.history_turns.specs.HistoryCalls.Exact.{IsCallOf}
use Rattle.history_turns.specs.Noted.{IsNotedOf}
use Rattle.history_turns.proofs.JudgeLemmas.{ended_answered}
use Rattle.history_turns.proofs.calls.call_ended.Goals as goal

pub returns-then-is_plain : goal.returns-then-is_plain
returns-then-is_plain c = record {
  value =
      IfOk-weaker c.call_ended.result (λ ended. (call : Call) (signals : Bool) → IsCallOf c.args.operation.now c.args.piece.now call → IsTrue ended ↔ IsEndedAs signals c.args.shape.now c.args.actor call c.args.answer)
      (λ ended. (call : Call) → IsNotedOf c.args.shape.now c.args.operation.now c.args.piece.now c.args.noted.now call → IsTrue ended ↔ IsEndedAs c.args.noted.now.signals c.args.shape.now c.args.actor call c.args.answer)
      (λ ended so call is. so call c.args.noted.now.signals is.of) c.call_ended.ensures.value;
}

pub returns-in-Some : goal.returns-in-Some
returns-in-Some c = record { value = ended_answered c.args.shape.now c.args.actor c.args.operation.now c.args.piece.now c.args.noted.now (sym c.is_plain.ensures ∙ c.if-is_plain.false) c.args.answer _ c.in-Some.is }

pub returns-in-None : goal.returns-in-None
returns-in-None c = record {
  value =
      IfOk-weaker c.turn_ended.result (λ ended. (call : Call) → IsNotedOf c.args.shape.now c.args.operation.now c.args.piece.now c.args.noted.now call → IsTrue ended ↔ IsEndedAs c.args.noted.now.signals c.args.shape.now c.args.actor call None)
      (λ ended. (call : Call) → IsNotedOf c.args.shape.now c.args.operation.now c.args.piece.now c.args.noted.now call → IsTrue ended ↔ IsEndedAs c.args.noted.now.signals c.args.shape.now c.args.actor call c.args.answer)
      (λ ended so call is. subst (λ a. IsTrue ended ↔ IsEndedAs c.args.noted.now.signals c.args.shape.now c.args.actor call a) (sym c.in-None.is) (so call is)) c.turn_ended.ensures;
}
