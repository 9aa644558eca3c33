use Rattle.std.proofs.Common.{◌↔◌, Bool, IsTrue}
use Rattle.std.proofs.lemmas.Result.{IfOk-weaker}
use Rattle.history_turns.specs.Histories.{Call}
use Rattle.history_turns.specs.LegalLists.Legal.{IsBegun}
use Rattle.history_turns.specs.HistoryCalls.Exact.{IsCallOf}
use Rattle.history_turns.specs.Noted.{IsNotedOf}
use Rattle.history_turns.proofs.calls.call_begun.Goals as goal

pub returns-then-is_plain : goal.returns-then-is_plain
returns-then-is_plain c = record {
  value =
      IfOk-weaker c.call_begun.result (λ begun. (call : Call) (signals : Bool) → IsCallOf c.args.operation.now c.args.piece.now call → IsTrue begun ↔ IsBegun signals c.args.shape.now c.args.actor call)
      (λ begun. (call : Call) → IsNotedOf c.args.shape.now c.args.operation.now c.args.piece.now c.args.noted.now call → IsTrue begun ↔ IsBegun c.args.noted.now.signals c.args.shape.now c.args.actor call)
      (λ begun so call is. so call c.args.noted.now.signals is.of) c.call_begun.ensures.value;
}
