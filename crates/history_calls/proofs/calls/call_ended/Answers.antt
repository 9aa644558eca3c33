use Rattle.std.proofs.Common.{◌↔◌, Bool, IsTrue, sym, ◌∙◌}
use Rattle.std.proofs.lemmas.Result.{IfOk-weaker}
use Rattle.history_calls.specs.Histories.{Call, IsEndedAs}
use Rattle.history_calls.specs.Exact.{IsCallOf, IsMade}
use Rattle.history_calls.specs.Found.{found_by}
use Rattle.history_calls.proofs.RecordLemmas.{records_found}
use Rattle.history_calls.proofs.CallLemmas.{ended_by_other, ended_decided}
use Rattle.history_calls.proofs.calls.call_ended.Goals as goal

pub returns-then-not-is_doer : goal.returns-then-not-is_doer
returns-then-not-is_doer c = record { value = ended_by_other c.args.shape.now c.args.actor c.args.operation.now c.args.piece.now c.is_doer.result c.args.answer (sym c.is_doer.ensures ∙ c.if-not-is_doer.true) }

pub returns : goal.returns
returns c =
    let shape = c.args.shape.now in
    let operation = c.args.operation.now in
    let piece = c.args.piece.now in
    record {
      value =
          IfOk-weaker c.is_made.result (λ made. IsTrue made ↔ IsMade shape c.args.actor (found_by piece) operation piece c.args.answer) (λ ended. (call : Call) (signals : Bool) → IsCallOf operation piece call → IsTrue ended ↔ IsEndedAs signals shape c.args.actor call c.args.answer)
          (λ made so. ended_decided shape c.args.actor operation piece made c.requires.plain (sym c.is_doer.ensures ∙ c.if-not-is_doer.false) c.args.answer so) c.is_made.ensures;
    }

pub is_made-requires-clause-records : goal.is_made-requires-clause-records
is_made-requires-clause-records c = records_found c.args.shape.now c.args.piece.now c.requires.shape c.requires.records
