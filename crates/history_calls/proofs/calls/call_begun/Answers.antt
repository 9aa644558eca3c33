use Rattle.std.proofs.Common.{◌↔◌, Bool, IsTrue, sym, ◌∙◌}
use Rattle.std.proofs.lemmas.Result.{IfOk-weaker}
use Rattle.history_calls.specs.Histories.{Call}
use Rattle.history_calls.specs.LegalLists.Legal.{IsBegun}
use Rattle.history_calls.specs.Exact.{IsCallOf, IsFirst}
use Rattle.history_calls.specs.Found.{open_by}
use Rattle.history_calls.proofs.RecordLemmas.{records_found}
use Rattle.history_calls.proofs.CallLemmas.{begun_by_other, begun_decided}
use Rattle.history_calls.proofs.calls.call_begun.Goals as goal

pub returns-then-not-is_doer : goal.returns-then-not-is_doer
returns-then-not-is_doer c = record { value = begun_by_other c.args.shape.now c.args.actor c.args.operation.now c.args.piece.now c.is_doer.result (sym c.is_doer.ensures ∙ c.if-not-is_doer.true) }

pub returns : goal.returns
returns c =
    let shape = c.args.shape.now in
    let operation = c.args.operation.now in
    let piece = c.args.piece.now in
    record {
      value =
          IfOk-weaker c.is_first.result (λ first. IsTrue first ↔ IsFirst shape c.args.actor (open_by piece) operation piece) (λ begun. (call : Call) (signals : Bool) → IsCallOf operation piece call → IsTrue begun ↔ IsBegun signals shape c.args.actor call)
          (λ first so. begun_decided shape c.args.actor operation piece first c.requires.plain (sym c.is_doer.ensures ∙ c.if-not-is_doer.false) so) c.is_first.ensures;
    }

pub is_first-requires-clause-records : goal.is_first-requires-clause-records
is_first-requires-clause-records c = records_found c.args.shape.now c.args.piece.now c.requires.shape c.requires.records
