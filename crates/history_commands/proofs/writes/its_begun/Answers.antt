use Rattle.std.proofs.Common.{◌↔◌, ◌⊎◌, true, IsTrue}
use Rattle.std.proofs.lemmas.Result.{IfOk-weaker}
use Rattle.history_commands.specs.Mapped.{mapped_by, targets_by}
use Rattle.history_commands.specs.Written.{IsWritten}
use Rattle.history_commands.specs.Opened.{IsWriteBegun, IsItsBegun}
use Rattle.history_commands.proofs.TakenLemmas.{begun_none, begun_other, begun_taken}
use Rattle.history_commands.proofs.writes.its_begun.Goals as goal

pub returns-in-None : goal.returns-in-None
returns-in-None c = record { value = begun_none c.args.actor c.args.piece.now c.args.shape.now (mapped_by c.args.shape.now c.args.done.now) (targets_by c.args.commands.now) c.args.offset c.args.size c.args.value c.from_named.result.now c.from_named.ensures c.in-None.ensures.cases }

pub returns-then-not-is_taken : goal.returns-then-not-is_taken
returns-then-not-is_taken c = record { value = begun_other c.args.actor c.args.piece.now c.args.shape.now (mapped_by c.args.shape.now c.args.done.now) (targets_by c.args.commands.now) c.args.offset c.args.size c.args.value c.from_named.result.now c.from_named.ensures c.in-Some.first.now c.in-Some.rest.now c.in-Some.ensures.cases.0 c.is_taken.result c.is_taken.ensures c.if-not-is_taken.true }

pub returns-else-not-is_taken : goal.returns-else-not-is_taken
returns-else-not-is_taken c = record {
  value = IfOk-weaker c.goes_on.result
      (λ begun. IsTrue begun ↔ (IsWriteBegun c.args.shape.now c.args.actor c.args.offset c.args.size c.args.value c.in-Some.rest.now ⊎ IsWritten c.args.shape.now (mapped_by c.args.shape.now c.args.done.now) (targets_by c.args.commands.now) c.args.actor c.args.offset c.args.size c.args.value true c.in-Some.rest.now))
      (λ begun. IsTrue begun ↔ IsItsBegun c.args.shape.now (mapped_by c.args.shape.now c.args.done.now) (targets_by c.args.commands.now) c.args.actor c.args.offset c.args.size c.args.value c.args.piece.now)
      (λ begun is. begun_taken c.args.actor c.args.piece.now c.args.shape.now (mapped_by c.args.shape.now c.args.done.now) (targets_by c.args.commands.now) c.args.offset c.args.size c.args.value c.from_named.result.now c.from_named.ensures c.in-Some.first.now c.in-Some.rest.now c.in-Some.ensures.cases.0 c.is_taken.result c.is_taken.ensures c.if-not-is_taken.false begun is) c.goes_on.ensures;
}
