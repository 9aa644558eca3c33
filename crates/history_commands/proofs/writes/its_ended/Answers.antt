use Rattle.std.proofs.Common.{◌↔◌, false, IsTrue}
use Rattle.std.proofs.lemmas.Result.{IfOk-weaker}
use Rattle.history_commands.specs.Mapped.{mapped_by, targets_by}
use Rattle.history_commands.specs.Written.{IsWritten, IsItsMade}
use Rattle.history_commands.proofs.TakenLemmas.{ended_none, ended_other, ended_taken}
use Rattle.history_commands.proofs.writes.its_ended.Goals as goal

pub returns-in-None : goal.returns-in-None
returns-in-None c = record { value = ended_none c.args.actor c.args.piece.now c.args.shape.now (mapped_by c.args.shape.now c.args.done.now) (targets_by c.args.commands.now) c.args.offset c.args.size c.args.value c.from_named.result.now c.from_named.ensures c.in-None.ensures.cases }

pub returns-then-not-is_taken : goal.returns-then-not-is_taken
returns-then-not-is_taken c = record { value = ended_other c.args.actor c.args.piece.now c.args.shape.now (mapped_by c.args.shape.now c.args.done.now) (targets_by c.args.commands.now) c.args.offset c.args.size c.args.value c.from_named.result.now c.from_named.ensures c.in-Some.first.now c.in-Some.rest.now c.in-Some.ensures.cases.0 c.is_taken.result c.is_taken.ensures c.if-not-is_taken.true }

pub returns-else-not-is_taken : goal.returns-else-not-is_taken
returns-else-not-is_taken c = record {
  value = IfOk-weaker c.is_written.result (λ ended. IsTrue ended ↔ IsWritten c.args.shape.now (mapped_by c.args.shape.now c.args.done.now) (targets_by c.args.commands.now) c.args.actor c.args.offset c.args.size c.args.value false c.in-Some.rest.now)
      (λ ended. IsTrue ended ↔ IsItsMade c.args.shape.now (mapped_by c.args.shape.now c.args.done.now) (targets_by c.args.commands.now) c.args.actor c.args.offset c.args.size c.args.value c.args.piece.now)
      (λ ended is. ended_taken c.args.actor c.args.piece.now c.args.shape.now (mapped_by c.args.shape.now c.args.done.now) (targets_by c.args.commands.now) c.args.offset c.args.size c.args.value c.from_named.result.now c.from_named.ensures c.in-Some.first.now c.in-Some.rest.now c.in-Some.ensures.cases.0 c.is_taken.result c.is_taken.ensures c.if-not-is_taken.false ended is) c.is_written.ensures;
}
