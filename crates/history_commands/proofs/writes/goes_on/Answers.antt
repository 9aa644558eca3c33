use Rattle.std.proofs.Common.{◌↔◌, ◌⊎◌, true, IsTrue}
use Rattle.std.proofs.lemmas.Result.{IfOk-weaker}
use Rattle.history_commands.specs.Mapped.{mapped_by, targets_by}
use Rattle.history_commands.specs.Written.{IsWritten}
use Rattle.history_commands.specs.Opened.{IsWriteBegun}
use Rattle.history_commands.proofs.TakenLemmas.{first_of_two, second_of_two}
use Rattle.history_commands.proofs.writes.goes_on.Goals as goal

pub returns-then-is_write_begun : goal.returns-then-is_write_begun
returns-then-is_write_begun c =
    first_of_two c.is_write_begun.result (IsWriteBegun c.args.shape.now c.args.actor c.args.offset c.args.size c.args.value c.args.rest.now)
    (IsWritten c.args.shape.now (mapped_by c.args.shape.now c.args.done.now) (targets_by c.args.commands.now) c.args.actor c.args.offset c.args.size c.args.value true c.args.rest.now) c.if-is_write_begun.true c.is_write_begun.ensures

pub returns : goal.returns
returns c =
    IfOk-weaker c.is_written.result (λ on. IsTrue on ↔ IsWritten c.args.shape.now (mapped_by c.args.shape.now c.args.done.now) (targets_by c.args.commands.now) c.args.actor c.args.offset c.args.size c.args.value true c.args.rest.now)
    (λ on. IsTrue on ↔ (IsWriteBegun c.args.shape.now c.args.actor c.args.offset c.args.size c.args.value c.args.rest.now ⊎ IsWritten c.args.shape.now (mapped_by c.args.shape.now c.args.done.now) (targets_by c.args.commands.now) c.args.actor c.args.offset c.args.size c.args.value true c.args.rest.now))
    (λ on is. second_of_two c.is_write_begun.result on (IsWriteBegun c.args.shape.now c.args.actor c.args.offset c.args.size c.args.value c.args.rest.now)
    (IsWritten c.args.shape.now (mapped_by c.args.shape.now c.args.done.now) (targets_by c.args.commands.now) c.args.actor c.args.offset c.args.size c.args.value true c.args.rest.now) c.if-is_write_begun.false c.is_write_begun.ensures is) c.is_written.ensures
