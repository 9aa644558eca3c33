use Rattle.std.proofs.Common.{arith}
use Rattle.history_commands.specs.Mapped.{mapped_by, targets_by}
use Rattle.history_commands.proofs.RegisterLemmas.{no_cut}
use Rattle.history_commands.proofs.written.is_written.Goals as goal

pub returns : goal.returns
returns c =
    no_cut c.args.shape.now (mapped_by c.args.shape.now c.args.done.now) (targets_by c.args.commands.now) c.args.actor c.args.offset c.args.size c.args.value c.args.is_open c.args.piece.now c.reach-most.result c.reach-most.ensures.all
    (λ cut lt. c.loop-cut.invariant.none cut (omega (arith, lt, c.loop-cut-test.false, c.loop-cut.invariant.end)))
