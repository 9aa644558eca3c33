use Rattle.std.proofs.Common.{sym, ◌∙◌}
use Rattle.gic_check.proofs.LoopLemmas.{good_here}
use Rattle.gic_check.proofs.notes.rising_in.Goals as goal

pub rising_of-requires : goal.rising_of-requires
rising_of-requires c = good_here c.args.board.now c.shape_of.result.now c.args.actor c.in-Some.operation c.requires.good c.shape_of.ensures (sym c.operation_at.ensures ∙ c.in-Some.is)
