use Rattle.std.proofs.Common.{sym, ◌∙◌}
use Rattle.gic_check.proofs.LoopLemmas.{unseen}
use Rattle.gic_check.proofs.notes.see.Goals as goal

pub returns-in-None : goal.returns-in-None
returns-in-None c = unseen c.args.board.now c.args.notes.now c.args.actor (sym c.rising_in.ensures ∙ c.in-None.is)
