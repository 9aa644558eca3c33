use Rattle.std.proofs.Common.{refl, sym, ◌∙◌}
use Rattle.gic_check.proofs.LoopLemmas.{good_here, made_none}
use Rattle.gic_check.proofs.notes.make.Goals as goal

pub made-requires-clause-good : goal.made-requires-clause-good
made-requires-clause-good c = good_here c.args.board.now c.args.board.now.state.guest.shape c.args.actor c.in-Some.operation c.requires.good refl (sym c.operation_at.ensures ∙ c.in-Some.is)

pub returns-in-None : goal.returns-in-None
returns-in-None c = made_none c.args.board.now c.args.notes.now c.args.notes.now c.args.actor c.args.all.now c.args.event.now (sym c.operation_at.ensures ∙ c.in-None.is)
