use Rattle.std.proofs.Common.{Some, sym, ap, ◌∙◌}
use Rattle.history_commands.specs.Calls.{Happened}
use Rattle.history_commands.specs.Writing.{may_be_written}
use Rattle.history_commands.proofs.RegisterLemmas.{reach_here, reach_all}
use Rattle.history_commands.proofs.written.reach.Goals as goal

pub returns-then-not-may_be_written-clause-all : goal.returns-then-not-may_be_written-clause-all
returns-then-not-may_be_written-clause-all c = λ before after split all.
    reach_here (λ (h : Happened). may_be_written (Some c.args.actor) h.event) c.args.piece.now before after c.loop-index.index c.index-piece-index.result split all (sym c.index-piece-index.is)
    (ap (λ (h : Happened). may_be_written (Some c.args.actor) h.event) (sym c.made.view_is) ∙ sym c.may_be_written.ensures ∙ c.if-not-may_be_written.true)

pub returns-clause-all : goal.returns-clause-all
returns-clause-all c = λ before after split all. reach_all c.args.piece.now before after split
