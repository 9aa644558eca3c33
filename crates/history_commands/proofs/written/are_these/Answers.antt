use Rattle.std.proofs.Common.{Some, IfNone, subst}
use Rattle.history_commands.specs.HistoryCalls.Counted.{IsUncounted}
use Rattle.history_commands.specs.HistoryCalls.Found.{found_by}
use Rattle.history_commands.proofs.RegisterLemmas.{not_these}
use Rattle.history_commands.proofs.written.are_these.Goals as goal

pub returns-in-None : goal.returns-in-None
returns-in-None c =
    not_these (Some c.args.actor) (found_by c.args.piece.now) c.args.events.now c.args.piece.now
    (subst (λ o. IfNone o (IsUncounted (Some c.args.actor) (found_by c.args.piece.now) c.args.events.now c.args.piece.now)) c.in-None.is c.count_written.ensures.none)
