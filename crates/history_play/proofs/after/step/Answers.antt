use Rattle.std.proofs.Common.{◌≡◌, false, subst}
use Rattle.history_check.specs.Calls.{Happens}
use Rattle.history_play.specs.Coming.{is_unknown}
use Rattle.history_play.proofs.after.step.Goals as goal

pub change_queue-requires-clause-known : goal.change_queue-requires-clause-known
change_queue-requires-clause-known c = λ found. subst (λ event. is_unknown c.args.state.now (Happens c.args.actor event found) ≡ false) c.in-Queue.is (c.requires.known found)
