use Rattle.std.proofs.Common.{Some}
use Rattle.history_commands.proofs.BegunNamed.{quiet_is}
use Rattle.history_commands.proofs.begun.is_quiet.Goals as goal

pub returns : goal.returns
returns c = quiet_is (Some c.args.actor) c.args.piece.now c.is_idle.result c.is_idle.ensures
