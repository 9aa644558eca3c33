use Rattle.history_commands.specs.Calls.{held_at}
use Rattle.history_commands.specs.HistoryCalls.Found.{found_by}
use Rattle.history_commands.proofs.RegisterLemmas.{read_so}
use Rattle.history_commands.proofs.register.is_read.Goals as goal

pub returns : goal.returns
returns c = read_so c.args.place (held_at (found_by c.args.piece.now) c.args.place) c.args.piece.now c.was_read.result c.was_read.ensures
