use Rattle.history_turns.proofs.PlaceLaw.{calls_placed}
use Rattle.history_turns.proofs.laws.calls_are_placed.Goals as goal

pub returns : goal.returns
returns c = calls_placed
