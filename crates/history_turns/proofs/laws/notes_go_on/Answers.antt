use Rattle.history_turns.proofs.SeenLaw.{notes_on}
use Rattle.history_turns.proofs.laws.notes_go_on.Goals as goal

pub returns : goal.returns
returns c = notes_on
