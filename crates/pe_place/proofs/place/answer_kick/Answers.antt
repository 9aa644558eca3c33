-- Off a PE.
use Rattle.pe_place.proofs.MoveLemmas.{moves_none}
use Rattle.pe_place.proofs.place.answer_kick.Goals as goal

pub returns-in-Shelf-clause-moves : goal.returns-in-Shelf-clause-moves
returns-in-Shelf-clause-moves g c = moves_none (g.P.Port.seen c.args.port.now) c.args.place.now c.requires

pub returns-in-Shelf-2-clause-moves : goal.returns-in-Shelf-2-clause-moves
returns-in-Shelf-2-clause-moves g c = moves_none (g.P.Port.seen c.args.port.now) c.args.place.now c.requires
