-- The touch, by the word that the look found.
use Rattle.pe_rows.proofs.TouchLemmas.{can_activate}
use Rattle.pe_rows.proofs.entries.activate.Goals as goal

pub step-requires : goal.step-requires
step-requires g c = can_activate (g.P.Port.seen c.args.port.now) (g.P.Port.seen c.step-seen.new.self) c.args.id c.step-seen.result c.requires.there c.requires.empty c.requires.settled c.step-seen.ensures.found.valid c.step-seen.ensures.adds
