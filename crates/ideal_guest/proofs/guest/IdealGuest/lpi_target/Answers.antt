use Rattle.ideal_guest.proofs.PartLemmas.{lpi_target_there}
use Rattle.ideal_guest.proofs.guest.IdealGuest.lpi_target.Goals as goal

pub returns-clause-there : goal.returns-clause-there
returns-clause-there c = rw (c.target_in.ensures, c.irq.ensures) (lpi_target_there c.args.self.now c.args.lpi c.requires.sound c.requires.there)
