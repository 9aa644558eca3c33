use Rattle.its_tab.proofs.TableLemmas.{mapped_found}
use Rattle.its_tab.proofs.tables.ItsTables.find.Goals as goal

pub returns-clause-mapped : goal.returns-clause-mapped
returns-clause-mapped c = mapped_found (c.args.device, c.args.event) c.get.result c.self.view_is c.self.invariant.indexed.sound c.get.ensures
