use Rattle.its_tab.proofs.IndexLemmas.{owner_facts_of}
use Rattle.its_tab.proofs.tables.ItsTables.owner_of.Goals as goal

pub returns-clause-found : goal.returns-clause-found
returns-clause-found c = (owner_facts_of c.self.inside.owners.items c.args.id c.get.result c.self.view_is c.self.invariant.indexed c.get.ensures).found

pub returns-clause-only : goal.returns-clause-only
returns-clause-only c = (owner_facts_of c.self.inside.owners.items c.args.id c.get.result c.self.view_is c.self.invariant.indexed c.get.ensures).only

pub returns-clause-none : goal.returns-clause-none
returns-clause-none c = (owner_facts_of c.self.inside.owners.items c.args.id c.get.result c.self.view_is c.self.invariant.indexed c.get.ensures).none
