use Rattle.vcpu_state.proofs.HeldLemmas.{none_held}
use Rattle.vcpu_state.proofs.loaded.Loaded.place_of.Goals as goal

pub returns-clause-none : goal.returns-clause-none
returns-clause-none c = none_held c.args.id c.args.self.now.held c.place_in.result c.place_in.ensures
