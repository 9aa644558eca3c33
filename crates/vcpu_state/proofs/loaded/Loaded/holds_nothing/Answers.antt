use Rattle.vcpu_state.proofs.HeldLemmas.{free_places}
use Rattle.vcpu_state.proofs.loaded.Loaded.holds_nothing.Goals as goal

pub returns : goal.returns
returns c = rw c.is_free.ensures (free_places c.args.self.now.held)
