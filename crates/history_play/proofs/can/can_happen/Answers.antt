use Rattle.std.proofs.Common.{◌↔◌, IsTrue, sym, subst}
use Rattle.history_check.specs.Calls.{CanHappen}
use Rattle.history_play.proofs.can.can_happen.Goals as goal

pub returns-in-Queue : goal.returns-in-Queue
returns-in-Queue c = subst (λ event. IsTrue c.can_change.result ↔ CanHappen c.args.shape.now event) (sym c.in-Queue.is) (c.can_change.ensures c.args.shape.now)
