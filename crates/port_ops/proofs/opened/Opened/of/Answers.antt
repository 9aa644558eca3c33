use Rattle.std.proofs.Common.{sym, subst}
use Rattle.port_core.specs.IdealGuests.CanOpen.{CanOpen}
use Rattle.port_core.proofs.IdealGuests.CanOpenLemmas.{openings_can_open}
use Rattle.port_ops.proofs.opened.Opened.of.Goals as goal

pub returns-clause-opens : goal.returns-clause-opens
returns-clause-opens c = subst CanOpen (sym c.in_ok-open.ensures.value) (openings_can_open c.args.guest.now c.requires)
