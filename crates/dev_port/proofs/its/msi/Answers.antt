-- The four pieces of the call, one after the other.
use Rattle.std.proofs.Common.{refl, []}
use Rattle.dev_port.proofs.MsiLemmas.{msi_made, unseen_none}
use Rattle.dev_port.proofs.its.msi.Goals as goal

pub returns : goal.returns
returns g c =
    (msi_made (g.P.Port.seen c.args.port.now) (g.P.Port.seen c.take_turn.new.port) (g.P.Port.seen c.translate-id.new.port) (g.P.Port.seen c.raise_lpi.new.port) (g.P.Port.seen c.raise_lpi.new.port) (g.P.Port.seen c.give_turn.new.port) c.args.device c.args.event c.translate-id.result []
    (g.P.Port.is_port c.args.port.now) (g.P.Port.is_port c.give_turn.new.port) c.requires c.take_turn.ensures c.translate-id.ensures c.raise_lpi.ensures (unseen_none (g.P.Port.seen c.raise_lpi.new.port)) refl c.give_turn.ensures).sends
