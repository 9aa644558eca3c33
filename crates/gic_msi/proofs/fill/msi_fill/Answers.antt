-- The turn, the message, its line, and the turn given back.
use Rattle.gic_msi.proofs.FillLemmas.{can_fill_if_raised, sent_and_filled}
use Rattle.gic_msi.proofs.fill.msi_fill.Goals as goal

pub fill_if_short-requires : goal.fill_if_short-requires
fill_if_short-requires g c =
    record {
      can =
          can_fill_if_raised (g.P.Port.seen c.args.port.now) (g.P.Port.seen c.take_turn.new.port) (g.P.Port.seen c.translate-id.new.port) (g.P.Port.seen c.raise_lpi.new.port) c.args.device c.args.event c.translate-id.result
          (g.P.Port.is_port c.args.port.now) c.take_turn.ensures c.translate-id.ensures c.raise_lpi.ensures;
    }

pub returns : goal.returns
returns g c =
    sent_and_filled (g.P.Port.seen c.args.port.now) (g.P.Port.seen c.take_turn.new.port) (g.P.Port.seen c.translate-id.new.port) (g.P.Port.seen c.raise_lpi.new.port) (g.P.Port.seen c.fill_if_short.new.port) (g.P.Port.seen c.give_turn.new.port) c.args.device c.args.event c.translate-id.result
    (g.P.Port.is_port c.args.port.now) (g.P.Port.is_port c.give_turn.new.port) c.requires c.take_turn.ensures c.translate-id.ensures c.raise_lpi.ensures c.fill_if_short.ensures c.give_turn.ensures
