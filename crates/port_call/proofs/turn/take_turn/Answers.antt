-- Tries, one after the other.
use Rattle.port_call.proofs.TurnLemmas.{tried_takes, tried_misses}
use Rattle.port_call.proofs.turn.take_turn.Goals as goal

pub returns-then-try_turn : goal.returns-then-try_turn
returns-then-try_turn g c =
    tried_takes (g.P.Port.seen c.args.port.now) (g.P.Port.seen c.loop.port) (g.P.Port.seen c.try_turn.new.port) c.try_turn.result c.if-try_turn.true c.loop.invariant.2 c.try_turn.ensures

pub loop-preserved : goal.loop-preserved
loop-preserved g c =
    (tt, tt, tried_misses (g.P.Port.seen c.args.port.now) (g.P.Port.seen c.loop.port) (g.P.Port.seen c.try_turn.new.port) c.try_turn.result c.if-try_turn.false c.loop.invariant.2 c.try_turn.ensures)
