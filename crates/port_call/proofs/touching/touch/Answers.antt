-- Tries, one after the other.
use Rattle.port_call.proofs.TouchLemmas.{may_try, no_try, tries_join, tries_then_touches}
use Rattle.port_call.proofs.touching.touch.Goals as goal

pub loop-init : goal.loop-init
loop-init g c = (tt, tt, no_try (g.P.Port.seen c.args.port.now) c.args.key)

pub try_touch-requires-clause-lines : goal.try_touch-requires-clause-lines
try_touch-requires-clause-lines g c = may_try (g.P.Port.seen c.args.port.now) (g.P.Port.seen c.loop.port) c.args.key c.args.kind c.loop.invariant.2 c.requires.lines

pub returns-in-Ok : goal.returns-in-Ok
returns-in-Ok g c =
    tries_then_touches (g.P.Port.seen c.args.port.now) (g.P.Port.seen c.loop.port) (g.P.Port.seen c.try_touch.new.port) c.args.key c.args.kind c.in-Ok.found c.loop.invariant.2 c.in-Ok.ensures.touched

pub loop-preserved : goal.loop-preserved
loop-preserved g c =
    (tt, tt, tries_join (g.P.Port.seen c.args.port.now) (g.P.Port.seen c.loop.port) (g.P.Port.seen c.try_touch.new.port) c.args.key c.loop.invariant.2 c.in_default.ensures.missed.tries)
