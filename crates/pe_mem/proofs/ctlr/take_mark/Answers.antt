-- Tries, one after the other.
use Rattle.pe_mem.proofs.MarkLemmas.{no_miss, tried_takes, tried_misses}
use Rattle.pe_mem.proofs.ctlr.take_mark.Goals as goal

pub loop-init : goal.loop-init
loop-init g c = (tt, tt, no_miss (g.P.Port.seen c.args.port.now))

pub returns-then-try_mark : goal.returns-then-try_mark
returns-then-try_mark g c =
    tried_takes (g.P.Port.seen c.args.port.now) (g.P.Port.seen c.loop.port) (g.P.Port.seen c.try_mark.new.port) c.args.enables c.try_mark.result c.if-try_mark.true c.loop.invariant.2 c.try_mark.ensures

pub loop-preserved : goal.loop-preserved
loop-preserved g c =
    (tt, tt, tried_misses (g.P.Port.seen c.args.port.now) (g.P.Port.seen c.loop.port) (g.P.Port.seen c.try_mark.new.port) c.args.enables c.try_mark.result c.if-try_mark.false c.loop.invariant.2 c.try_mark.ensures)
