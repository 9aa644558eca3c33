-- Tries, one after the other.
use Rattle.port_call.proofs.StoreLemmas.{no_miss, may_kept, tried_stores, tried_misses}
use Rattle.port_call.proofs.store.put_plain.Goals as goal

pub loop-init : goal.loop-init
loop-init g c = (tt, tt, no_miss (g.P.Port.seen c.args.port.now) c.args.word)

pub try_store-requires-clause-may : goal.try_store-requires-clause-may
try_store-requires-clause-may g c = may_kept (g.P.Port.seen c.args.port.now) (g.P.Port.seen c.loop.port) c.args.word c.loop.invariant.2 c.requires.may

pub returns-then-try_store : goal.returns-then-try_store
returns-then-try_store g c =
    tried_stores (g.P.Port.seen c.args.port.now) (g.P.Port.seen c.loop.port) (g.P.Port.seen c.try_store.new.port) c.args.word c.args.value c.try_store.result c.if-try_store.true c.loop.invariant.2 c.try_store.ensures

pub loop-preserved : goal.loop-preserved
loop-preserved g c =
    (tt, tt, tried_misses (g.P.Port.seen c.args.port.now) (g.P.Port.seen c.loop.port) (g.P.Port.seen c.try_store.new.port) c.args.word c.args.value c.try_store.result c.if-try_store.false c.loop.invariant.2 c.try_store.ensures)
