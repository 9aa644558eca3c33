-- Tries, one after the other.
use Rattle.its_exec.proofs.PortCall.StoreLemmas.{no_miss}
use Rattle.pe_mem.specs.Store.{changed_by}
use Rattle.pe_mem.proofs.UpdateLemmas.{tried_updates, tried_misses}
use Rattle.pe_mem.proofs.store.update.Goals as goal

pub loop-init : goal.loop-init
loop-init g c = (tt, tt, no_miss (g.P.Port.seen c.args.port.now) c.args.word)

pub returns-then-try_update : goal.returns-then-try_update
returns-then-try_update g c =
    tried_updates (g.P.Port.seen c.args.port.now) (g.P.Port.seen c.loop.port) (g.P.Port.seen c.try_update.new.port) c.args.word (changed_by c.args.change) c.try_update.result c.if-try_update.true c.loop.invariant.2 c.try_update.ensures

pub loop-preserved : goal.loop-preserved
loop-preserved g c =
    (tt, tt, tried_misses (g.P.Port.seen c.args.port.now) (g.P.Port.seen c.loop.port) (g.P.Port.seen c.try_update.new.port) c.args.word (changed_by c.args.change) c.try_update.result c.if-try_update.false c.loop.invariant.2 c.try_update.ensures)
