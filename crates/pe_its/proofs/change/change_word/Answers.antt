-- Tries, one after the other.
use Rattle.pe_mem.proofs.PortCall.StoreLemmas.{no_miss, misses_join}
use Rattle.pe_its.specs.Change.{changed_by}
use Rattle.pe_its.proofs.ChangeLemmas.{misses_then_changes}
use Rattle.pe_its.proofs.change.change_word.Goals as goal

pub loop-init : goal.loop-init
loop-init g c = (tt, tt, no_miss (g.P.Port.seen c.args.port.now) c.args.word)

pub returns-in-Ok : goal.returns-in-Ok
returns-in-Ok g c =
    misses_then_changes (g.P.Port.seen c.args.port.now) (g.P.Port.seen c.loop.port) (g.P.Port.seen c.try_change.new.port) c.args.word (changed_by c.args.change) c.in-Ok.found c.loop.invariant.2 c.in-Ok.ensures

pub loop-preserved : goal.loop-preserved
loop-preserved g c = (tt, tt, misses_join (g.P.Port.seen c.args.port.now) (g.P.Port.seen c.loop.port) (g.P.Port.seen c.try_change.new.port) c.args.word c.loop.invariant.2 c.in_default.ensures)
