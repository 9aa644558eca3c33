-- Tries, one after the other.
use Rattle.its_exec.proofs.PortCall.TouchLemmas.{no_try, tries_join}
use Rattle.pe_mem.proofs.PartLemmas.{tries_then_accesses}
use Rattle.pe_mem.proofs.parts.access_part.Goals as goal

pub loop-init : goal.loop-init
loop-init g c = (tt, tt, no_try (g.P.Port.seen c.args.port.now) c.args.key)

pub returns-in-Ok-clause-done : goal.returns-in-Ok-clause-done
returns-in-Ok-clause-done g c =
    tries_then_accesses (g.P.Port.seen c.args.port.now) (g.P.Port.seen c.loop.port) (g.P.Port.seen c.try_access.new.port) c.args.key c.args.kind c.args.write c.in-Ok.answer c.loop.invariant.2 c.in-Ok.ensures.done

pub loop-preserved : goal.loop-preserved
loop-preserved g c =
    (tt, tt, tries_join (g.P.Port.seen c.args.port.now) (g.P.Port.seen c.loop.port) (g.P.Port.seen c.try_access.new.port) c.args.key c.loop.invariant.2 c.in_default.ensures.missed.tries)
