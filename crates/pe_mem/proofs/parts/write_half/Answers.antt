-- Tries, one after the other.
use Rattle.its_exec.proofs.PortCall.TouchLemmas.{no_try, tries_join}
use Rattle.pe_mem.proofs.PartLemmas.{tries_then_attempts}
use Rattle.pe_mem.proofs.parts.write_half.Goals as goal

pub loop-init : goal.loop-init
loop-init g c = (tt, tt, no_try (g.P.Port.seen c.args.port.now) c.args.key)

pub returns-in-Ok : goal.returns-in-Ok
returns-in-Ok g c =
    tries_then_attempts (g.P.Port.seen c.args.port.now) (g.P.Port.seen c.loop.port) (g.P.Port.seen c.attempt.new.port) c.args.key c.args.kind _ c.in-Ok.irq c.loop.invariant.2 c.in-Ok.ensures.done

pub loop-preserved : goal.loop-preserved
loop-preserved g c =
    (tt, tt, tries_join (g.P.Port.seen c.args.port.now) (g.P.Port.seen c.loop.port) (g.P.Port.seen c.attempt.new.port) c.args.key c.loop.invariant.2 c.in_default.ensures.missed.misses.tries)
