-- The queue is moved to where it is.
use Rattle.pe_its.proofs.StoredLemmas.{ready_now}
use Rattle.pe_its.proofs.register.retry.Goals as goal

pub returns-then-retries-clause-ready : goal.returns-then-retries-clause-ready
returns-then-retries-clause-ready g c = ready_now (g.P.Port.seen c.move_queue.new.port) _ _ c.move_queue.new.queue (c.move_queue.ensures.ready _ _ c.requires.ready)
