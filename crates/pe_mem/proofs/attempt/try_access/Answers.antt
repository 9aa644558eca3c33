-- The try, and what it answers.
use Rattle.its_exec.specs.Core.{shape_of}
use Rattle.pe_mem.proofs.PartLemmas.{can_attempt}
use Rattle.pe_mem.proofs.attempt.try_access.Goals as goal

pub attempt-requires-clause-can : goal.attempt-requires-clause-can
attempt-requires-clause-can g c = can_attempt (shape_of (g.P.Port.seen c.args.port.now)) c.args.key c.args.kind c.args.write c.access_by.result c.requires.can c.access_by.ensures.does c.access_by.ensures.fits
