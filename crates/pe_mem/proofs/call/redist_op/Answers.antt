-- What is at the offset, and the access.
use Rattle.std.proofs.Common.{subst}
use Rattle.its_exec.specs.Words.{Redist}
use Rattle.pe_mem.specs.Redist.{ServesRedist}
use Rattle.pe_mem.proofs.CallLemmas.{can_ease, makes_access, redist_accessed}
use Rattle.pe_mem.proofs.call.redist_op.Goals as goal

pub access_redist-value-requires-clause-ease : goal.access_redist-value-requires-clause-ease
access_redist-value-requires-clause-ease g c = can_ease (g.P.Port.seen c.args.port.now) c.requires.can

pub returns : goal.returns
returns g c =
    let old = g.P.Port.seen c.args.port.now in
    let new = g.P.Port.seen c.access_redist-value.new.port in
    makes_access old new (Redist c.args.of) c.args.offset c.args.size c.args.write c.access_redist-value.result c.answered.result (g.P.Port.is_port c.access_redist-value.new.port) c.requires.can tt c.answered.ensures
    (redist_accessed old new c.args.of c.args.offset c.args.size c.args.write c.access_redist-value.result
    (subst (λ reference. ServesRedist old new c.args.of reference c.args.write c.access_redist-value.result) c.redist_access-reference.ensures.value c.access_redist-value.ensures))
