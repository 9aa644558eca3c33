-- What is at the offset, and the access.
use Rattle.std.proofs.Common.{subst}
use Rattle.its_exec.specs.Words.{Dist}
use Rattle.pe_mem.specs.Dist.{ServesDist}
use Rattle.pe_mem.proofs.CallLemmas.{can_ease, can_free, makes_access, dist_accessed}
use Rattle.pe_mem.proofs.call.dist_op.Goals as goal

pub access_dist-value-requires-clause-ease : goal.access_dist-value-requires-clause-ease
access_dist-value-requires-clause-ease g c = can_ease (g.P.Port.seen c.args.port.now) c.requires.can

pub access_dist-value-requires-clause-free : goal.access_dist-value-requires-clause-free
access_dist-value-requires-clause-free g c = can_free (g.P.Port.seen c.args.port.now) c.requires.can

pub returns : goal.returns
returns g c =
    let old = g.P.Port.seen c.args.port.now in
    let new = g.P.Port.seen c.access_dist-value.new.port in
    makes_access old new Dist c.args.offset c.args.size c.args.write c.access_dist-value.result c.answered.result (g.P.Port.is_port c.access_dist-value.new.port) c.requires.can tt c.answered.ensures
    (dist_accessed old new c.args.offset c.args.size c.args.write c.access_dist-value.result (subst (λ reference. ServesDist old new reference c.args.write c.access_dist-value.result) c.dist_access.ensures.value c.access_dist-value.ensures))
