-- The access.
use Rattle.its_exec.specs.Words.{Ram}
use Rattle.pe_mem.proofs.CallLemmas.{can_ease, makes_access}
use Rattle.pe_mem.proofs.call.memory_op.Goals as goal

pub access_memory-value-requires-clause-ease : goal.access_memory-value-requires-clause-ease
access_memory-value-requires-clause-ease g c = can_ease (g.P.Port.seen c.args.port.now) c.requires.can

pub returns : goal.returns
returns g c =
    makes_access (g.P.Port.seen c.args.port.now) (g.P.Port.seen c.access_memory-value.new.port) Ram c.args.address c.args.size c.args.write c.access_memory-value.result c.answered.result (g.P.Port.is_port c.access_memory-value.new.port) c.requires.can tt
    c.answered.ensures c.access_memory-value.ensures
