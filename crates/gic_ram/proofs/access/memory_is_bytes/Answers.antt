use Rattle.gic_ram.proofs.ByteLemmas.{spelled, set_bytes, read_back}
use Rattle.gic_ram.proofs.access.memory_is_bytes.Goals as goal

pub returns-clause-reads : goal.returns-clause-reads
returns-clause-reads c = spelled

pub returns-clause-writes : goal.returns-clause-writes
returns-clause-writes c = set_bytes

pub returns-clause-back : goal.returns-clause-back
returns-clause-back c = read_back
