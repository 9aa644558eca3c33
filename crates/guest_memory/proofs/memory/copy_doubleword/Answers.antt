use Rattle.guest_memory.specs.Memory.{put_at}
use Rattle.guest_memory.proofs.MemoryLemmas.{read_made}
use Rattle.guest_memory.proofs.memory.copy_doubleword.Goals as goal

pub returns-clause-copied : goal.returns-clause-copied
returns-clause-copied g c =
    read_made (g.M.GuestMemory.may_read c.args.memory.now) c.args.from (put_at c.args.place) c.args.guest.now c.put.new.guest c.read.result c.unwrap_or-value.result c.read.ensures c.unwrap_or-value.ensures c.put.ensures.after
