use Rattle.std.proofs.Common.{◌+◌}
use Rattle.guest_memory.specs.Memory.{put_all}
use Rattle.guest_memory.proofs.MemoryLemmas.{read_made}
use Rattle.guest_memory.proofs.memory.copy_shared.Goals as goal

pub returns-clause-copied : goal.returns-clause-copied
returns-clause-copied g c =
    read_made (g.M.GuestMemory.may_read c.args.memory.now) (c.args.address + c.args.at) (put_all c.args.bases.now c.args.address c.args.at) c.args.guest.now c.put_in_all.new.guest c.read.result c.unwrap_or-value.result c.read.ensures c.unwrap_or-value.ensures c.put_in_all.ensures.after
