use Rattle.guest_memory.proofs.MemoryLemmas.{table_along}
use Rattle.guest_memory.proofs.memory.copy_first.Goals as goal

pub returns-clause-copied : goal.returns-clause-copied
returns-clause-copied g c =
    table_along (g.M.GuestMemory.may_read c.args.memory.now) c.args.bases.now c.for_first-own.result _ c.table-address.result _ c.args.guest.now c.copy_table.new.guest c.for_first-own.ensures.value c.table-address.ensures.value c.copy_table.ensures.copied
