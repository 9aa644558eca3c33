use Rattle.std.proofs.Common.{subst}
use Rattle.guest_memory.specs.declared.reads.Commands.{Commands}
use Rattle.guest_memory.specs.declared.reads.PendingTable.{PendingTable}
use Rattle.guest_memory.specs.Memory.{AreInQueue, AreCommandsCopied, IsPending}
use Rattle.guest_memory.proofs.MemoryLemmas.{kept_more}
use Rattle.guest_memory.proofs.WantedLemmas.{only_wanted}
use Rattle.guest_memory.proofs.memory.copy.Goals as goal

pub returns-clause-copied : goal.returns-clause-copied
returns-clause-copied g c =
    let May = g.M.GuestMemory.may_read c.args.memory.now in
    let bases = c.args.bases.now in
    let queued = c.copy_commands.new.guest in
    only_wanted May bases c.args.access.now c.args.guest.now c.copy_pending.new.guest c.requires.sound (subst AreInQueue c.commands_taken-commands.ensures.value c.commands_taken-commands.ensures.queue)
    (record {
      queued = queued;
      commands = subst (λ (commands : Commands). AreCommandsCopied May bases commands c.args.guest.now queued) c.commands_taken-commands.ensures.value c.copy_commands.ensures.copied;
      pending = subst (λ (table : PendingTable). IsPending May bases table queued c.copy_pending.new.guest) c.table_read-pending.ensures.value c.copy_pending.ensures.copied;
    })

pub returns-clause-kept : goal.returns-clause-kept
returns-clause-kept g c = kept_more c.args.guest.now c.copy_commands.new.guest c.copy_pending.new.guest c.copy_commands.ensures.kept c.copy_pending.ensures.kept
