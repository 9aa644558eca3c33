use Rattle.std.proofs.Common.{ℕ, subst}
use Rattle.guest_memory.specs.Memory.{IsCommandCopied, command_offset}
use Rattle.guest_memory.proofs.MemoryLemmas.{one_more, kept_more}
use Rattle.guest_memory.proofs.memory.copy_commands.Goals as goal

pub loop-number-preserved : goal.loop-number-preserved
loop-number-preserved g c =
    let May = g.M.GuestMemory.may_read c.args.memory.now in
    let now = c.loop-number.guest in
    let after = c.copy_command.new.guest in
    let bases = c.args.bases.now in
    record {
      end = c.loop-number.invariant.end;
      copied =
          one_more (λ (number : ℕ). IsCommandCopied May bases (command_offset c.args.commands.now number)) c.loop-number.number c.args.guest.now now after c.loop-number.invariant.copied
          (subst (λ (offset : ℕ). IsCommandCopied May bases offset now after) c.offset_of.ensures.value c.copy_command.ensures.copied);
      kept = kept_more c.args.guest.now now after c.loop-number.invariant.kept c.copy_command.ensures.kept;
    }
