use Rattle.std.proofs.Common.{subst}
use Rattle.guest_memory.specs.declared.reads.Doublewords.{Doublewords}
use Rattle.guest_memory.specs.Memory.{InTurn, IsTableCopied}
use Rattle.guest_memory.proofs.MemoryLemmas.{kept_more}
use Rattle.guest_memory.proofs.memory.copy_command.Goals as goal

pub returns-clause-copied : goal.returns-clause-copied
returns-clause-copied g c =
    let May = g.M.GuestMemory.may_read c.args.memory.now in
    let fetched = c.copy_words.new.guest in
    record {
      fetched = fetched;
      words = c.copy_words.ensures.copied;
      tables =
          subst (λ (wanted : Doublewords). InTurn (IsTableCopied May c.args.bases.now wanted) fetched.shape.vcpus fetched c.copy_tables.new.guest) c.wanted_at-wanted.ensures.value
          c.copy_tables.ensures.copied;
    }

pub returns-clause-kept : goal.returns-clause-kept
returns-clause-kept g c = kept_more c.args.guest.now c.copy_words.new.guest c.copy_tables.new.guest c.copy_words.ensures.kept c.copy_tables.ensures.kept
