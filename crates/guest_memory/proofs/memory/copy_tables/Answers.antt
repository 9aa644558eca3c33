use Rattle.guest_memory.specs.Memory.{IsTableCopied}
use Rattle.guest_memory.proofs.MemoryLemmas.{one_more, kept_more}
use Rattle.guest_memory.proofs.memory.copy_tables.Goals as goal

pub loop-vcpu-preserved : goal.loop-vcpu-preserved
loop-vcpu-preserved g c =
    let May = g.M.GuestMemory.may_read c.args.memory.now in
    let now = c.loop-vcpu.guest in
    let after = c.copy_first.new.guest in
    record {
      end = c.loop-vcpu.invariant.end;
      copied = one_more (IsTableCopied May c.args.bases.now c.args.wanted) c.loop-vcpu.vcpu c.args.guest.now now after c.loop-vcpu.invariant.copied c.copy_first.ensures.copied;
      kept = kept_more c.args.guest.now now after c.loop-vcpu.invariant.kept c.copy_first.ensures.kept;
    }
