use Rattle.guest_memory.specs.Memory.{IsPendingCopied}
use Rattle.guest_memory.proofs.MemoryLemmas.{one_more, kept_more, read_along}
use Rattle.guest_memory.proofs.memory.copy_pending.Goals as goal

pub loop-number-preserved : goal.loop-number-preserved
loop-number-preserved g c =
    let May = g.M.GuestMemory.may_read c.args.memory.now in
    let now = c.loop-number.guest in
    let after = c.copy_doubleword.new.guest in
    record {
      end = c.loop-number.invariant.end;
      copied =
          one_more (IsPendingCopied May c.args.bases.now c.args.pending.vcpu) c.loop-number.number c.args.guest.now now after c.loop-number.invariant.copied
          (read_along May c.pending_source-from.result _ c.pending_place-place.result _ now after c.pending_source-from.ensures c.pending_place-place.ensures c.copy_doubleword.ensures.copied);
      kept = kept_more c.args.guest.now now after c.loop-number.invariant.kept c.copy_doubleword.ensures.kept;
    }
