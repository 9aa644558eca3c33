use Rattle.guest_memory.proofs.MemoryLemmas.{put_more, kept_more}
use Rattle.guest_memory.proofs.memory.put_in_all.Goals as goal

pub loop-vcpu-preserved : goal.loop-vcpu-preserved
loop-vcpu-preserved c =
    let now = c.loop-vcpu.guest in
    let after = c.put_in_one.new.guest in
    record {
      end = c.loop-vcpu.invariant.end;
      copied = put_more c.args.bases.now c.args.address c.args.at c.args.value c.loop-vcpu.vcpu c.args.guest.now now after c.loop-vcpu.invariant.copied c.put_in_one.ensures.after;
      kept = kept_more c.args.guest.now now after c.loop-vcpu.invariant.kept c.put_in_one.ensures.kept;
    }
