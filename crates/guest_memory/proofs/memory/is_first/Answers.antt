use Rattle.std.proofs.Common.{◌≡◌, arith}
use Rattle.guest_memory.proofs.MemoryLemmas.{has_more, first_is}
use Rattle.guest_memory.proofs.memory.is_first.Goals as goal

pub loop-other-preserved : goal.loop-other-preserved
loop-other-preserved c =
    has_more c.args.bases.now c.table-address.result c.loop-other.other c.loop-other.is_shared c.is_shared_with-more.result c.loop-other.invariant c.is_shared_with-more.ensures

pub returns : goal.returns
returns c =
    let same : c.loop-other.other ≡ c.args.vcpu = omega arith in
    first_is c.args.bases.now c.args.vcpu c.loop-other.other c.table-address.result c.loop-other.is_shared c.loop-other.invariant same c.table-address.ensures.value
