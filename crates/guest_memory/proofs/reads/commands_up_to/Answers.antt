use Rattle.std.proofs.Common.{◌≡◌, ◌%◌, arith}
use Rattle.guest_memory.proofs.WantedLemmas.{in_queue}
use Rattle.guest_memory.proofs.reads.commands_up_to.Goals as goal

pub returns-clause-queue : goal.returns-clause-queue
returns-clause-queue c =
    let bytes = c.queue_bytes-bytes in
    let whole : bytes.result % 32 ≡ 0 = omega (arith, bytes.ensures.value) in
    in_queue c.args.guest.now.offset bytes.result c.saturating_sub.result c.requires.place whole bytes.ensures.some bytes.ensures.most
