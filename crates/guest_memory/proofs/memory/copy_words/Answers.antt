use Rattle.guest_memory.specs.Memory.{IsFetched}
use Rattle.guest_memory.proofs.MemoryLemmas.{one_more, kept_more, read_along}
use Rattle.guest_memory.proofs.memory.copy_words.Goals as goal

pub loop-number-preserved : goal.loop-number-preserved
loop-number-preserved g c =
    let May = g.M.GuestMemory.may_read c.args.memory.now in
    let now = c.loop-number.guest in
    let after = c.copy_doubleword.new.guest in
    record {
      copied =
          one_more (IsFetched May c.args.bases.now c.args.offset) c.loop-number.number c.args.guest.now now after c.loop-number.invariant.copied
          (read_along May c.word_source-from.result _ c.word_place-place.result _ now after c.word_source-from.ensures c.word_place-place.ensures c.copy_doubleword.ensures.copied);
      kept = kept_more c.args.guest.now now after c.loop-number.invariant.kept c.copy_doubleword.ensures.kept;
    }
