use Rattle.std.proofs.Common.{◌↔◌, IsTrue, subst, ℕ}
use Rattle.history_commands.specs.Calls.{View, memory_places}
use Rattle.history_commands.specs.Known.{view_by}
use Rattle.history_commands.specs.Stage.{AreReadBy}
use Rattle.history_commands.proofs.fetch.is_word_read.Goals as goal

pub returns : goal.returns
returns c = λ maps targets.
    let view : View = view_by c.args.its maps targets c.args.reads.now in
    subst (λ (a : ℕ). IsTrue c.is_memory_read.result ↔ AreReadBy view c.args.reads.now (memory_places c.args.shape.now a 8)) (c.word_address.ensures maps targets c.args.reads.now) (c.is_memory_read.ensures.known c.args.its maps targets)
