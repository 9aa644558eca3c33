use Rattle.std.proofs.Common.{◌+◌}
use Rattle.history_commands.specs.Calls.{View, Place, IsLastRead, held_at, memory_places, word_address}
use Rattle.history_commands.specs.Known.{view_by}
use Rattle.history_commands.proofs.FetchLemmas.{both_hold, first_fails}
use Rattle.history_commands.proofs.fetch.are_two_read.Goals as goal

pub returns-then-is_word_read : goal.returns-then-is_word_read
returns-then-is_word_read c = λ maps targets.
    let view : View = view_by c.args.its maps targets c.args.reads.now in
    both_hold (λ (place : Place). IsLastRead place (held_at view place) c.args.reads.now) (memory_places c.args.shape.now (word_address view c.args.number) 8) (memory_places c.args.shape.now (word_address view (c.args.number + 1)) 8)
    c.is_word_read.result c.is_word_read-then-is_word_read.result (c.is_word_read.ensures maps targets) (c.is_word_read-then-is_word_read.ensures maps targets) c.if-is_word_read.true

pub returns-else-is_word_read : goal.returns-else-is_word_read
returns-else-is_word_read c = λ maps targets.
    let view : View = view_by c.args.its maps targets c.args.reads.now in
    first_fails (λ (place : Place). IsLastRead place (held_at view place) c.args.reads.now) (memory_places c.args.shape.now (word_address view c.args.number) 8) (memory_places c.args.shape.now (word_address view (c.args.number + 1)) 8)
    c.is_word_read.result c.is_word_read.result (c.is_word_read.ensures maps targets) c.if-is_word_read.false c.if-is_word_read.false
