use Rattle.std.proofs.Common.{ap, ◌∙◌}
use Rattle.history_commands.specs.Calls.{memory_at}
use Rattle.history_commands.specs.HistoryCalls.Found.{found_by}
use Rattle.history_commands.proofs.fetch.command_word.Goals as goal

pub returns : goal.returns
returns c = λ maps targets. c.memory.ensures ∙ ap (λ a. memory_at c.args.shape.now (found_by c.args.reads.now) a 8) (c.word_address.ensures maps targets c.args.reads.now)
