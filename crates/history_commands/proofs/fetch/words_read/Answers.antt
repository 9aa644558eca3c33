use Rattle.std.proofs.Common.{List, ℕ, ◌++◌, map, ap, ◌∙◌}
use Rattle.history_commands.specs.Calls.{View, Place, memory_places, word_address}
use Rattle.history_commands.specs.Known.{view_by, read_at}
use Rattle.history_commands.proofs.FetchLemmas.{pushed_four}
use Rattle.history_commands.proofs.fetch.words_read.Goals as goal

pub returns : goal.returns
returns c = λ maps targets.
    let view : View = view_by c.args.its maps targets c.args.reads.now in
    let at : ℕ → List Place = λ number. memory_places c.args.shape.now (word_address view number) 8 in
    pushed_four (read_at view) (at 0) (at 1) (at 2) (at 3) c.push_word.new.all c.push_word-2.new.all c.push_word-3.new.all c.push_word-4.new.all
    (c.in_ok-push_word.ensures maps targets ∙ ap (λ xs. xs ++ map (read_at view) (at 0)) c.new-all.ensures) (c.in_ok-push_word-2.ensures maps targets) (c.in_ok-push_word-3.ensures maps targets) (c.in_ok-push_word-4.ensures maps targets)
