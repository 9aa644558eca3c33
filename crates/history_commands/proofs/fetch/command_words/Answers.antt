use Rattle.history_commands.proofs.fetch.command_words.Goals as goal

pub returns : goal.returns
returns c = λ maps targets.
    let a = c.command_word.ensures maps targets in
    let b = c.command_word-2.ensures maps targets in
    let d = c.command_word-3.ensures maps targets in
    let e = c.command_word-4.ensures maps targets in
    cc (a, b, d, e)
