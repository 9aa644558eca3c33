-- The word was fetched, or it is looked at.
use Rattle.its_exec.proofs.ConfigLemmas.{word_fetched, word_looked}
use Rattle.its_exec.proofs.config.memory_word.Goals as goal

pub returns-in-Some : goal.returns-in-Some
returns-in-Some g c = word_fetched (g.P.Port.seen c.args.port.now) c.args.fetched.now c.args.index c.in-Some.word c.requires.there c.requires.holds c.in-Some.ensures

pub returns-in-None : goal.returns-in-None
returns-in-None g c =
    word_looked (g.P.Port.seen c.args.port.now) (g.P.Port.seen c.read_plain.new.port) c.args.fetched.now c.args.index c.read_plain.result c.requires.there c.in-None.ensures c.read_plain.ensures
