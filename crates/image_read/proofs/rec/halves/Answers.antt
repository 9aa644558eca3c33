use Rattle.std.proofs.Common.{lit<}
use Rattle.std.proofs.lemmas.Str.Pattern.{split_after}
use Rattle.image_read.proofs.rec.halves.Goals as goal

pub returns-clause-some : goal.returns-clause-some
returns-clause-some c a b e plain = split_after 58 c.args.text.now a b c.split_once.result c.split_once.ensures.cases (lit< tt) e plain
