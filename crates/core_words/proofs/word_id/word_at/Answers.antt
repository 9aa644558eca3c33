use Rattle.std.proofs.Common.{IfSome, IsTrue, subst, sym, rules}
use Rattle.core_words.specs.Place.{has_word}
use Rattle.core_words.proofs.PlaceLemmas.{blocks_there}
use Rattle.core_words.proofs.word_id.word_at.Goals as goal

pub returns-then-place-lines_from-clause-there : goal.returns-then-place-lines_from-clause-there
returns-then-place-lines_from-clause-there c =
    subst (λ found. IfSome found (λ word. IsTrue (has_word c.args.shape.now word))) (sym c.word_in_blocks.ensures)
    (blocks_there c.args.shape.now _ c.requires.shape (search rules))
