-- Word by word.
use Rattle.std.proofs.Common.{sym, arith}
use Rattle.pe_loop.proofs.FirstLemmas.{found_in_word, found_nowhere}
use Rattle.pe_loop.proofs.candidates.next_candidate.Goals as goal

pub returns-in-Some : goal.returns-in-Some
returns-in-Some c =
    sym (found_in_word c.args.cands.now c.args.from c.loop-word.word c.loop-word.low c.args.end c.in-Some.bit (omega arith) c.requires.used c.loop-word.invariant c.in-Some.ensures)

pub returns : goal.returns
returns c = sym (found_nowhere c.args.cands.now c.args.from c.loop-word.word c.loop-word.low c.args.end (omega arith) c.requires.few c.loop-word.invariant)
