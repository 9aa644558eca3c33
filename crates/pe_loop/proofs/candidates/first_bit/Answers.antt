-- The first bit of the rest.
use Rattle.pe_loop.proofs.FirstLemmas.{first_none, first_some}
use Rattle.pe_loop.proofs.candidates.first_bit.Goals as goal

pub returns-then-rest-eq0 : goal.returns-then-rest-eq0
returns-then-rest-eq0 c = first_none c.args.word c.args.low c.if-rest-eq0.true

pub returns : goal.returns
returns c = first_some c.args.word c.args.low c.ranges.word.fits c.requires c.if-rest-eq0.false
