-- The part's steps lead from one to the other, and its end asks for the rest.
use Rattle.core_proper.proofs.RestLemmas.{rests_again}
use Rattle.core_proper.proofs.laws.parts_rest.Goals as goal

pub returns : goal.returns
returns c = rests_again
