use Rattle.gic_open.proofs.OpeningLemmas.{opening_valid}
use Rattle.gic_open.proofs.records.openings_are_valid.Goals as goal

pub returns : goal.returns
returns c guest key good there = let valid = opening_valid guest key good there in (valid.record_of, valid.home)
