use Rattle.history_check.specs.Histories.{opening_course}
use Rattle.history_play.proofs.PlayedLemmas.{all_come}
use Rattle.history_play.proofs.laws.histories_are_allowed.Goals as goal

pub returns : goal.returns
returns c = λ guest moments history. all_come (opening_course guest) moments history
