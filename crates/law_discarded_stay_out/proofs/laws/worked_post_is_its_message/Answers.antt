use Rattle.law_discarded_stay_out.proofs.WorkedPostLemmas.{worked_post}
use Rattle.law_discarded_stay_out.proofs.laws.worked_post_is_its_message.Goals as goal

pub returns : goal.returns
returns c = worked_post
