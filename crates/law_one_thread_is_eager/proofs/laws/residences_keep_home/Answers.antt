use Rattle.law_one_thread_is_eager.proofs.DoneLaws.{residences_keep_home}
use Rattle.law_one_thread_is_eager.proofs.laws.residences_keep_home.Goals as goal

pub returns : goal.returns
returns c = residences_keep_home
