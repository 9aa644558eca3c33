use Rattle.law_one_thread_is_eager.proofs.DoneLaws.{calls_pass_home}
use Rattle.law_one_thread_is_eager.proofs.laws.calls_pass_home.Goals as goal

pub returns : goal.returns
returns c = calls_pass_home
