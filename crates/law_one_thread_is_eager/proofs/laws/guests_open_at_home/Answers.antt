use Rattle.law_one_thread_is_eager.proofs.DoneLaws.{guests_open_at_home}
use Rattle.law_one_thread_is_eager.proofs.laws.guests_open_at_home.Goals as goal

pub returns : goal.returns
returns c = guests_open_at_home
