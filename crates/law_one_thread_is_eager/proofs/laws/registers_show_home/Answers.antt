use Rattle.law_one_thread_is_eager.proofs.DoneLaws.{registers_show_home}
use Rattle.law_one_thread_is_eager.proofs.laws.registers_show_home.Goals as goal

pub returns : goal.returns
returns c = registers_show_home
