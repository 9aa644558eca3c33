use Rattle.law_lone_calls_are_eager.proofs.CallLaws.{calls_pass_home}
use Rattle.law_lone_calls_are_eager.proofs.laws.calls_pass_home.Goals as goal

pub returns : goal.returns
returns c = calls_pass_home
