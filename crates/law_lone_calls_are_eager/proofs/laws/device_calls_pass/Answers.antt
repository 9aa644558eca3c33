use Rattle.law_lone_calls_are_eager.proofs.DeviceLemmas.{device_calls_pass}
use Rattle.law_lone_calls_are_eager.proofs.laws.device_calls_pass.Goals as goal

pub returns : goal.returns
returns c = device_calls_pass
