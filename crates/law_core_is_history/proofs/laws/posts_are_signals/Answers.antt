use Rattle.law_core_is_history.proofs.PostRuns.{posts_signal}
use Rattle.law_core_is_history.proofs.laws.posts_are_signals.Goals as goal

pub returns : goal.returns
returns c = posts_signal
