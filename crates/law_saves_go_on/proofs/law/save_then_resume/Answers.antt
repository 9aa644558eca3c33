use Rattle.law_saves_go_on.proofs.TextLemmas.{save_then_resume}
use Rattle.law_saves_go_on.proofs.law.save_then_resume.Goals as goal

pub returns : goal.returns
returns c = save_then_resume
