use Rattle.gic_check.proofs.CheckLemmas.{going_first}
use Rattle.gic_check.proofs.verdict.go_on.Goals as goal

pub loop-moment-init : goal.loop-moment-init
loop-moment-init c guest before is = going_first guest before c.args.moments.now c.args.play.now is c.requires.done (c.requires.known guest before is) c.requires.good
