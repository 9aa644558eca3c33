use Rattle.std.proofs.Common.{◌↔◌, IsTrue, Bool}
use Rattle.std.proofs.lemmas.Result.{IfOk-weaker}
use Rattle.history_commands.specs.Mapped.{targets_by}
use Rattle.history_commands.specs.Stage.{FitsNamed}
use Rattle.history_commands.specs.Followed.{stage_of}
use Rattle.history_commands.proofs.WalkLemmas.{begin_decided}
use Rattle.history_commands.proofs.walk.Walk.take.Goals as goal

pub returns-in-InCommand-clause-fits : goal.returns-in-InCommand-clause-fits
returns-in-InCommand-clause-fits c =
    let shape = c.args.shape.now in
    let targets = targets_by c.args.commands.now in
    let ok = c.if-not-branch.false in
    IfOk-weaker c.make.result (λ (ok : Bool). IsTrue ok ↔ FitsNamed shape targets (stage_of c.begin.new.self) c.args.made.now) (λ (ok : Bool). IsTrue ok ↔ FitsNamed shape targets (stage_of c.args.self.now) c.args.made.now)
    (λ made so. begin_decided shape targets (stage_of c.args.self.now) (stage_of c.begin.new.self) c.args.made.now made (c.in_ok-begin.ensures.can.0 ok) (c.in_ok-begin.ensures.stage ok) so) c.make.ensures.fits
