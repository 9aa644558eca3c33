use Rattle.gic_soak.proofs.MadeLemmas.{steps_more}
use Rattle.gic_soak.specs.Generated.{steps_from}
use Rattle.gic_soak.proofs.scenario.draw_steps.Goals as goal

pub loop-preserved : goal.loop-preserved
loop-preserved c =
    steps_more c.args.count c.loop.counter c.loop.generator.state c.step.new.self.state c.step.result c.loop.steps c.push.new.self (steps_from c.args.count c.args.number)
    c.loop-test.true c.step.ensures c.loop.invariant c.in_ok-push.ensures.ok
