use Rattle.std.proofs.Common.{◌≡◌, ◌++◌, ◌-◌}
use Rattle.gic_soak.specs.Generated.{steps_from}
use Rattle.gic_soak.proofs.scenario.draw_steps.Given as goal

-- the steps so far and the others are all
abbrev pub invariant-loop : goal.invariant-loop
invariant-loop l = l.steps ++ steps_from (l.count - l.counter) l.generator.state ≡ steps_from l.count l.number
