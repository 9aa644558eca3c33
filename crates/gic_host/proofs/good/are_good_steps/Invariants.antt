use Rattle.std.proofs.Common.{◌≡◌, drop, true}
use Rattle.gic_host.specs.Good.{are_good_steps}
use Rattle.gic_host.proofs.good.are_good_steps.Given as goal

-- the steps have no fault exactly where those that are left have none
abbrev pub invariant-loop-step : goal.invariant-loop-step
invariant-loop-step l = are_good_steps l.links l.vcpus l.loaded (drop l.step-index l.steps) ≡ are_good_steps l.links l.vcpus true l.steps
