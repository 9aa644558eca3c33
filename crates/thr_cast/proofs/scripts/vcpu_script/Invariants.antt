use Rattle.std.proofs.Common.{◌≡◌, ◌++◌, drop}
use Rattle.thr_trip.specs.Script.{vcpu_ops}
use Rattle.thr_cast.proofs.scripts.vcpu_script.Given as goal

-- the operations so far and those of the steps that are left are all
abbrev pub invariant-loop-step : goal.invariant-loop-step
invariant-loop-step l = l.script ++ vcpu_ops l.of_guest l.of_vcpu (drop l.step-index l.steps) ≡ vcpu_ops l.of_guest l.of_vcpu l.steps
