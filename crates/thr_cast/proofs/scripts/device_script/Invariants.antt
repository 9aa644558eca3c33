use Rattle.std.proofs.Common.{◌≡◌, ◌++◌, drop}
use Rattle.thr_trip.specs.Script.{device_ops}
use Rattle.thr_cast.proofs.scripts.device_script.Given as goal

-- the operations so far and those of the steps that are left are all
abbrev pub invariant-loop-step : goal.invariant-loop-step
invariant-loop-step l = l.script ++ device_ops l.of_guest l.of_device (drop l.step-index l.steps) ≡ device_ops l.of_guest l.of_device l.steps
