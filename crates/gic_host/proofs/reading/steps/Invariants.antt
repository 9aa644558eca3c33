use Rattle.std.proofs.Common.{◌≡◌, ◌+◌, map, drop, true}
use Rattle.serde_json.specs.View.{view}
use Rattle.scn_read.proofs.StepLemmas.{all_steps}
use Rattle.gic_host.specs.Reading.{steps_of}
use Rattle.gic_host.proofs.reading.steps.Given as goal

-- the steps so far and those that are left are all
abbrev pub invariant-loop-index : goal.invariant-loop-index
invariant-loop-index l = all_steps l.steps (steps_of l.links l.vcpus l.loaded (l.index + 1) (map view (drop l.index l.values))) ≡ steps_of l.links l.vcpus true 1 (map view l.values)
