use Rattle.std.proofs.Common.{◌≡◌, ◌+◌, map, drop}
use Rattle.serde_json.specs.View.{view}
use Rattle.scn_read.proofs.StepLemmas.{all_steps}
use Rattle.trace_read.specs.Reading.{events_of}
use Rattle.trace_read.proofs.read.events.Given as goal

-- the events so far and those that are left are all
abbrev pub invariant-loop-index : goal.invariant-loop-index
invariant-loop-index l = all_steps l.events (events_of l.shape (l.first + l.index) (map view (drop l.index l.values))) ≡ events_of l.shape l.first (map view l.values)
