use Rattle.std.proofs.Common.{◌≡◌, ◌++◌, drop}
use Rattle.std.specs.Prelude.{filter_map}
use Rattle.legal_steps.specs.Waiting.{waiting_after}
use Rattle.legal_play.proofs.waiting.still_waiting.Given as goal

-- those so far, and what is left
abbrev pub invariant-loop-waiting : goal.invariant-loop-waiting
invariant-loop-waiting l = l.rest ++ filter_map (waiting_after l.moment) (drop l.waiting-index l.waits) ≡ filter_map (waiting_after l.moment) l.waits
