use Rattle.std.proofs.Common.{◌≡◌, drop}
use Rattle.floor_histories.specs.Histories.{is_to_come}
use Rattle.history_check.proofs.coming.is_to_come.Given as goal

-- the moments so far left it open
abbrev pub invariant-loop-moment : goal.invariant-loop-moment
invariant-loop-moment l = is_to_come l.actor l.key (drop l.moment-index l.later) ≡ is_to_come l.actor l.key l.later
