use Rattle.std.proofs.Common.{◌≡◌, [], None, replicate}
use Rattle.history_check.specs.Histories.{Changes}
use Rattle.history_play.proofs.track.unchanged.Given as goal

abbrev pub invariant-loop-place : goal.invariant-loop-place
invariant-loop-place l = l.changes ≡ replicate {A = Changes} l.place (record { last = None; since = [] })
