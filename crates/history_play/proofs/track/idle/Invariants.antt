use Rattle.std.proofs.Common.{◌≡◌, false, [], None, replicate}
use Rattle.history_check.specs.Histories.{Doing}
use Rattle.history_play.proofs.track.idle.Given as goal

abbrev pub invariant-loop-actor : goal.invariant-loop-actor
invariant-loop-actor l = l.doings ≡ replicate {A = Doing} l.actor (record { operation = None; number = 0; done = []; fetched = false })
