use Rattle.std.proofs.Common.{◌≡◌, take}
use Rattle.history_play.proofs.changes.and_one.Given as goal

abbrev pub invariant-loop-turn : goal.invariant-loop-turn
invariant-loop-turn l = l.all ≡ take l.turn-index l.turns
