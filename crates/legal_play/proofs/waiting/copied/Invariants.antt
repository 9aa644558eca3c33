use Rattle.std.proofs.Common.{◌≡◌, take}
use Rattle.legal_play.proofs.waiting.copied.Given as goal

abbrev pub invariant-loop-actor : goal.invariant-loop-actor
invariant-loop-actor l = l.all ≡ take l.actor-index l.actors
