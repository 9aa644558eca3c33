use Rattle.std.proofs.Common.{◌≡◌, ◌==◌, not, filter, take}
use Rattle.legal_play.proofs.waiting.others.Given as goal

abbrev pub invariant-loop-other : goal.invariant-loop-other
invariant-loop-other l = l.all ≡ filter (λ other. not (l.actor == other)) (take l.other-index l.actors)
