use Rattle.std.proofs.Common.{◌≡◌, take}
use Rattle.history_check.proofs.moves.with_one.Given as goal

abbrev pub invariant-loop-other : goal.invariant-loop-other
invariant-loop-other l = l.all ≡ take l.other-index l.standing
