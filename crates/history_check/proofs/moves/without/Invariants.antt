use Rattle.std.proofs.Common.{◌≡◌, take}
use Rattle.floor_histories.specs.Histories.{without}
use Rattle.history_check.proofs.moves.without.Given as goal

abbrev pub invariant-loop-one : goal.invariant-loop-one
invariant-loop-one l = l.rest ≡ without l.key (take l.one-index l.standing)
