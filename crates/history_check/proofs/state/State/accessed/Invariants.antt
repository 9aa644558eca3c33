use Rattle.std.proofs.Common.{◌≡◌, map, take}
use Rattle.floor_histories.specs.Histories.{shown_at, standing_at}
use Rattle.history_check.specs.Access.{accessed_one}
use Rattle.history_check.proofs.state.State.accessed.Given as goal

-- what is left of those so far
abbrev pub invariant-loop-one : goal.invariant-loop-one
invariant-loop-one l = l.all ≡ map (accessed_one l.taken l.ended) (map (shown_at l.self) (take l.one-index (standing_at l.self l.vcpu)))
