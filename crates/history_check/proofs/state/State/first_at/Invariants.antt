use Rattle.std.proofs.Common.{◌≡◌, take}
use Rattle.std.specs.List.{filter_map}
use Rattle.floor_histories.specs.Registers.{first_of, candidate_of}
use Rattle.floor_histories.specs.Histories.{shown_at, standing_at}
use Rattle.history_check.proofs.state.State.first_at.Given as goal

-- the first of those so far
abbrev pub invariant-loop-one : goal.invariant-loop-one
invariant-loop-one l = l.first ≡ first_of (filter_map (λ one. candidate_of l.cpu (shown_at l.self one)) (take l.one-index (standing_at l.self l.vcpu)))
