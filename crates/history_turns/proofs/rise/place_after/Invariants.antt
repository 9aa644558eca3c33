use Rattle.std.proofs.Common.{◌≡◌, drop, fold}
use Rattle.history_turns.specs.Calls.{Happened}
use Rattle.history_turns.specs.Risen.{coming_to, place_after}
use Rattle.history_turns.proofs.rise.place_after.Given as goal

-- where those that are left come to from here
abbrev pub invariant-loop-made : goal.invariant-loop-made
invariant-loop-made l = fold (λ here (h : Happened). coming_to here h.event) l.here (drop l.made-index l.piece) ≡ place_after l.piece
