use Rattle.std.proofs.Common.{◌≡◌, ◌+◌, ◌≤◌, length, map, drop}
use Rattle.legal_steps.specs.LegalLists.Legal.{keys_of}
use Rattle.legal_play.proofs.may.key_count.Given as goal

-- those so far, and those that are left
abbrev pub invariant-loop-made : goal.invariant-loop-made
invariant-loop-made l = (l.count + length (keys_of (map (λ happened. happened.event) (drop l.made-index l.piece))) ≡ length (keys_of (map (λ happened. happened.event) l.piece))) × (l.count ≤ l.made-index)
