use Rattle.std.proofs.Common.{◌≡◌, true, map, drop}
use Rattle.std.specs.List.{list_any}
use Rattle.legal_steps.specs.LegalLists.Legal.{keys_of}
use Rattle.legal_play.proofs.may.has_key.Given as goal

abbrev pub invariant-loop-made : goal.invariant-loop-made
invariant-loop-made l = list_any (λ key. true) (keys_of (map (λ happened. happened.event) (drop l.made-index l.piece))) ≡ list_any (λ key. true) (keys_of (map (λ happened. happened.event) l.piece))
