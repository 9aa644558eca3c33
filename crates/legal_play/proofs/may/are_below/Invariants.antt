use Rattle.std.proofs.Common.{◌≡◌, nat_lt, map, drop}
use Rattle.std.specs.List.{list_all}
use Rattle.legal_steps.specs.Words.{intid_of}
use Rattle.legal_steps.specs.LegalLists.Legal.{keys_of}
use Rattle.legal_play.proofs.may.are_below.Given as goal

abbrev pub invariant-loop-made : goal.invariant-loop-made
invariant-loop-made l = list_all (λ key. nat_lt (intid_of key) l.id) (keys_of (map (λ happened. happened.event) (drop l.made-index l.piece))) ≡ list_all (λ key. nat_lt (intid_of key) l.id) (keys_of (map (λ happened. happened.event) l.piece))
