use Rattle.std.proofs.Common.{◌≡◌, map, drop}
use Rattle.std.specs.List.{list_any}
use Rattle.legal_steps.specs.LegalLists.Legal.{gives_back}
use Rattle.legal_play.proofs.may.is_given_back.Given as goal

abbrev pub invariant-loop-made : goal.invariant-loop-made
invariant-loop-made l = list_any gives_back (map (λ happened. happened.event) (drop l.made-index l.piece)) ≡ list_any gives_back (map (λ happened. happened.event) l.piece)
