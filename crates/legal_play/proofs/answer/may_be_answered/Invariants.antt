use Rattle.std.proofs.Common.{◌≡◌, false, drop}
use Rattle.std.specs.List.{list_any}
use Rattle.std.specs.Option.{option_map_or}
use Rattle.legal_steps.specs.Histories.{Course, call_of}
use Rattle.legal_steps.specs.LegalLists.Legal.{may_make}
use Rattle.legal_play.specs.Pieces.{AreCalls}
use Rattle.legal_play.proofs.answer.may_be_answered.Given as goal

-- one of those that are left, if one of all may
abbrev pub invariant-loop-actor : goal.invariant-loop-actor
invariant-loop-actor l = (course : Course) → AreCalls course l.track l.pieces
    → list_any (λ actor. option_map_or (λ call. may_make l.shape actor call l.waiting.key) (call_of course actor) false) (drop l.actor-index l.waiting.actors)
    ≡ list_any (λ actor. option_map_or (λ call. may_make l.shape actor call l.waiting.key) (call_of course actor) false) l.waiting.actors
