use Rattle.std.proofs.Common.{◌≡◌, drop}
use Rattle.std.specs.List.{list_all}
use Rattle.legal_steps.specs.Histories.{Course}
use Rattle.legal_steps.specs.Waiting.{may_be_answered}
use Rattle.legal_play.specs.Pieces.{AreCalls}
use Rattle.legal_play.proofs.answer.may_all_be_answered.Given as goal

-- each of those that are left, where each of all may
abbrev pub invariant-loop-waiting : goal.invariant-loop-waiting
invariant-loop-waiting l = (course : Course) → AreCalls course l.track l.pieces → list_all (may_be_answered l.shape course) (drop l.waiting-index l.waits) ≡ list_all (may_be_answered l.shape course) l.waits
