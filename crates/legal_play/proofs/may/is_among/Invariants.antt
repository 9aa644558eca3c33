use Rattle.std.proofs.Common.{◌≡◌, drop}
use Rattle.std.specs.List.{list_any}
use Rattle.legal_steps.specs.Words.{is_same_key}
use Rattle.legal_steps.specs.LegalLists.Legal.{keys_of}
use Rattle.legal_play.proofs.may.is_among.Given as goal

-- it is among those that are left, of which so many are still passed over
abbrev pub invariant-loop-event : goal.invariant-loop-event
invariant-loop-event l = list_any (is_same_key l.key) (drop l.before (keys_of (drop l.event-index l.events))) ≡ list_any (is_same_key l.key) (drop l.count (keys_of l.events))
